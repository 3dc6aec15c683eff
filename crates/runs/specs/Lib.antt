pub mod Event
pub mod Figures
pub mod Run
pub mod Rules
