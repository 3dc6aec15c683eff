pub mod MadeRun
