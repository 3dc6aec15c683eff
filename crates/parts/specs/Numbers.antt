-- The numbers of document 01, and of document 02 from 10 on, for each refusal and each answer.
use Rattle.std.specs.Prelude.{ℕ, Bool, true, false, Option, Some, None, cond, eqb}
use Rattle.parts.specs.declared.answer.Answer.{Answer}
use Rattle.parts.specs.declared.answer.Answer.TheVariants.{Low, High, HighZ}
use Rattle.parts.specs.declared.refusal.Refusal.{Refusal}
use Rattle.parts.specs.declared.refusal.Refusal.TheVariants.{ModelRange, StateRange, MemoryLength, UnknownKind, Truncated, SampleRange, StartRange, ExpectedRange, Unpowered, Powered, Unexpected, NotDeselected, BufferLength}

-- 'Numbers given back' of document 01, and 10 to 13 of document 02, in the order in which they are tested
abbrev pub refusal_number : Refusal → ℕ
refusal_number ModelRange = 1
refusal_number StateRange = 2
refusal_number MemoryLength = 3
refusal_number UnknownKind = 4
refusal_number Truncated = 5
refusal_number SampleRange = 6
refusal_number StartRange = 10
refusal_number ExpectedRange = 11
refusal_number Unpowered = 7
refusal_number Powered = 8
refusal_number Unexpected = 9
refusal_number NotDeselected = 12
refusal_number BufferLength = 13

-- 0 for a call that is not refused
abbrev pub number_of : Option Refusal → ℕ
number_of None = 0
number_of (Some r) = refusal_number r

-- what the part drives, as a number; 2 is for nothing (document 01, Models and events)
abbrev pub answer_number : Answer → ℕ
answer_number Low = 0
answer_number High = 1
answer_number HighZ = 2

-- the answer of a number, which is one of them; any other reads as nothing
abbrev pub answer_in : ℕ → Answer
answer_in x = cond (eqb x 0) Low (cond (eqb x 1) High HighZ)

-- the answer that drives a bit
abbrev pub level_of : Bool → Answer
level_of true = High
level_of false = Low
