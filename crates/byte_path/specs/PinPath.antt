-- One selection as bytes, on the pins: CS# falls with SCK low and SI 0; each bit, the most significant of a byte first, is a sample with
-- SCK high and SI at the bit, and one with SCK low and SI kept; CS# rises with SCK low and SI kept. HOLD# is 1 and WP# stays.
use Rattle.std.specs.Prelude.{ℕ, suc, ◌+◌, ◌*◌, Bool, true, false, cond, List, [], ◌∷◌, eqb}
use Rattle.parts.specs.Status.{bit}
use Rattle.serial.specs.Bits.{bit_at}
use Rattle.trace.specs.declared.event.Event.TheVariants.{Sample}
use Rattle.chip.specs.declared.model.Model.{Model}
use Rattle.events.specs.Event.{Outcome, advance_of}

-- ---- samples

-- CS#, SCK, SI and WP# of a sample with HOLD# 1
abbrev pub sample_of : Bool → Bool → Bool → Bool → ℕ
sample_of cs sck si wp = bit cs + 2 * bit sck + 4 * bit si + 8 * bit wp + 16

-- what a sample leaves: state and memory, and what it answered
pub record Pins : Type 0 where
  pub model : Model
  pub memory : List ℕ
  pub answer : ℕ

abbrev pub left : Outcome → Pins
left o = record { model = o.result.model; memory = o.memory; answer = o.result.answer }

-- one sample, as the definition of one event takes it
abbrev pub sampled : Pins → ℕ → Pins
sampled a x = left (advance_of a.model a.memory (Sample x))

module _ (wp : Bool) where
  -- one bit
  abbrev pub clocked : Pins → Bool → Pins
  clocked a b = sampled (sampled a (sample_of false true b wp)) (sample_of false false b wp)

  abbrev pub clocked_all : Pins → List Bool → Pins
  clocked_all a [] = a
  clocked_all a (b ∷ bs) = clocked_all (clocked a b) bs

  -- the answers just before the rises that take these bits
  abbrev pub answers_before : Pins → List Bool → List ℕ
  answers_before a [] = []
  answers_before a (b ∷ bs) = a.answer ∷ answers_before (clocked a b) bs

-- ---- bytes

abbrev pub bits_of : ℕ → List Bool
bits_of v =
    bit_at v 0 ∷ bit_at v 1 ∷ bit_at v 2 ∷ bit_at v 3 ∷ bit_at v 4 ∷ bit_at v 5 ∷ bit_at v 6 ∷ bit_at v 7 ∷ []

-- answers as a byte that comes back: where nothing is driven the bit is 1
abbrev pub back_bit : ℕ → ℕ
back_bit a = cond (eqb a 2) 1 a

abbrev pub back_from : ℕ → List ℕ → ℕ
back_from v [] = v
back_from v (a ∷ more) = back_from (2 * v + back_bit a) more

-- whether some bit of it was driven
abbrev pub driven_in : List ℕ → Bool
driven_in [] = false
driven_in (a ∷ more) = cond (eqb a 2) (driven_in more) true

-- a byte that comes back, and whether it was driven
pub record Back : Type 0 where
  pub byte : ℕ
  pub driven : Bool

abbrev pub back_of : List ℕ → Back
back_of answers = record { byte = back_from 0 answers; driven = driven_in answers }

module _ (wp : Bool) where
  abbrev pub bytes_taken : Pins → List ℕ → Pins
  bytes_taken a [] = a
  bytes_taken a (v ∷ vs) = bytes_taken (clocked_all wp a (bits_of v)) vs

  abbrev pub bytes_back : Pins → List ℕ → List Back
  bytes_back a [] = []
  bytes_back a (v ∷ vs) = back_of (answers_before wp a (bits_of v)) ∷ bytes_back (clocked_all wp a (bits_of v)) vs

-- SI at the last bit, 0 if there is none
abbrev pub last_si : Bool → List ℕ → Bool
last_si si [] = si
last_si si (v ∷ vs) = last_si (bit_at v 7) vs

-- ---- the selection

abbrev pub bytes_of : List Back → List ℕ
bytes_of [] = []
bytes_of (b ∷ bs) = b.byte ∷ bytes_of bs

-- the index of the first driven byte, or the length
abbrev pub first_driven : List Back → ℕ
first_driven [] = 0
first_driven (b ∷ bs) = cond b.driven 0 (suc (first_driven bs))

-- how many are driven
abbrev pub driven_count : List Back → ℕ
driven_count [] = 0
driven_count (b ∷ bs) = bit b.driven + driven_count bs

-- what a selection as bytes gives: state, memory, the bytes that came back
pub record Selection : Type 0 where
  pub model : Model
  pub memory : List ℕ
  pub back : List Back

module _ (wp : Bool) (s : Model) (m input : List ℕ) where
  -- CS# has fallen; no bit comes back before the first answer, so what stands for one does not count
  abbrev pub fallen : Pins
  fallen = sampled (record { model = s; memory = m; answer = 2 }) (sample_of false false false wp)

  -- CS# has risen
  abbrev pub risen : Pins
  risen = sampled (bytes_taken wp fallen input) (sample_of true false (last_si false input) wp)

  unfoldable pub selection_of : Selection
  selection_of = record { model = risen.model; memory = risen.memory; back = bytes_back wp fallen input }
