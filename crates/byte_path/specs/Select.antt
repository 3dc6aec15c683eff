-- A selection as bytes, with its refusals: 1 to 3 as ever, 4 on an I2C part, 12 without power or with CS# of the last sample not 1, 13 for a buffer of another
-- length. A refusal leaves state, memory and buffer, and both figures are 0.
use Rattle.std.specs.Prelude.{ℕ, Bool, cond, List, eqb, length}
use Rattle.parts.specs.declared.refusal.Refusal.{Refusal}
use Rattle.parts.specs.declared.refusal.Refusal.TheVariants.{UnknownKind, NotDeselected, BufferLength}
use Rattle.parts.specs.Numbers.{refusal_number}
use Rattle.parts.specs.Table.{is_spi, part_of}
use Rattle.chip.specs.declared.model.BusState.{BusState}
use Rattle.chip.specs.declared.model.BusState.TheVariants.{Unpowered, SpiOn, I2cOn}
use Rattle.chip.specs.declared.model.Model.{Model}
use Rattle.chip.specs.Check.{check_of, Verdict, Passed, Failed}
use Rattle.byte_path.specs.PinPath.{bytes_of, first_driven, driven_count, Selection, selection_of}

-- all that it gives: number or 0, state, memory, the buffer, the index of the first driven byte and how many are driven
pub record Select : Type 0 where
  pub number : ℕ
  pub model : Model
  pub memory : List ℕ
  pub output : List ℕ
  pub first : ℕ
  pub count : ℕ

module _ (wp : Bool) (s : Model) (input output m : List ℕ) where
  abbrev pub refused_select : Refusal → Select
  refused_select r = record { number = refusal_number r; model = s; memory = m; output = output; first = 0; count = 0 }

  abbrev pub taken_select : Selection → Select
  taken_select t =
      record {
        number = 0;
        model = t.model;
        memory = t.memory;
        output = bytes_of t.back;
        first = first_driven t.back;
        count = driven_count t.back;
      }

  -- 13 where the lengths differ
  abbrev pub sized_select : Select
  sized_select = cond (eqb (length output) (length input)) (taken_select (selection_of wp s m input)) (refused_select BufferLength)

  -- 12 without power, or where CS# was not 1 in the last sample
  abbrev pub bus_select : BusState → Select
  bus_select Unpowered = refused_select NotDeselected
  bus_select (SpiOn x) = cond x.last.cs sized_select (refused_select NotDeselected)
  -- impossible: 1 and 2 come before
  bus_select (I2cOn x) = refused_select NotDeselected

  -- 4 on an I2C part
  abbrev pub part_select : Select
  part_select = cond (is_spi (part_of s.part).bus) (bus_select s.bus) (refused_select UnknownKind)

  -- 1, 2 and 3 before
  abbrev pub verdict_select : Verdict → Select
  verdict_select Passed = part_select
  verdict_select (Failed r) = refused_select r

  unfoldable pub select_of : Select
  select_of = verdict_select (check_of s (length m))
