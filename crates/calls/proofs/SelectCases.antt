-- A selection as bytes by its cases: what holds of each refusal that can come, and of the selection itself if state and memory passed,
-- holds of what it gives. By the order of its tests. Assumes nothing.
use Prim.Native.Nat.{ℕ}
use mathlib.Core.Path.{◌≡◌, refl}
use mathlib.Core.Bool.{Bool, true, false, cond}
use mathlib.Core.List.{List}
use lib.Dec.{eqb}
use lib.ListN.{length}
use Rattle.parts.specs.declared.refusal.Refusal.{Refusal}
use Rattle.parts.specs.declared.refusal.Refusal.TheVariants.{UnknownKind, NotDeselected, BufferLength}
use Rattle.parts.specs.Table.{is_spi, part_of}
use Rattle.chip.specs.declared.model.BusState.{BusState}
use Rattle.chip.specs.declared.model.BusState.TheVariants.{Unpowered, SpiOn, I2cOn}
use Rattle.chip.specs.declared.model.Model.{Model}
use Rattle.chip.specs.Check.{check_of, Sound, Verdict, Passed, Failed}
use Rattle.byte_path.specs.PinPath.{selection_of}
use Rattle.byte_path.specs.Select.{Select, refused_select, taken_select, sized_select, bus_select, verdict_select, select_of}

module _ (wp : Bool) (s : Model) (input output m : List ℕ) where
  abbrev pub refusal : Refusal → Select
  refusal = refused_select wp s input output m

  abbrev pub selection : Select
  selection = taken_select wp s input output m (selection_of wp s m input)

  -- 1 to 3, then 4, 12 and 13, then none
  module _ (P : Select → Type 0) (verdict : (r : Refusal) → check_of s (length m) ≡ Failed r → P (refusal r)) (four : P (refusal UnknownKind)) (twelve : P (refusal NotDeselected)) (thirteen : P (refusal BufferLength)) (taken : Sound s m → P selection) where
    tested : (t : Bool) (x : Select) (r : Refusal) → P x → P (refusal r) → P (cond t x (refusal r))
    tested true x r h k = h
    tested false x r h k = k

    sized : Sound s m → P (sized_select wp s input output m)
    sized c = tested (eqb (length output) (length input)) selection BufferLength (taken c) thirteen

    on_bus_lem : Sound s m → (b : BusState) → P (bus_select wp s input output m b)
    on_bus_lem c Unpowered = twelve
    on_bus_lem c (SpiOn x) = tested x.last.cs (sized_select wp s input output m) NotDeselected (sized c) twelve
    on_bus_lem c (I2cOn x) = twelve

    pub select_by : P (select_of wp s input output m)
    unfolding select_of
    select_by = by (check_of s (length m)) refl
      where
        by : (v : Verdict) → check_of s (length m) ≡ v → P (verdict_select wp s input output m v)
        by Passed c = tested (is_spi (part_of s.part).bus) (bus_select wp s input output m s.bus) UnknownKind (on_bus_lem c s.bus) four
        by (Failed r) c = verdict r c
