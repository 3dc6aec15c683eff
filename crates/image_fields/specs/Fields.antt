-- The fields of an image, compared one by one.
use Rattle.std.specs.Prelude.{ℕ, Bool, ◌&&◌, eqb}
use Rattle.image_fields.specs.declared.fields.PhaseFields.{PhaseFields}
use Rattle.image_fields.specs.declared.fields.Fields.{Fields}

abbrev pub phase_fields : ℕ → ℕ → ℕ → ℕ → ℕ → PhaseFields
phase_fields tag count value address detail = record { tag = tag; count = count; value = value; address = address; detail = detail }

-- a phase that has no numbers
abbrev pub only_tag : ℕ → PhaseFields
only_tag tag = phase_fields tag 0 0 0 0

abbrev pub same_phase : PhaseFields → PhaseFields → Bool
same_phase a b =
    eqb a.tag b.tag
    && (eqb a.count b.count && (eqb a.value b.value && (eqb a.address b.address && eqb a.detail b.detail)))

abbrev pub same_fields : Fields → Fields → Bool
same_fields a b =
    eqb a.part b.part
    && (eqb a.pins b.pins
    && (eqb a.status b.status
    && (eqb a.power b.power
    && (eqb a.last b.last
    && (eqb a.driven b.driven
    && (eqb a.asleep b.asleep
    && (eqb a.buffer b.buffer
    && (eqb a.used b.used
    && same_phase a.phase b.phase))))))))
