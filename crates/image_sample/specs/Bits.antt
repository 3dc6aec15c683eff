-- A phase's fields after a rise before the last bit. These definitions only say how the code takes such rises.
use Rattle.std.specs.Prelude.{ℕ, ◌+◌, ◌-◌, Bool, cond, ltb}
use Rattle.parts.specs.declared.part.Part.{Part}
use Rattle.serial.specs.Bits.{shifted}
use Rattle.image_fields.specs.declared.fields.PhaseFields.{PhaseFields}
use Rattle.image_fields.specs.Fields.{phase_fields}

-- how many bits of an SPI part's phase come before the last one, by its tag; for a phase without bits any number does, but none if a data
-- byte waits
abbrev pub early_at : Part → ℕ → ℕ
early_at p tag = cond (ltb tag 0x11) 7 (cond (ltb tag 0x14) (p.width - 1) (cond (ltb tag 0x34) 7 0))

-- one bit is counted, and the number that the bits make is v
abbrev pub counted : PhaseFields → ℕ → PhaseFields
counted x v = phase_fields x.tag (x.count + 1) v x.address x.detail

-- by the tag's first digit: bits come in at 1, go out at 2, and no rise changes another phase
abbrev pub one_more : PhaseFields → Bool → PhaseFields
one_more x b = cond (ltb x.tag 0x10) x (cond (ltb x.tag 0x20) (counted x (shifted x.value b)) (cond (ltb x.tag 0x30) (counted x x.value) x))
