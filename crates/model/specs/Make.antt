-- Making a model: which part, address pins and saved bits there can be, and the state without power that they give.
use Rattle.std.specs.Prelude.{ℕ, ◌/◌, ◌%◌, Bool, false, cond, ◌&&◌, ltb, eqb}
use Rattle.parts.specs.declared.part.Part.{Part}
use Rattle.parts.specs.declared.refusal.Refusal.TheVariants.{ModelRange}
use Rattle.parts.specs.declared.status.Status.{Status}
use Rattle.parts.specs.Numbers.{refusal_number}
use Rattle.parts.specs.Status.{cleared}
use Rattle.parts.specs.Table.{part_of}
use Rattle.chip.specs.Model.{unpowered}
use Rattle.model.specs.Made.{Made}

-- the register at a making, by its three saved bits from the highest down: SRWD, BP1, BP0; WEL is 0
abbrev pub status_of : ℕ → Status
status_of bits = record { srwd = eqb (bits / 4 % 2) 1; bp1 = eqb (bits / 2 % 2) 1; bp0 = eqb (bits % 2) 1; wel = false }

-- pins below the part's number of settings, and any three saved bits on a part that saves them, on the others 0
abbrev pub settings_in : Part → ℕ → ℕ → Bool
settings_in p pins bits = ltb pins p.pins && cond p.saved (ltb bits 8) (ltb bits 1)

abbrev pub make_in : ℕ → ℕ → ℕ → Bool
make_in part pins bits = ltb part 5 && settings_in (part_of part) pins bits

-- if refused, 1 and a model all the same: part 0 without power, pins and bits 0
unfoldable pub make_of : ℕ → ℕ → ℕ → Made
make_of part pins bits =
    cond (make_in part pins bits) (record { number = 0; model = unpowered part pins (status_of bits) })
    (record { number = refusal_number ModelRange; model = unpowered 0 0 cleared })
