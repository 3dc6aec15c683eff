-- A sequential read shows the ledger's bytes from the read address up, rolled over: after every list of events on every making of an
-- I2C part. From the answers. Assumes nothing.
use Prim.Native.Nat.{ℕ, ◌<◌}
use mathlib.Core.Path.{◌≡◌, ap, ◌∙◌}
use mathlib.Core.Bool.{Bool, false}
use mathlib.Core.List.{List}
use Rattle.parts.specs.declared.part.Part.{Part}
use Rattle.parts.specs.Table.{is_spi, part_of}
use Rattle.parts.proofs.Rows.{part_fits}
use Rattle.transfer.proofs.BufferLaws.{read_within}
use Rattle.chip.specs.declared.model.Model.{Model}
use Rattle.chip.proofs.CheckLaws.{model_in_lem}
use Rattle.ledger.specs.History.{Entry}
use Rattle.ledger.specs.I2cLedger.{Clock}
use Rattle.ledger.specs.I2cAnswers.{after_rises, last_fall, buffer_before, memory_now, pull_answer}
use Rattle.ledger.proofs.I2cSends.{span_sends}
use Rattle.promise.specs.I2cAnswers.{history, read_from, ReadSends}
use Rattle.promise.specs.Promise.{made_by}
use Rattle.promise.proofs.Ranges.{made_in, made_off}
use Rattle.promise.proofs.I2cAnswers.{list_present, list_inside}

module _ (part pins bits : ℕ) (first : List ℕ) (es : List (List ℕ)) where
  abbrev made : Model
  made = made_by part pins bits

  abbrev row : Part
  row = part_of made.part

  abbrev h : List Entry
  h = history part pins bits first es

  from_within : is_spi row.bus ≡ false → (ks : List Clock) (a16 : Bool) → last_fall h ≡ after_rises ks
      → read_from part pins bits first es a16 < row.size
  from_within i2c ks a16 q =
      read_within row (buffer_before row made.pins h) a16 (part_fits made.part (model_in_lem made (made_in part pins bits).0).known)
      (list_inside made first i2c (made_in part pins bits) (made_off part pins bits) es ks q)

  pub read_sends : ReadSends part pins bits first es
  read_sends i2c ks word vs a16 q n w l k =
      list_present made first i2c (made_in part pins bits) (made_off part pins bits) es
      ∙ rw q
      (ap pull_answer (span_sends row (memory_now row made.pins first h) made.pins (buffer_before row made.pins h) ks word vs a16
      (from_within i2c ks a16 q) n w l k))
