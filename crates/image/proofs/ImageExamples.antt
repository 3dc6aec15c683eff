-- The two dumps of docs/IMAGE.md: each is the image of the state that its text describes, and is taken; with an unused byte set it is not,
-- nor one byte longer. Computed. Assumes nothing.
use mathlib.Core.Path.{◌≡◌, refl}
use mathlib.Core.Bool.{true, false}
use mathlib.Core.List.{List, [], ◌∷◌, ◌++◌}
use Prim.Native.Nat.{ℕ}
use lib.ListN.{replicate, set}
use Rattle.parts.specs.declared.answer.Answer.TheVariants.{HighZ}
use Rattle.parts.specs.Status.{cleared, with_wel}
use Rattle.selection.specs.declared.phase.Field.TheVariants as SpiField
use Rattle.selection.specs.declared.phase.Phase.TheVariants as SpiPhase
use Rattle.selection.specs.Levels as SpiLevels
use Rattle.transfer.specs.declared.phase.Phase.TheVariants as I2cPhase
use Rattle.transfer.specs.Levels as I2cLevels
use Rattle.chip.specs.declared.model.BusState.TheVariants.{SpiOn, I2cOn}
use Rattle.chip.specs.declared.model.Model.{Model}
use Rattle.image_fields.specs.SpiPhase as SpiImage
use Rattle.image_fields.specs.I2cPhase as I2cImage
use Rattle.image.specs.Taken.{image_of, taken}

-- MR45V032A, WEL set, in a WRITE to 123h, after the bits 1 0 1 of the first data byte
abbrev writing : Model
writing =
    record {
      part = 0;
      pins = 0;
      status = with_wel cleared true;
      bus = SpiOn (record { last = SpiLevels.levels_of 0x1c; asleep = false; shown = HighZ; phase = SpiPhase.Taking (SpiField.Data 0x123 false) 3 5 });
    }

abbrev writing_dump : List ℕ
writing_dump =
    0x00 ∷ 0x00 ∷ 0x02 ∷ 0x01 ∷ 0x1c ∷ 0x02 ∷ 0x00 ∷ 0x15 ∷ 0x03 ∷ 0x00 ∷ 0x00 ∷ 0x05 ∷ 0x00 ∷ 0x01 ∷ 0x23 ∷ 0x00 ∷ replicate 16 0

pub first_dump : image_of writing ≡ writing_dump
first_dump = refl

pub first_taken : taken writing_dump ≡ true
unfolding taken SpiImage.phase_in
first_taken = refl

-- MS85RC1MTY with pins 2, sending the byte at 1FFFFh, of which eight bits are out
abbrev sending : Model
sending =
    record {
      part = 4;
      pins = 2;
      status = cleared;
      bus = I2cOn (record { last = I2cLevels.levels_of 0x02; pulling = false; buffer = record { address = 0x1fffe; used = true }; phase = I2cPhase.Sending 0x1ffff 8 });
    }

abbrev sending_dump : List ℕ
sending_dump =
    0x04 ∷ 0x02 ∷ 0x00 ∷ 0x02 ∷ 0x02 ∷ 0x02 ∷ 0x00 ∷ 0x28 ∷ 0x08 ∷ 0x00 ∷ 0x00 ∷ 0x00 ∷ 0x01 ∷ 0xff ∷ 0xff ∷ 0x00 ∷ 0x01 ∷ 0xff ∷ 0xfe ∷ 0x01 ∷ replicate 12 0

pub second_dump : image_of sending ≡ sending_dump
second_dump = refl

pub second_taken : taken sending_dump ≡ true
unfolding taken I2cImage.phase_in
second_taken = refl

-- ---- what is not taken

-- the last byte set, though no field uses it
pub unused_byte : taken (set writing_dump 31 1) ≡ false
unfolding taken SpiImage.phase_in
unused_byte = refl

-- a detail that the phase cannot have
pub other_detail : taken (set writing_dump 15 2) ≡ false
unfolding taken SpiImage.phase_in
other_detail = refl

pub one_byte_more : taken (writing_dump ++ (0 ∷ [])) ≡ false
unfolding taken SpiImage.phase_in
one_byte_more = refl
