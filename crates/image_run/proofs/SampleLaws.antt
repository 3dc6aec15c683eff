-- An event that is a sample in range, on an image of a part under power: what it gives is what the bus rules give. And what they ask of the
-- fields holds of those of an image that is taken. Assumes nothing.
use Prim.Native.Nat.{ℕ, ◌<◌, ◌≤◌}
use mathlib.Core.Path.{◌≡◌}
use mathlib.Core.Bool.{true, false, not}
use mathlib.Core.List.{List}
use Rattle.std.specs.Prelude.{Option, None, Some}
use lib.ListN.{length, get_or}
use borrow.Author.Tests.{eq-eqb, lt-ltb, le-ltb, not-true}
use Rattle.parts.specs.declared.part.Part.{Part}
use Rattle.parts.specs.declared.part.Bus.{Bus}
use Rattle.parts.specs.Table.{is_spi, part_of}
use Rattle.parts.proofs.Rows.{and_both}
use Rattle.trace.specs.declared.event.Event.TheVariants.{Sample}
use Rattle.trace.specs.Event.{sample_limit}
use Rattle.trace.specs.Sample.{sample_first}
use Rattle.trace.proofs.SampleLaws.{sample_read}
use Rattle.chip.specs.Check.{Sound}
use Rattle.chip.proofs.CheckLaws.{sound_in}
use Rattle.events.specs.Event.{advance_of}
use Rattle.runs.specs.Event.{event_of}
use Rattle.runs.proofs.EventLaws.{event_whole}
use Rattle.samples.proofs.NextLaws.{limit_spi, limit_i2c}
use Rattle.image_fields.specs.declared.fields.Fields.{Fields}
use Rattle.image_fields.specs.State.{fields_of, state_in}
use Rattle.image.specs.Layout.{fields_in}
use Rattle.image.specs.Taken.{state_of, taken}
use Rattle.image.proofs.TakenLaws.{taken_fields, known_part}
use Rattle.image_sample.specs.declared.stepped.Stepped.{Stepped}
use Rattle.image_sample.specs.Stepped.{Gives}
use Rattle.image_run.specs.Sampled.{ImageGives}

module _ (b t m : List ℕ) (sound : Sound (state_of b) m) where
  abbrev bus : Bus
  bus = (part_of (state_of b).part).bus

  -- under power the bus is the part's
  spi_bus : (fields_in b).power ≡ 1 → is_spi bus ≡ true
  spi_bus h = (and_both (is_spi bus) _ (rw (eq-eqb (fields_in b).power 1 h) at (sound_in (state_of b) m sound).bus)).0

  i2c_bus : (fields_in b).power ≡ 2 → is_spi bus ≡ false
  i2c_bus h = not-true (is_spi bus) (and_both (not (is_spi bus)) _ (rw h at (sound_in (state_of b) m sound).bus)).0

  -- an event of two bytes or more, whose first is 4 and whose second lies below the limit
  sample_event : 2 ≤ length t → get_or t 0 0 ≡ 4 → get_or t 1 0 < sample_limit bus
      → event_of (state_of b) m t ≡ advance_of (state_of b) m (Sample (get_or t 1 0))
  sample_event l k h =
      let f : sample_first (sample_limit bus) t ≡ true = rw (le-ltb (length t) 2 l, eq-eqb (get_or t 0 0) 4 k, lt-ltb (get_or t 1 0) (sample_limit bus) h) in
      event_whole (state_of b) m t sound (Sample (get_or t 1 0)) 2 (sample_read (part_of (state_of b).part) t f)

  gives : (r : Option Stepped) → event_of (state_of b) m t ≡ advance_of (state_of b) m (Sample (get_or t 1 0)) → Gives (fields_in b) m (get_or t 1 0) r → ImageGives b t m r
  gives None e g = tt
  gives (Some r) e g = rw e g

  -- with image and fields as the code has them
  module _ (image : List ℕ) (same : image ≡ b) (f : Fields) (e : f ≡ fields_in image) (r : Option Stepped) where
    pub spi_told : f.power ≡ 1 → 2 ≤ length t → get_or t 0 0 ≡ 4 → get_or t 1 0 < 32 → Gives f m (get_or t 1 0) r → ImageGives b t m r
    spi_told p l k h g =
        gives r (sample_event l k (rw (limit_spi bus (spi_bus (rw (e, same) at p))) h)) (rw (e, same) at g)

    pub i2c_told : f.power ≡ 2 → 2 ≤ length t → get_or t 0 0 ≡ 4 → get_or t 1 0 < 8 → Gives f m (get_or t 1 0) r → ImageGives b t m r
    i2c_told p l k h g =
        gives r (sample_event l k (rw (limit_i2c bus (i2c_bus (rw (e, same) at p))) h)) (rw (e, same) at g)

-- ---- what the fields of an image that is taken are, as the code has both

module _ (b m : List ℕ) (h : taken b ≡ true) (sound : Sound (state_of b) m) (image : List ℕ) (same : image ≡ b) (f : Fields) (e : f ≡ fields_in image) where
  pub read_back : fields_of (state_in f) ≡ f
  read_back = rw (e, same) (taken_fields b h)

  pub known : f.part < 5
  known = rw (e, same) (known_part b h)

  -- what a sample asks, by the bus: its power, and the limit of its samples
  pub ready : {n x limit power : ℕ} {p : Part} → n ≡ f.part → p ≡ part_of n → f.power ≡ power → x < limit
      → (fields_of (state_in f) ≡ f) × (f.power ≡ power) × (x < limit) × (p ≡ part_of f.part) × Sound (state_in f) m
  ready en ep k l = (read_back, k, l, rw en at ep, rw (e, same) sound)
