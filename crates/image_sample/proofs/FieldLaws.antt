-- Fields that are those of the state that they read as, field by field. Assumes nothing.
use mathlib.Core.Path.{◌≡◌, sym, ap}
use lib.Dec.{eqb}
use Rattle.parts.specs.Numbers.{answer_number}
use Rattle.parts.specs.Status.{bit, status_byte}
use Rattle.i2c.specs.Sample.{answer_of}
use Rattle.image_fields.specs.declared.fields.Fields.{Fields}
use Rattle.image_fields.specs.SpiPhase as SpiPhase
use Rattle.image_fields.specs.I2cPhase as I2cPhase
use Rattle.image_fields.specs.State.{fields_of, status_in, answer_in, state_in}

-- ---- what a field reads as has that field

pub record SpiSame (f : Fields) : Type 0 where
  pub status : status_byte (status_in f.status) ≡ f.status
  pub driven : answer_number (answer_in f.driven) ≡ f.driven
  pub asleep : bit (eqb f.asleep 1) ≡ f.asleep
  pub phase : SpiPhase.fields_of (SpiPhase.phase_in f.phase) ≡ f.phase
  pub buffer : f.buffer ≡ 0
  pub used : f.used ≡ 0

pub spi_same : (f : Fields) → fields_of (state_in f) ≡ f → f.power ≡ 1 → SpiSame f
spi_same f same on =
    record {
      status = rw on at (ap (λ (y : Fields). y.status) same);
      driven = rw on at (ap (λ (y : Fields). y.driven) same);
      asleep = rw on at (ap (λ (y : Fields). y.asleep) same);
      phase = rw on at (ap (λ (y : Fields). y.phase) same);
      buffer = sym (rw on at (ap (λ (y : Fields). y.buffer) same));
      used = sym (rw on at (ap (λ (y : Fields). y.used) same));
    }

pub record I2cSame (f : Fields) : Type 0 where
  pub status : status_byte (status_in f.status) ≡ f.status
  pub driven : answer_number (answer_of (eqb f.driven 0)) ≡ f.driven
  pub used : bit (eqb f.used 1) ≡ f.used
  pub phase : I2cPhase.fields_of (I2cPhase.phase_in f.phase) ≡ f.phase
  pub asleep : f.asleep ≡ 0

pub i2c_same : (f : Fields) → fields_of (state_in f) ≡ f → f.power ≡ 2 → I2cSame f
i2c_same f same on =
    record {
      status = rw on at (ap (λ (y : Fields). y.status) same);
      driven = rw on at (ap (λ (y : Fields). y.driven) same);
      used = rw on at (ap (λ (y : Fields). y.used) same);
      phase = rw on at (ap (λ (y : Fields). y.phase) same);
      asleep = sym (rw on at (ap (λ (y : Fields). y.asleep) same));
    }
