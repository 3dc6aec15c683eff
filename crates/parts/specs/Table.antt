-- The five parts: document 01's table, one row for each part number.
use Rattle.std.specs.Prelude.{ℕ, ◌<◌, ◌≤◌, ◌^◌, ◌%◌, ◌≡◌, Bool, true, false, cond, ◌&&◌, List, [], ◌∷◌, ltb, leb, eqb, get_or}
use Rattle.parts.specs.declared.part.Bus.{Bus}
use Rattle.parts.specs.declared.part.Bus.TheVariants.{Spi, I2c}
use Rattle.parts.specs.declared.part.Part.{Part}

abbrev pub is_spi : Bus → Bool
is_spi Spi = true
is_spi I2c = false

-- sheet 003
abbrev pub mr45v032a : Part
mr45v032a =
    record {
      bus = Spi;
      size = 4096;
      width = 16;
      a16 = false;
      pins = 1;
      fstrd = false;
      rdid = false;
      sleep = false;
      identity = 0 ∷ 0 ∷ 0 ∷ [];
      saved = false;
      late = false;
    }

-- sheet 000
abbrev pub mr45v100a : Part
mr45v100a =
    record {
      bus = Spi;
      size = 131072;
      width = 24;
      a16 = false;
      pins = 1;
      fstrd = true;
      rdid = true;
      sleep = true;
      identity = 0xae ∷ 0x83 ∷ 0x9 ∷ [];
      saved = true;
      late = true;
    }

-- sheet 004
abbrev pub mr45v200b : Part
mr45v200b =
    record {
      bus = Spi;
      size = 262144;
      width = 24;
      a16 = false;
      pins = 1;
      fstrd = false;
      rdid = true;
      sleep = false;
      identity = 0xae ∷ 0x83 ∷ 0x1a ∷ [];
      saved = true;
      late = false;
    }

-- sheet 001
abbrev pub mr44v064b : Part
mr44v064b =
    record {
      bus = I2c;
      size = 8192;
      width = 16;
      a16 = false;
      pins = 8;
      fstrd = false;
      rdid = false;
      sleep = false;
      identity = 0 ∷ 0 ∷ 0 ∷ [];
      saved = false;
      late = false;
    }

-- sheet 002
abbrev pub ms85rc1mty : Part
ms85rc1mty =
    record {
      bus = I2c;
      size = 131072;
      width = 17;
      a16 = true;
      pins = 4;
      fstrd = false;
      rdid = false;
      sleep = false;
      identity = 0 ∷ 0 ∷ 0 ∷ [];
      saved = false;
      late = false;
    }

-- an empty row, which a number past the table stands for
abbrev pub no_part : Part
no_part =
    record {
      bus = Spi;
      size = 0;
      width = 0;
      a16 = false;
      pins = 0;
      fstrd = false;
      rdid = false;
      sleep = false;
      identity = [];
      saved = false;
      late = false;
    }

-- in the order of the part numbers
abbrev pub parts : List Part
parts = mr45v032a ∷ mr45v100a ∷ mr45v200b ∷ mr44v064b ∷ ms85rc1mty ∷ []

abbrev pub part_of : ℕ → Part
part_of n = get_or parts n no_part

-- what the buses rely on in a part's constants
pub record Fit (p : Part) : Type 0 where
  pub positive : 0 < p.size
  pub small : p.size ≤ 262144
  pub addressable : p.size ≤ 2 ^ p.width
  pub quartered : p.size % 4 ≡ 0
  pub wide : 0 < p.width
  pub narrow : p.width ≤ 24
  pub few : p.pins ≤ 8
  pub a16_size : p.a16 ≡ true → p.size ≡ 131072

-- the same as one test of a row
abbrev pub fits : Part → Bool
fits p =
    ltb 0 p.size
    && (leb p.size 262144
    && (leb p.size (2 ^ p.width)
    && (eqb (p.size % 4) 0
    && (ltb 0 p.width
    && (leb p.width 24
    && (leb p.pins 8
    && cond p.a16 (eqb p.size 131072) true))))))
