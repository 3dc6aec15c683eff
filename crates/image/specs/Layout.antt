-- Where each field of an image stands among its 32 bytes (docs/IMAGE.md).
use Rattle.std.specs.Prelude.{ℕ, ◌<◌, List, [], ◌∷◌, ◌++◌, get_or, replicate}
use Rattle.image_fields.specs.declared.fields.PhaseFields.{PhaseFields}
use Rattle.image_fields.specs.declared.fields.Fields.{Fields}
use Rattle.image.specs.Bytes.{bytes_of, three_at}
use Rattle.image_fields.specs.Fields.{phase_fields}

-- a byte for each field but value, address and address buffer, which have three. Here bytes 0 to 7
abbrev pub head_bytes : Fields → List ℕ
head_bytes f =
    f.part
    ∷ f.pins
    ∷ f.status
    ∷ f.power
    ∷ f.last
    ∷ f.driven
    ∷ f.asleep
    ∷ f.phase.tag
    ∷ []

-- bytes 8 to 15
abbrev pub phase_bytes : PhaseFields → List ℕ
phase_bytes x = x.count ∷ (bytes_of 3 x.value ++ (bytes_of 3 x.address ++ (x.detail ∷ [])))

-- bytes 16 to 23, of which the last four are not used
abbrev pub buffer_bytes : Fields → List ℕ
buffer_bytes f = bytes_of 3 f.buffer ++ (f.used ∷ replicate 4 0)

-- and bytes 24 to 31, which are not used
abbrev pub spelled : Fields → List ℕ
spelled f = head_bytes f ++ (phase_bytes f.phase ++ (buffer_bytes f ++ replicate 8 0))

-- the fields that some bytes hold
abbrev pub fields_in : List ℕ → Fields
fields_in b =
    record {
      part = get_or b 0 0;
      pins = get_or b 1 0;
      status = get_or b 2 0;
      power = get_or b 3 0;
      last = get_or b 4 0;
      driven = get_or b 5 0;
      asleep = get_or b 6 0;
      phase = phase_fields (get_or b 7 0) (get_or b 8 0) (three_at b 9) (three_at b 12) (get_or b 15 0);
      buffer = three_at b 16;
      used = get_or b 19 0;
    }

-- the numbers of three bytes fit them
pub record SmallPhase (x : PhaseFields) : Type 0 where
  pub value : x.value < 16777216
  pub address : x.address < 16777216

pub record Small (f : Fields) : Type 0 where
  pub phase : SmallPhase f.phase
  pub buffer : f.buffer < 16777216
