-- The image of a state, the state of an image, and which buffers are images: those that are the image of the state that they read as, if it
-- passes 1 and 2.
use Rattle.std.specs.Prelude.{ℕ, ◌<◌, ◌≡◌, Bool, true, ◌&&◌, List, [], ◌∷◌, eqb, length, drop, get_or}
use Rattle.parts.specs.Table.{part_of}
use Rattle.chip.specs.declared.model.Model.{Model}
use Rattle.chip.specs.Check.{model_in, bus_in}
use Rattle.image_fields.specs.declared.fields.Fields.{Fields}
use Rattle.image_fields.specs.Fields.{same_fields}
use Rattle.image.specs.Layout.{spelled, fields_in}
use Rattle.image_fields.specs.State.{fields_of, state_in}

abbrev pub image_of : Model → List ℕ
image_of s = spelled (fields_of s)

abbrev pub state_of : List ℕ → Model
state_of b = state_in (fields_in b)

-- neither 1 nor 2 is given for the state
abbrev pub in_range : Model → Bool
in_range s = model_in s && bus_in (part_of s.part) s.status s.bus

abbrev pub zeros : List ℕ → Bool
zeros [] = true
zeros (x ∷ xs) = eqb x 0 && zeros xs

-- the fields are those of the state that they read as, which passes
abbrev pub takes_fields : Fields → Bool
takes_fields f = same_fields (fields_of (state_in f)) f && in_range (state_in f)

-- 32 bytes, of which those that no field uses are 0
unfoldable pub taken : List ℕ → Bool
taken b = eqb (length b) 32 && (zeros (drop 20 b) && takes_fields (fields_in b))

-- a buffer that holds bytes, at any index
abbrev pub Bytes : List ℕ → Type 0
Bytes b = (i : ℕ) → get_or b i 0 < 256

-- a buffer is the image of a state that passes, and of no other
pub record ImageOf (b : List ℕ) : Type 0 where
  pub state : Model
  pub passes : in_range state ≡ true
  pub image : image_of state ≡ b
  pub only : (s : Model) → in_range s ≡ true → image_of s ≡ b → s ≡ state
