-- One bit on the pins of a selected part: a counted rise takes it, and the counted fall after it shows what the phase then shows. So any
-- bits are a fold of rises. Assumes nothing.
use Prim.Native.Nat.{ℕ, ◌+◌}
use mathlib.Core.Path.{◌≡◌, refl, ap, ◌∙◌}
use mathlib.Core.Bool.{Bool, true, false, cond}
use mathlib.Core.List.{List, [], ◌∷◌}
use lib.Dec.{ltb}
use Rattle.parts.specs.declared.answer.Answer.{Answer}
use Rattle.parts.specs.declared.answer.Answer.TheVariants.{HighZ}
use Rattle.parts.specs.declared.part.Part.{Part}
use Rattle.parts.specs.declared.status.Status.{Status}
use Rattle.parts.specs.Numbers.{answer_number}
use Rattle.parts.specs.Table.{part_of}
use Rattle.serial.specs.Write.{applied}
use Rattle.selection.specs.declared.levels.Levels.{Levels}
use Rattle.selection.specs.declared.phase.Phase.{Phase}
use Rattle.selection.specs.declared.phase.Phase.TheVariants.{Rest, Ignoring, Taking, Showing, Waiting, Pending}
use Rattle.selection.specs.Levels.{levels_of}
use Rattle.selection.specs.Phase.{next_source, after_rise}
use Rattle.selection.proofs.LevelLaws.{levels_back}
use Rattle.spi.specs.declared.sample.Spi.{Spi}
use Rattle.spi.specs.Sample.{step_of}
use Rattle.spi.specs.Show.{after_fall}
use Rattle.spi.specs.Store.{rise_write}
use Rattle.chip.specs.declared.model.BusState.TheVariants.{SpiOn}
use Rattle.chip.specs.declared.model.Model.{Model}
use Rattle.chip.specs.Model.{model_of}
use Rattle.events.specs.Event.{spi_sampled, advance_of}
use Rattle.byte_path.specs.PinPath.{sample_of, Pins, left, sampled, clocked, clocked_all, answers_before}

-- the levels of a sample with HOLD# 1
abbrev pub levels : Bool → Bool → Bool → Bool → Levels
levels cs sck si wp = record { cs = cs; sck = sck; si = si; wp = wp; hold = true }

levels_are : (cs sck si wp : Bool) → levels_of (sample_of cs sck si wp) ≡ levels cs sck si wp
levels_are cs sck si wp = levels_back cs sck si wp true

module _ (part pins : ℕ) where
  abbrev row : Part
  row = part_of part

  abbrev on : Status → Spi → Model
  on st x = model_of part pins st (SpiOn x)

  -- a sample on the pins is a step of the bus; its flag is not among what is kept of it
  pub sampled_is : (st : Status) (x : Spi) (m : List ℕ) (a : ℕ) (cs sck si wp : Bool)
      → sampled (record { model = on st x; memory = m; answer = a }) (sample_of cs sck si wp)
      ≡ left (spi_sampled (on st x) m false (step_of row st x (levels cs sck si wp) m))
  unfolding advance_of
  sampled_is st x m a cs sck si wp =
      ap (λ (l : Levels). left (spi_sampled (on st x) m false (step_of row st x l m))) (levels_are cs sck si wp)

  module _ (st : Status) (z wp : Bool) where
    -- what the phase shows once SCK has fallen
    abbrev pub shows : Phase → List ℕ → Answer
    shows ph m = after_fall row st m ph HighZ

    -- a selected part after a fall of SCK, or after CS# fell: SCK low, SI so
    abbrev pub bus : Phase → List ℕ → Bool → Spi
    bus ph m si = record { last = levels false false si wp; asleep = z; shown = shows ph m; phase = ph }

    abbrev pub selected : Phase → List ℕ → Bool → Pins
    selected ph m si = record { model = on st (bus ph m si); memory = m; answer = answer_number (shows ph m) }

    -- the memory after a counted rise
    abbrev pub stored : Phase → List ℕ → Bool → List ℕ
    stored ph m b = applied (rise_write row st ph b) m

    -- once something is shown it goes on, and before nothing was
    shown_next : (ph : Phase) (m n : List ℕ) (b : Bool) → after_fall row st n (after_rise row ph b) (shows ph m) ≡ shows (after_rise row ph b) n
    shown_next Rest m n b = refl
    shown_next Ignoring m n b = refl
    shown_next (Taking f k v) m n b = refl
    shown_next (Showing s k) m n b = by (ltb k 7)
      where
        by : (t : Bool)
            → after_fall row st n (cond t (Showing s (k + 1)) (Showing (next_source row s) 0)) (shows (Showing s k) m)
            ≡ shows (cond t (Showing s (k + 1)) (Showing (next_source row s) 0)) n
        by true = refl
        by false = refl
    shown_next (Waiting a) m n b = refl
    shown_next (Pending v a) m n b = refl

    -- after the rise
    abbrev raised : Phase → List ℕ → Bool → Pins
    raised ph m b =
        record {
          model = on st (record { last = levels false true b wp; asleep = z; shown = shows ph m; phase = after_rise row ph b });
          memory = stored ph m b;
          answer = answer_number (shows ph m);
        }

    rise_taken : (ph : Phase) (m : List ℕ) (si b : Bool) → sampled (selected ph m si) (sample_of false true b wp) ≡ raised ph m b
    unfolding step_of
    rise_taken ph m si b = sampled_is st (bus ph m si) m (answer_number (shows ph m)) false true b wp

    fall_taken : (ph : Phase) (m : List ℕ) (b : Bool)
        → sampled (raised ph m b) (sample_of false false b wp) ≡ selected (after_rise row ph b) (stored ph m b) b
    unfolding step_of
    fall_taken ph m b = sampled_is st _ (stored ph m b) (answer_number (shows ph m)) false false b wp ∙ rw (shown_next ph m (stored ph m b) b)

    -- one bit
    pub bit_taken : (ph : Phase) (m : List ℕ) (si b : Bool) → clocked wp (selected ph m si) b ≡ selected (after_rise row ph b) (stored ph m b) b
    bit_taken ph m si b = ap (λ (a : Pins). sampled a (sample_of false false b wp)) (rise_taken ph m si b) ∙ fall_taken ph m b

    -- ---- any bits

    abbrev pub phase_bits : Phase → List Bool → Phase
    phase_bits ph [] = ph
    phase_bits ph (b ∷ bs) = phase_bits (after_rise row ph b) bs

    abbrev pub memory_bits : Phase → List ℕ → List Bool → List ℕ
    memory_bits ph m [] = m
    memory_bits ph m (b ∷ bs) = memory_bits (after_rise row ph b) (stored ph m b) bs

    abbrev pub answer_bits : Phase → List ℕ → List Bool → List ℕ
    answer_bits ph m [] = []
    answer_bits ph m (b ∷ bs) = answer_number (shows ph m) ∷ answer_bits (after_rise row ph b) (stored ph m b) bs

    abbrev pub last_bit : Bool → List Bool → Bool
    last_bit si [] = si
    last_bit si (b ∷ bs) = last_bit b bs

    pub bits_taken : (bs : List Bool) (ph : Phase) (m : List ℕ) (si : Bool)
        → clocked_all wp (selected ph m si) bs ≡ selected (phase_bits ph bs) (memory_bits ph m bs) (last_bit si bs)
    bits_taken [] ph m si = refl
    bits_taken (b ∷ bs) ph m si =
        ap (λ (a : Pins). clocked_all wp a bs) (bit_taken ph m si b) ∙ bits_taken bs (after_rise row ph b) (stored ph m b) b

    pub bits_answered : (bs : List Bool) (ph : Phase) (m : List ℕ) (si : Bool) → answers_before wp (selected ph m si) bs ≡ answer_bits ph m bs
    bits_answered [] ph m si = refl
    bits_answered (b ∷ bs) ph m si =
        ap (λ (a : Pins). answer_number (shows ph m) ∷ answers_before wp a bs) (bit_taken ph m si b)
        ∙ ap (λ (l : List ℕ). answer_number (shows ph m) ∷ l) (bits_answered bs (after_rise row ph b) (stored ph m b) b)
