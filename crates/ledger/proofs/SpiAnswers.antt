-- Every sample keeps what an SPI part shows at what the last counted fall of its open selection shows by the ledger's reading, with
-- the memory and the status register as they are now: while a command shows bytes nothing is stored and the register stays. For
-- every part that fits. Assumes nothing.
use Prim.Native.Nat.{ℕ, ◌+◌}
use mathlib.Core.Path.{◌≡◌, refl, sym, ◌∙◌}
use mathlib.Core.Bool.{Bool, true, false, cond, false≢true}
use mathlib.Core.List.{List, [], ◌∷◌}
use lib.Dec.{ltb}
use Rattle.parts.specs.declared.answer.Answer.{Answer}
use Rattle.parts.specs.declared.answer.Answer.TheVariants.{HighZ}
use Rattle.parts.specs.declared.part.Part.{Part}
use Rattle.parts.specs.declared.status.Status.{Status}
use Rattle.parts.specs.Numbers.{answer_number}
use Rattle.parts.specs.Table.{Fit}
use Rattle.std.specs.Prelude.{None}
use Rattle.serial.specs.Write.{applied}
use Rattle.selection.specs.declared.edge.Edge.{Edge}
use Rattle.selection.specs.declared.edge.Edge.TheVariants.{Select, Deselect, Rise, Fall, Quiet}
use Rattle.selection.specs.declared.levels.Levels.{Levels}
use Rattle.selection.specs.declared.phase.Phase.{Phase}
use Rattle.selection.specs.declared.phase.Phase.TheVariants.{Rest, Ignoring, Taking, Showing, Waiting, Pending}
use Rattle.spi.specs.declared.sample.Spi.{Spi}
use Rattle.selection.specs.Edge.{edge_of}
use Rattle.selection.specs.Phase.{next_source, after_rise}
use Rattle.spi.specs.Sample.{step_on, step_of}
use Rattle.spi.specs.Show.{after_fall, answer_at}
use Rattle.spi.specs.Store.{rise_write}
use Rattle.ledger.specs.SpiLedger.{unended, ended, Item, power_on, power_off, selection, asleep, SavedBits}
use Rattle.ledger.specs.SpiAnswers.{LastFall, no_fall, after_rises, fall_in, fall_on, fall_shows, unless_held}
use Rattle.ledger.proofs.SpiFits.{at_power, opened, phase_now, Good}
use Rattle.ledger.proofs.SpiSources.{phase_shows}
use Rattle.ledger.proofs.SpiShows.{selection_shows}

abbrev pub is_showing : Phase → Bool
is_showing Rest = false
is_showing Ignoring = false
is_showing (Taking f n v) = false
is_showing (Showing s k) = true
is_showing (Waiting a) = false
is_showing (Pending v a) = false

-- the answer by what is shown
pub answer_held : (l : Levels) (a : Answer) → answer_number (answer_at l a) ≡ unless_held l (answer_number a)
answer_held l a = by l.cs l.hold
  where
    by : (c h : Bool) → answer_number (cond c HighZ (cond h a HighZ)) ≡ cond c 2 (cond h (answer_number a) 2)
    by true h = refl
    by false true = refl
    by false false = refl

-- nothing shown
pub held_two : (l : Levels) → unless_held l 2 ≡ 2
held_two l = by l.cs l.hold
  where
    by : (c h : Bool) → ◌≡◌ {A = ℕ} (cond c 2 (cond h 2 2)) 2
    by true h = refl
    by false true = refl
    by false false = refl

module _ (p : Part) where
  -- what is shown is what the last counted fall shows; before output starts that is nothing, whatever memory and register hold
  pub record Shows (st : Status) (s : Spi) (m : List ℕ) (f : LastFall) : Type 0 where
    pub shown_is : answer_number s.shown ≡ fall_shows p st m f
    pub before : is_showing s.phase ≡ false → (st' : Status) (m' : List ℕ) → fall_shows p st' m' f ≡ 2

  -- ---- a counted rise

  -- output goes on to the end of the selection
  goes_on : (ph : Phase) (x : Bool) → is_showing (after_rise p ph x) ≡ false → is_showing ph ≡ false
  goes_on Rest x h = refl
  goes_on Ignoring x h = refl
  goes_on (Taking f n v) x h = refl
  goes_on (Showing s k) x h = by (ltb k 7) h
    where
      by : (t : Bool) → is_showing (cond t (Showing s (k + 1)) (Showing (next_source p s) 0)) ≡ false → true ≡ false
      by true q = q
      by false q = q
  goes_on (Waiting a) x h = refl
  goes_on (Pending v a) x h = refl

  -- and stores nothing
  no_write : (st : Status) (ph : Phase) (x : Bool) → is_showing ph ≡ true → rise_write p st ph x ≡ None
  no_write st Rest x h = refl
  no_write st Ignoring x h = refl
  no_write st (Taking f n v) x h = absurd (false≢true h)
  no_write st (Showing s k) x h = refl
  no_write st (Waiting a) x h = refl
  no_write st (Pending v a) x h = absurd (false≢true h)

  rise_same : (y : Bool) (st : Status) (s : Spi) (m : List ℕ) (f : LastFall) (x : Bool) → is_showing s.phase ≡ y → Shows st s m f
      → fall_shows p st m f ≡ fall_shows p st (applied (rise_write p st s.phase x) m) f
  rise_same true st s m f x q g = rw (no_write st s.phase x q)
  rise_same false st s m f x q g = g.before q st m ∙ sym (g.before q st _)

  -- ---- a counted fall

  -- without output what was shown is shown on, and that is nothing
  fall_shows_lem : (fit : Fit p) (st : Status) (m : List ℕ) (ph : Phase) (old : Answer) → (is_showing ph ≡ false → answer_number old ≡ 2)
      → answer_number (after_fall p st m ph old) ≡ phase_shows p fit.positive st m ph
  fall_shows_lem fit st m Rest old h = h refl
  fall_shows_lem fit st m Ignoring old h = h refl
  fall_shows_lem fit st m (Taking f n v) old h = h refl
  fall_shows_lem fit st m (Showing s k) old h = refl
  fall_shows_lem fit st m (Waiting a) old h = h refl
  fall_shows_lem fit st m (Pending v a) old h = h refl

  silent_shows : (fit : Fit p) (st : Status) (m : List ℕ) (ph : Phase) → is_showing ph ≡ false → phase_shows p fit.positive st m ph ≡ 2
  silent_shows fit st m Rest h = refl
  silent_shows fit st m Ignoring h = refl
  silent_shows fit st m (Taking f n v) h = refl
  silent_shows fit st m (Showing s k) h = absurd (false≢true (sym h))
  silent_shows fit st m (Waiting a) h = refl
  silent_shows fit st m (Pending v a) h = refl

  module _ (fit : Fit p) (st : Status) (m : List ℕ) where
    power_shows : (cs : Bool) → phase_shows p fit.positive st m (at_power cs) ≡ 2
    power_shows true = refl
    power_shows false = refl

    opened_shows : (y : Bool) (bs : List Bool)
        → phase_shows p fit.positive st m (opened p y bs) ≡ fall_shows p st m (cond y no_fall (after_rises bs))
    opened_shows true bs = refl
    opened_shows false bs = selection_shows p fit.positive st m fit.wide bs

    -- the phase that the items stand for shows what a fall in them shows
    now_shows : (cs : Bool) (is : List Item) → phase_shows p fit.positive st m (phase_now p cs is) ≡ fall_shows p st m (fall_in p is)
    now_shows cs [] = power_shows cs
    now_shows cs (power_on ∷ is) = power_shows cs
    now_shows cs (power_off ∷ is) = power_shows cs
    now_shows cs (selection bs unended ∷ is) = opened_shows (asleep p is) bs
    now_shows cs (selection bs (ended wp) ∷ is) = power_shows cs

  -- ---- one sample

  module _ (made : SavedBits) (m₀ : List ℕ) (fit : Fit p) (st : Status) (s : Spi) (l : Levels) (m : List ℕ) (is : List Item) (f : LastFall)
      (good : Good p made m₀ st s m is) (g : Shows st s m f) where
    phase_shows_lem : (st' : Status) (m' : List ℕ) → phase_shows p fit.positive st' m' s.phase ≡ fall_shows p st' m' (fall_in p is)
    phase_shows_lem st' m' = rw good.phase_is (now_shows fit st' m' s.last.cs is)

    by_edge : (e : Edge)
        → Shows (step_on e p st s l m).status (step_on e p st s l m).spi (applied (step_on e p st s l m).write m) (fall_on e p is f)
    by_edge Select = record { shown_is = refl; before = λ h st' m'. refl }
    by_edge Deselect = record { shown_is = refl; before = λ h st' m'. refl }
    by_edge (Rise x) =
        record {
          shown_is = g.shown_is ∙ rise_same (is_showing s.phase) st s m f x refl g;
          before = λ h st' m'. g.before (goes_on s.phase x h) st' m';
        }
    by_edge Fall =
        record {
          shown_is =
              fall_shows_lem fit st m s.phase s.shown (λ h. g.shown_is ∙ g.before h st m) ∙ phase_shows_lem st m;
          before = λ h st' m'. sym (phase_shows_lem st' m') ∙ silent_shows fit st' m' s.phase h;
        }
    by_edge Quiet = record { shown_is = g.shown_is; before = g.before }

    pub sample_shows : Shows (step_of p st s l m).status (step_of p st s l m).spi (applied (step_of p st s l m).write m)
        (fall_on (edge_of s.last l) p is f)
    unfolding step_of
    sample_shows = by_edge (edge_of s.last l)
