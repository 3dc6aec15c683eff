-- Refused events and makings give what the papers say, in full, and runs stop and point where they say. Computed. Assumes nothing.
use Prim.Native.Nat.{ℕ}
use mathlib.Core.Path.{◌≡◌, refl, ap, ◌∙◌}
use mathlib.Core.List.{List, [], ◌∷◌, map}
use lib.ListN.{length, get_or}
use Rattle.trace.specs.Read.{read_of}
use Rattle.chip.specs.Check.{check_of}
use Rattle.chip.specs.Model.{unpowered}
use Rattle.parts.specs.Status.{cleared}
use Rattle.model.specs.Made.{Made}
use Rattle.model.specs.Make.{make_of}
use Rattle.worked_examples.specs.Cases.{Every, made_of}
use Rattle.worked_examples.specs.Refusals.{Refusal, answer_to, EventRefused, RunRefused, refusals, out_of_range, other_kinds, empty_events, Making, MakingRefused, refused_makings, Stopped, RunStopped, stopped_runs}
use Rattle.worked_examples.proofs.Trail.{Done, outcome, unwritten, event_by, event_by_lem, Trail, run_from, stop_by, loop_by, run_by, run_by_lem}

-- two lists with the same entries
pub head_same : {A : Type 0} {x y : A} {xs ys : List A} → x ∷ xs ≡ y ∷ ys → x ≡ y
head_same h = cc

pub tail_same : {A : Type 0} {x y : A} {xs ys : List A} → x ∷ xs ≡ y ∷ ys → xs ≡ ys
tail_same h = cc

-- ---- events, with g for the bytes of the memory

abbrev event_given : (ℕ → ℕ) → Refusal → Done
event_given g x = event_by x.size x.model g x.event

abbrev event_wanted : Refusal → Done
event_wanted x = unwritten (answer_to x)

events_refused : (xs : List Refusal) → ((g : ℕ → ℕ) → map (event_given g) xs ≡ map event_wanted xs) → Every EventRefused xs
events_refused [] h = tt
events_refused (x ∷ xs) h = (
  λ m e. event_by_lem m (λ a. get_or m a 0) (λ a. refl) x.size x.model x.event e ∙ ap (outcome m) (head_same (h (λ a. get_or m a 0))),
  events_refused xs (λ g. tail_same (h g)),
)

events_tested : (g : ℕ → ℕ) → map (event_given g) refusals ≡ map event_wanted refusals
unfolding refusals check_of read_of make_of
events_tested g = refl

-- each event of the list is refused with its number: it answers 2, and state and memory are as they were
pub refused_events : Every EventRefused refusals
refused_events = events_refused refusals events_tested

ranges_tested : (g : ℕ → ℕ) → map (event_given g) out_of_range ≡ map event_wanted out_of_range
unfolding out_of_range check_of read_of make_of
ranges_tested g = refl

-- each number of a phase one past its range gives 2
pub ranges_refused : Every EventRefused out_of_range
ranges_refused = events_refused out_of_range ranges_tested

kinds_tested : (g : ℕ → ℕ) → map (event_given g) other_kinds ≡ map event_wanted other_kinds
unfolding other_kinds check_of read_of make_of
kinds_tested g = refl

-- every kind from 6 up gives 4
pub unknown_kinds : Every EventRefused other_kinds
unknown_kinds = events_refused other_kinds kinds_tested

empty_tested : (g : ℕ → ℕ) → map (event_given g) empty_events ≡ map event_wanted empty_events
unfolding empty_events check_of read_of make_of
empty_tested g = refl

-- a single event that is empty gives 5
pub empty_events_lem : Every EventRefused empty_events
empty_events_lem = events_refused empty_events empty_tested

-- ---- runs of one event

abbrev run_given : (ℕ → ℕ) → Refusal → Trail
run_given g x = run_by 1 x.size x.event x.model g

abbrev run_wanted : Refusal → Trail
run_wanted x = stop_by x.number x.place x.event x.model

runs_refused : (xs : List Refusal) → ((g : ℕ → ℕ) → map (run_given g) xs ≡ map run_wanted xs) → Every RunRefused xs
runs_refused [] h = tt
runs_refused (x ∷ xs) h = (
  λ m e. run_by_lem 1 x.size x.event x.model m (λ a. get_or m a 0) e (λ a. refl) ∙ ap (run_from m) (head_same (h (λ a. get_or m a 0))),
  runs_refused xs (λ g. tail_same (h g)),
)

runs_tested : (g : ℕ → ℕ) → map (run_given g) refusals ≡ map run_wanted refusals
unfolding refusals check_of read_of make_of loop_by
runs_tested g = refl

-- a run of a refused event alone stops with its number and points at its place, nothing accepted
pub refused_runs : Every RunRefused refusals
refused_runs = runs_refused refusals runs_tested

-- ---- runs of several

-- number, count and both offsets
pub record Figures : Type 0 where
  pub number : ℕ
  pub count : ℕ
  pub offset : ℕ
  pub flag : ℕ

abbrev figures_given : (ℕ → ℕ) → Stopped → Figures
figures_given g x =
    let r = run_by 8 x.size x.trace (made_of x.part 0 0) g in
    record { number = r.number; count = r.count; offset = r.offset; flag = r.flag }

abbrev figures_wanted : Stopped → Figures
figures_wanted x = record { number = x.number; count = x.count; offset = x.offset; flag = length x.trace }

runs_stop : (xs : List Stopped) → ((g : ℕ → ℕ) → map (figures_given g) xs ≡ map figures_wanted xs) → Every RunStopped xs
runs_stop [] h = tt
runs_stop (x ∷ xs) h = (
  λ m e.
      let f = head_same (h (λ a. get_or m a 0)) in
      let r = run_by_lem 8 x.size x.trace (made_of x.part 0 0) m (λ a. get_or m a 0) e (λ a. refl) in
      rw r (ap (λ (k : Figures). k.number) f, (ap (λ (k : Figures). k.count) f, ap (λ (k : Figures). k.offset) f, ap (λ (k : Figures). k.flag) f)),
  runs_stop xs (λ g. tail_same (h g)),
)

stops_tested : (g : ℕ → ℕ) → map (figures_given g) stopped_runs ≡ map figures_wanted stopped_runs
unfolding stopped_runs check_of read_of make_of loop_by
stops_tested g = refl

-- each run of the list gives its number, count and offset, and no flag
pub stopped_runs_lem : Every RunStopped stopped_runs
stopped_runs_lem = runs_stop stopped_runs stops_tested

-- ---- makings

abbrev making_given : Making → Made
making_given x = make_of x.part x.pins x.bits

abbrev making_wanted : Making → Made
making_wanted x = record { number = 1; model = unpowered 0 0 cleared }

makings_refused : (xs : List Making) → map making_given xs ≡ map making_wanted xs → Every MakingRefused xs
makings_refused [] h = tt
makings_refused (x ∷ xs) h = (head_same h, makings_refused xs (tail_same h))

makings_tested : map making_given refused_makings ≡ map making_wanted refused_makings
unfolding refused_makings make_of
makings_tested = refl

-- each making of the list is refused with 1, and gives part 0 without power, pins and bits 0
pub refused_makings_lem : Every MakingRefused refused_makings
refused_makings_lem = makings_refused refused_makings makings_tested
