-- What a whole event says of the bytes that it is read from, that it stays the same with bytes after it, and that a refusal points no
-- further than the bytes go. Assumes nothing.
use Prim.Native.Nat.{ℕ, ◌+◌, ◌<◌, ◌≤◌}
use mathlib.Core.Path.{◌≡◌, refl, ap}
use mathlib.Core.Bool.{Bool, true, false, cond}
use mathlib.Core.List.{List, ◌++◌}
use native.Mathlib.Omega.{arith}
use lib.Dec.{eqb, ltb}
use lib.ListN.{length, get_or, length-append, get_or-append}
use borrow.Author.Tests.{eqb-true, eqb-false, ltb-false, ne_eqb, le-ltb}
use Rattle.parts.specs.declared.part.Part.{Part}
use Rattle.parts.specs.declared.refusal.Refusal.TheVariants.{UnknownKind, Truncated, SampleRange, StartRange, ExpectedRange}
use Rattle.trace.specs.declared.event.Event.{Event}
use Rattle.trace.specs.declared.event.Event.TheVariants.{SpiPowerOn, I2cPowerOn, PowerOff, Sample, Expected}
use Rattle.trace.specs.Event.{sample_limit, sample_in, start_in, expected_in}
use Rattle.trace.specs.Read.{known_kind, event_length, start_address, parsed_event, fields_read, read_of, place_of, Read, Whole, Refused}

-- the six tests of a reading pass, and what is then read
pub record Passed (p : Part) (t : List ℕ) (e : Event) (n : ℕ) : Type 0 where
  pub some : length t ≡ 0 → ⊥
  pub known : known_kind p.bus (get_or t 0 0) ≡ true
  pub long : event_length (get_or t 0 0) ≤ length t
  pub sample : sample_in p (parsed_event (get_or t 0 0) t) ≡ true
  pub start : start_in p (parsed_event (get_or t 0 0) t) ≡ true
  pub expected : expected_in (parsed_event (get_or t 0 0) t) ≡ true
  pub event : parsed_event (get_or t 0 0) t ≡ e
  pub taken : event_length (get_or t 0 0) ≡ n

-- where the tests' answers give a whole event, each test passed: those of kind and length, with what the fields give
chain : (a b c : Bool) (r : Read) (e : Event) (n : ℕ)
    → cond a (Refused Truncated 0) (cond b (cond c (Refused Truncated 0) r) (Refused UnknownKind 0)) ≡ Whole e n
    → (a ≡ false) × ((b ≡ true) × ((c ≡ false) × (r ≡ Whole e n)))
chain false true false r e n h = (refl, (refl, (refl, h)))
chain true b c r e n h = let z : ◌≡◌ {A = ℕ} 0 1 = cc in absurd (omega arith)
chain false false c r e n h = let z : ◌≡◌ {A = ℕ} 0 1 = cc in absurd (omega arith)
chain false true true r e n h = let z : ◌≡◌ {A = ℕ} 0 1 = cc in absurd (omega arith)

-- what was read whole, with what stands for it where nothing was
abbrev event_in : Event → Read → Event
event_in d (Whole e n) = e
event_in d (Refused r place) = d

abbrev taken_in : ℕ → Read → ℕ
taken_in d (Whole e n) = n
taken_in d (Refused r place) = d

-- and those of the fields
fields : (a b c : Bool) (f e : Event) (m n : ℕ)
    → cond a (cond b (cond c (Whole f m) (Refused ExpectedRange 1)) (Refused StartRange 2)) (Refused SampleRange 1) ≡ Whole e n
    → (a ≡ true) × ((b ≡ true) × ((c ≡ true) × ((f ≡ e) × (m ≡ n))))
fields true true true f e m n h = (refl, (refl, (refl, (ap (event_in f) h, ap (taken_in m) h))))
fields true true false f e m n h = let z : ◌≡◌ {A = ℕ} 0 1 = cc in absurd (omega arith)
fields true false c f e m n h = let z : ◌≡◌ {A = ℕ} 0 1 = cc in absurd (omega arith)
fields false b c f e m n h = let z : ◌≡◌ {A = ℕ} 0 1 = cc in absurd (omega arith)

-- an event takes at least the byte of its kind
pub length_positive : (k : ℕ) → 0 < event_length k
length_positive k = by (eqb k 2) (eqb k 3)
  where
    by : (a b : Bool) → 0 < cond a 5 (cond b 1 2)
    by true b = omega arith
    by false true = omega arith
    by false false = omega arith

module _ (p : Part) (t : List ℕ) (e : Event) (n : ℕ) where
  pub passed : read_of p t ≡ Whole e n → Passed p t e n
  unfolding read_of
  passed h =
      let f = parsed_event (get_or t 0 0) t in
      let s = chain (eqb (length t) 0) (known_kind p.bus (get_or t 0 0)) (ltb (length t) (event_length (get_or t 0 0))) (fields_read p f (event_length (get_or t 0 0))) e n h in
      let d = fields (sample_in p f) (start_in p f) (expected_in f) f e (event_length (get_or t 0 0)) n s.1.1.1 in
      record {
        some = eqb-false _ _ s.0;
        known = s.1.0;
        long = ltb-false _ _ s.1.1.0;
        sample = d.0;
        start = d.1.0;
        expected = d.1.1.0;
        event = d.1.1.1.0;
        taken = d.1.1.1.1;
      }

  pub reads_whole : Passed p t e n → read_of p t ≡ Whole e n
  unfolding read_of
  reads_whole s = rw (ne_eqb _ _ s.some, s.known, le-ltb _ _ s.long, s.sample, s.start, s.expected, s.event, s.taken)

  pub taken_within : read_of p t ≡ Whole e n → n ≤ length t
  taken_within h = let s = passed h in rw s.taken at s.long

-- the front of longer bytes
module _ (t u : List ℕ) where
  -- a byte of the front
  front : (i : ℕ) → i < length t → get_or (t ++ u) i 0 ≡ get_or t i 0
  front i h = get_or-append t u 0 i h

  -- an event looks no further than its length
  pub event_front : (k : ℕ) → event_length k ≤ length t → parsed_event k (t ++ u) ≡ parsed_event k t
  event_front k h = by (eqb k 2) (eqb k 3) refl refl
    where
      by : (a b : Bool) → eqb k 2 ≡ a → eqb k 3 ≡ b → parsed_event k (t ++ u) ≡ parsed_event k t
      by true b x y =
          let l : 5 ≤ length t = rw x at h in
          simp (eqb-true k 2 x, front 1 (omega arith), front 2 (omega arith), front 3 (omega arith), front 4 (omega arith))
      by false true x y = simp (eqb-true k 3 y)
      by false false x y =
          let l : 2 ≤ length t = rw (x, y) at h in
          simp (x, y, front 1 (omega arith))

-- the bytes after an event are ignored
pub front_only : (p : Part) (t u : List ℕ) (e : Event) (n : ℕ) → read_of p t ≡ Whole e n → read_of p (t ++ u) ≡ Whole e n
front_only p t u e n h =
    let s = passed p t e n h in
    let l : 0 < length t = omega (arith, length_positive (get_or t 0 0), s.long) in
    let a : length (t ++ u) ≡ length t + length u = length-append t u in
    let k : get_or (t ++ u) 0 0 ≡ get_or t 0 0 = front t u 0 l in
    let g : parsed_event (get_or (t ++ u) 0 0) (t ++ u) ≡ parsed_event (get_or t 0 0) t = rw k (event_front t u (get_or t 0 0) s.long) in
    reads_whole p (t ++ u) e n
    (record {
      some = λ z. omega arith;
      known = rw k s.known;
      long = rw k (omega (arith, s.long));
      sample = rw g s.sample;
      start = rw g s.start;
      expected = rw g s.expected;
      event = rw g s.event;
      taken = rw k s.taken;
    })

-- ---- a refusal points no further than the bytes go

-- by the tests for the kinds, which choose both the event and its length
place_by : (p : Part) (a b c d : Bool) (x y n : ℕ)
    → place_of (fields_read p (cond a (SpiPowerOn x) (cond b (I2cPowerOn x y) (cond c PowerOff (cond d (Sample x) (Expected x))))) n) ≤ cond b 5 (cond c 1 2)
place_by p a b c d x y n = tests a b c d
  where
    one : (t : Bool) (e : Event) (q : ℕ) → 0 < q → place_of (cond t (Whole e n) (Refused SampleRange 1)) ≤ q
    one true e q l = omega arith
    one false e q l = l

    two : (t u : Bool) (e : Event) → place_of (cond t (cond u (Whole e n) (Refused StartRange 2)) (Refused SampleRange 1)) ≤ 5
    two true true e = omega arith
    two true false e = omega arith
    two false u e = omega arith

    three : (t : Bool) (e : Event) → place_of (cond t (Whole e n) (Refused ExpectedRange 1)) ≤ 2
    three true e = omega arith
    three false e = omega arith

    long : (b c : Bool) → 0 < cond b 5 (cond c 1 2)
    long true c = omega arith
    long false true = omega arith
    long false false = omega arith

    tests : (a b c d : Bool)
        → place_of (fields_read p (cond a (SpiPowerOn x) (cond b (I2cPowerOn x y) (cond c PowerOff (cond d (Sample x) (Expected x))))) n) ≤ cond b 5 (cond c 1 2)
    tests true b c d = one (ltb x (sample_limit p.bus)) (SpiPowerOn x) (cond b 5 (cond c 1 2)) (long b c)
    tests false true c d = two (ltb x (sample_limit p.bus)) (ltb y p.size) (I2cPowerOn x y)
    tests false false true d = omega arith
    tests false false false true = one (ltb x (sample_limit p.bus)) (Sample x) 2 (omega arith)
    tests false false false false = three (ltb x 3) (Expected x)

pub place_within : (p : Part) (t : List ℕ) → place_of (read_of p t) ≤ length t
unfolding read_of
place_within p t = by (eqb (length t) 0) (known_kind p.bus (get_or t 0 0)) (ltb (length t) (event_length (get_or t 0 0))) refl
  where
    k : ℕ
    k = get_or t 0 0

    fields_within : place_of (fields_read p (parsed_event k t) (event_length k)) ≤ event_length k
    fields_within = place_by p (eqb k 1) (eqb k 2) (eqb k 3) (eqb k 4) (get_or t 1 0) (start_address (get_or t 2 0) (get_or t 3 0) (get_or t 4 0)) (event_length k)

    by : (a b c : Bool) → ltb (length t) (event_length k) ≡ c
        → place_of (cond a (Refused Truncated 0) (cond b (cond c (Refused Truncated 0) (fields_read p (parsed_event k t) (event_length k))) (Refused UnknownKind 0))) ≤ length t
    by true b c h = omega arith
    by false false c h = omega arith
    by false true true h = omega arith
    by false true false h = omega (arith, fields_within, ltb-false (length t) (event_length k) h)
