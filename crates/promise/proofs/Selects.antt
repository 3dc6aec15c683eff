-- A selection as bytes that is accepted is its pin events, one after the other or as one run: it leaves their state and memory, and the
-- buffer is what their answers spell. From what samples on the pins are as events, by induction on the bytes. Assumes nothing.
use Prim.Native.Nat.{ℕ, suc, ◌+◌, ◌*◌, ◌≤◌}
use mathlib.Core.Path.{◌≡◌, refl, sym, ap, ◌∙◌}
use mathlib.Core.Bool.{Bool, true, false, cond}
use mathlib.Core.List.{List, [], ◌∷◌, ◌++◌}
use mathlib.Core.Logic.{inl}
use native.Mathlib.Omega.{arith}
use lib.Dec.{eqb}
use lib.ListN.{length, length-append}
use Rattle.parts.specs.declared.refusal.Refusal.{Refusal}
use Rattle.parts.specs.declared.refusal.Refusal.TheVariants.{UnknownKind, NotDeselected, BufferLength}
use Rattle.parts.specs.Status.{bit}
use Rattle.parts.specs.Table.{is_spi, part_of}
use Rattle.parts.proofs.NumberLaws.{number_positive}
use Rattle.chip.specs.declared.model.BusState.{BusState}
use Rattle.chip.specs.declared.model.BusState.TheVariants.{Unpowered, SpiOn, I2cOn}
use Rattle.chip.specs.declared.model.Model.{Model}
use Rattle.chip.specs.Check.{check_of, Verdict, Passed, Failed}
use Rattle.byte_path.specs.PinPath.{sample_of, Pins, sampled, bits_of, clocked_all, answers_before, Back, back_of, bytes_taken, bytes_back, last_si, bytes_of, first_driven, driven_count, fallen, risen, selection_of}
use Rattle.byte_path.specs.Select.{Select, refused_select, taken_select, sized_select, bus_select, verdict_select, select_of}
use Rattle.runs.specs.Run.{run_of}
use Rattle.promise.specs.Selects.{byte_samples, bit_samples, select_samples, sample_events, trace_of, pin_events, before_rises, bytes_in, backs_in, pin_answers, AsEvents}
use Rattle.promise.proofs.PinSamples.{spi_powered, Ready, Below, sampled_all, answers_all, spelt, loop_all}
use Rattle.promise.proofs.StillSamples.{Before, all_clear, still_select, clear_flags}

-- ---- the samples are in range, and so many

bit_small : (b : Bool) → bit b ≤ 1
bit_small true = omega arith
bit_small false = omega arith

below_append : (xs ys : List ℕ) → Below xs → Below ys → Below (xs ++ ys)
below_append [] ys h k = k
below_append (x ∷ xs) ys (l, h) k = (l, below_append xs ys h k)

events_count : (xs : List ℕ) → length (sample_events xs) ≡ length xs
events_count [] = refl
events_count (x ∷ xs) = ap suc (events_count xs)

two_each : (xs : List ℕ) → length (trace_of (sample_events xs)) ≡ 2 * length (sample_events xs)
two_each [] = refl
two_each (x ∷ xs) = let k = two_each xs in omega arith

module _ (wp : Bool) where
  below_bits : (bs : List Bool) → Below (bit_samples wp bs)
  below_bits [] = tt
  below_bits (b ∷ bs) = (omega (arith, bit_small b, bit_small wp), (omega (arith, bit_small b, bit_small wp), below_bits bs))

  below_bytes : (vs : List ℕ) → Below (byte_samples wp vs)
  below_bytes [] = tt
  below_bytes (v ∷ vs) = below_append (bit_samples wp (bits_of v)) (byte_samples wp vs) (below_bits (bits_of v)) (below_bytes vs)

  below_select : (input : List ℕ) → Below (select_samples wp input)
  below_select input =
      (omega (arith, bit_small wp), below_append (byte_samples wp input) _ (below_bytes input) (omega (arith, bit_small wp, bit_small (last_si false input)), tt))

  bytes_count : (vs : List ℕ) → length (byte_samples wp vs) ≡ 16 * length vs
  bytes_count [] = refl
  bytes_count (v ∷ vs) = let k = bytes_count vs in omega arith

  select_count : (input : List ℕ) → length (pin_events wp input) ≡ 16 * length input + 2
  select_count input = let k = bytes_count input in events_count (select_samples wp input) ∙ simp length-append (omega arith)

-- ---- on the pins they are the selection

all_append : (xs ys : List ℕ) (a : Pins) → sampled_all a (xs ++ ys) ≡ sampled_all (sampled_all a xs) ys
all_append [] ys a = refl
all_append (x ∷ xs) ys a = all_append xs ys (sampled a x)

module _ (wp : Bool) where
  all_bytes : (vs : List ℕ) (a : Pins) → sampled_all a (byte_samples wp vs) ≡ bytes_taken wp a vs
  all_bytes [] a = refl
  all_bytes (v ∷ vs) a = all_bytes vs (clocked_all wp a (bits_of v))

  -- the bytes that come back, from the answer before the first rise on
  all_back : (vs more : List ℕ) (a : Pins)
      → bytes_in (length vs) (before_rises (a.answer ∷ answers_all a (byte_samples wp vs ++ more))) ≡ bytes_back wp a vs
  all_back [] more a = refl
  all_back (v ∷ vs) more a =
      ap (λ (bs : List Back). back_of (answers_before wp a (bits_of v)) ∷ bs) (all_back vs more (clocked_all wp a (bits_of v)))

-- ---- what is known of a selection that is accepted

module _ (wp : Bool) (s : Model) (input output m : List ℕ) where
  abbrev start : Pins
  start = record { model = s; memory = m; answer = 2 }

  abbrev refused_by : Refusal → Select
  refused_by = refused_select wp s input output m

  abbrev whole : Select
  whole = taken_select wp s input output m (selection_of wp s m input)

  -- a test before it has passed
  passed : (t : Bool) (x : Select) (r : Refusal) → (cond t x (refused_by r)).number ≡ 0 → t ≡ true
  passed true x r h = refl
  passed false x r h = absurd (number_positive r h)

  passes : (t : Bool) (x : Select) (r : Refusal) → (cond t x (refused_by r)).number ≡ 0 → cond t x (refused_by r) ≡ x
  passes t x r h = rw (passed t x r h)

  sized : (sized_select wp s input output m).number ≡ 0 → sized_select wp s input output m ≡ whole
  sized h = passes (eqb (length output) (length input)) whole BufferLength h

  on_bus_lem : (b : BusState) → (bus_select wp s input output m b).number ≡ 0
      → (spi_powered b ≡ true) × (bus_select wp s input output m b ≡ whole) × Before wp b
  on_bus_lem Unpowered h = absurd (number_positive NotDeselected h)
  on_bus_lem (SpiOn x) h =
      let e = passes x.last.cs (sized_select wp s input output m) NotDeselected h in
      (refl, e ∙ sized (sym (ap (λ (y : Select). y.number) e) ∙ h), inl (passed x.last.cs (sized_select wp s input output m) NotDeselected h))
  on_bus_lem (I2cOn x) h = absurd (number_positive NotDeselected h)

  record Taken : Type 0 where
    ready : Ready start
    before : Before wp s.bus
    all : select_of wp s input output m ≡ whole

  taken : (select_of wp s input output m).number ≡ 0 → Taken
  unfolding select_of
  taken h = by (check_of s (length m)) refl h
    where
      by : (v : Verdict) → check_of s (length m) ≡ v → (verdict_select wp s input output m v).number ≡ 0 → Taken
      by Passed e z =
          let k = passes (is_spi (part_of s.part).bus) (bus_select wp s input output m s.bus) UnknownKind z in
          let b = on_bus_lem s.bus (sym (ap (λ (y : Select). y.number) k) ∙ z) in
          record { ready = record { sound = e; powered = b.0 }; before = b.2; all = rw e (k ∙ b.1) }
      by (Failed r) e z = absurd (number_positive r z)

  -- ---- the theorem

  abbrev xs : List ℕ
  xs = select_samples wp input

  -- the pins after all the samples, and what came back
  ended : sampled_all start xs ≡ risen wp s m input
  ended =
      let e : ℕ = sample_of true false (last_si false input) wp in
      all_append (byte_samples wp input) (e ∷ []) (fallen wp s m input) ∙ ap (λ (a : Pins). sampled a e) (all_bytes wp input (fallen wp s m input))

  back : backs_in (length input) (answers_all start xs) ≡ bytes_back wp (fallen wp s m input) input
  back = all_back wp input _ (fallen wp s m input)

  pub as_events : (select_of wp s input output m).number ≡ 0 → AsEvents wp s input output m
  unfolding selection_of run_of
  as_events h =
      let t = taken h in
      let k = spelt xs start t.ready (below_select wp input) in
      let clear = all_clear wp xs start t.before (still_select wp input) in
      let backs : backs_in (length input) (pin_answers wp s m input) ≡ bytes_back wp (fallen wp s m input) input = ap (backs_in (length input)) k.answers ∙ back in
      let model : (sampled_all start xs).model ≡ (select_of wp s input output m).model = ap (λ (a : Pins). a.model) ended ∙ sym (ap (λ (y : Select). y.model) t.all) in
      let memory : (sampled_all start xs).memory ≡ (select_of wp s input output m).memory = ap (λ (a : Pins). a.memory) ended ∙ sym (ap (λ (y : Select). y.memory) t.all) in
      record {
        events = select_count wp input;
        bytes = two_each xs;
        accepted = k.accepted;
        unflagged = k.flags ∙ clear_flags xs start clear;
        model = k.model ∙ model;
        memory = k.memory ∙ memory;
        buffer = ap (λ (y : Select). y.output) t.all ∙ sym (ap bytes_of backs);
        first = ap (λ (y : Select). y.first) t.all ∙ sym (ap first_driven backs);
        count = ap (λ (y : Select). y.count) t.all ∙ sym (ap driven_count backs);
        run = λ quota l. rw t.ready.sound (loop_all xs quota start t.ready (below_select wp input) clear l ∙ rw (model, memory, ← k.answers));
      }
