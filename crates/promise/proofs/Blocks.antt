-- Block protection over the wires: no event changes a byte of the protected quarters, and a WRITE of one byte stores it exactly
-- outside them. From the rule that a WRITE stores below the protected start, which is where those quarters begin (`top_protected`), and from
-- the agreement of register and memory with the ledger after every list. Assumes nothing.
use Prim.Native.Nat.{ℕ, ◌%◌, ◌<◌, ◌≤◌}
use mathlib.Core.Path.{◌≡◌, refl, sym, ap, ap₂, ◌∙◌, subst}
use mathlib.Core.Bool.{Bool, true, false, cond, not, ◌&&◌}
use mathlib.Core.List.{List, [], ◌∷◌, ◌++◌, append-nil}
use native.Mathlib.Omega.{arith}
use lib.Dec.{ltb}
use lib.ListN.{length, get_or, set}
use lib.Seq.{get_or-set_other}
use borrow.Author.Tests.{ltb-true, ltb-false, not-true}
use Rattle.parts.specs.declared.part.Part.{Part}
use Rattle.parts.specs.declared.status.Status.{Status}
use Rattle.parts.specs.Blocks.{quarters, in_top, covers}
use Rattle.parts.specs.Status.{protected_start}
use Rattle.parts.specs.Table.{is_spi, part_of}
use Rattle.parts.proofs.BlockLaws.{top_protected}
use Rattle.parts.proofs.Rows.{and_both, part_fits}
use Rattle.std.specs.Prelude.{None, Option}
use Rattle.serial.specs.Bits.{shifted}
use Rattle.serial.specs.Write.{applied, write_at}
use Rattle.serial.specs.declared.write.Write.{Write}
use Rattle.trace.specs.declared.event.Event.{Event}
use Rattle.trace.specs.declared.event.Event.TheVariants.{SpiPowerOn, I2cPowerOn, PowerOff, Sample, Expected}
use Rattle.trace.specs.Read.{read_of, Read, Whole, Refused}
use Rattle.selection.specs.declared.edge.Edge.{Edge}
use Rattle.selection.specs.declared.edge.Edge.TheVariants.{Select, Deselect, Rise, Fall, Quiet}
use Rattle.selection.specs.declared.levels.Levels.{Levels}
use Rattle.selection.specs.declared.phase.Field.{Field}
use Rattle.selection.specs.declared.phase.Field.TheVariants.{Opcode, ReadAddress, FastAddress, WriteAddress, Dummy, Data, StatusByte}
use Rattle.selection.specs.declared.phase.Phase.{Phase}
use Rattle.selection.specs.declared.phase.Phase.TheVariants.{Rest, Ignoring, Taking, Showing, Waiting, Pending}
use Rattle.selection.specs.Edge.{edge_of}
use Rattle.selection.specs.Levels.{levels_of}
use Rattle.spi.specs.declared.sample.Spi.{Spi}
use Rattle.spi.specs.Sample.{step_on, step_of}
use Rattle.spi.specs.Store.{permitted, finished_write, data_write, field_write, rise_write, end_write}
use Rattle.chip.specs.declared.model.BusState.{BusState}
use Rattle.chip.specs.declared.model.BusState.TheVariants.{Unpowered, SpiOn, I2cOn}
use Rattle.chip.specs.declared.model.Model.{Model}
use Rattle.chip.specs.Check.{check_of, Verdict, Passed, Failed}
use Rattle.chip.proofs.CheckLaws.{model_in_lem}
use Rattle.events.specs.Event.{Outcome, on_spi, advance_on, advance_of}
use Rattle.runs.specs.Event.{on_read, event_on_verdict, event_of}
use Rattle.ledger.specs.SpiLedger.{data_address, SavedBits, register}
use Rattle.ledger.specs.History.{Entry}
use Rattle.ledger.specs.Stores.{Store, stored}
use Rattle.ledger.proofs.StoreLaws.{stored_append}
use Rattle.promise.specs.Lists.{model_after, memory_after}
use Rattle.promise.specs.Ledger.{ledger_stores}
use Rattle.promise.specs.Promise.{made_by, history_of}
use Rattle.promise.specs.Blocks.{saved_after, protected, ProtectedStays, StoredUnlessProtected}
use Rattle.promise.proofs.Ranges.{made_in, made_off}
use Rattle.promise.proofs.Joins.{memory_join}
use Rattle.promise.proofs.Agrees.{AgreesOn}
use Rattle.promise.proofs.Steps.{Fits, list_fits, list_bits, list_memory}

-- ---- one event on a state whose register protects the address a

true_not_false : true ≡ false → ⊥
true_not_false e = let z : ◌≡◌ {A = ℕ} 0 1 = cc in omega arith

below_apart : (s a b : ℕ) → b < s → s ≤ a → a ≡ b → ⊥
below_apart s a b h k q = omega arith

module _ (p : Part) (st : Status) (m : List ℕ) (a : ℕ) (c : covers st p a ≡ true) where
  abbrev Keeps : Option Write → Type 0
  Keeps w = get_or (applied w m) a 0 ≡ get_or m a 0

  permitted_keeps : (b v : ℕ) → Keeps (permitted p st b v)
  permitted_keeps b v = by (st.wel && ltb b (protected_start st p)) refl
    where
      by : (y : Bool) → (st.wel && ltb b (protected_start st p)) ≡ y → Keeps (cond y (write_at b v) None)
      by true e =
          let h = ltb-true b (protected_start st p) (and_both st.wel _ e).1 in
          let k = ltb-false a (protected_start st p) (not-true (ltb a (protected_start st p)) c) in
          get_or-set_other m b a v 0 (below_apart (protected_start st p) a b h k)
      by false e = refl

  finished_keeps : (b v : ℕ) → Keeps (finished_write p st b v)
  finished_keeps b v = by p.late
    where
      by : (y : Bool) → Keeps (cond y None (permitted p st b v))
      by true = refl
      by false = permitted_keeps b v

  data_keeps : (b n v : ℕ) (x : Bool) → Keeps (data_write p st b n v x)
  data_keeps b n v x = by (ltb n 7)
    where
      by : (y : Bool) → Keeps (cond y None (finished_write p st b (shifted v x)))
      by true = refl
      by false = finished_keeps b (shifted v x)

  field_keeps : (f : Field) (n v : ℕ) (x : Bool) → Keeps (field_write p st f n v x)
  field_keeps Opcode n v x = refl
  field_keeps ReadAddress n v x = refl
  field_keeps FastAddress n v x = refl
  field_keeps WriteAddress n v x = refl
  field_keeps (Dummy b) n v x = refl
  field_keeps (Data b w) n v x = data_keeps b n v x
  field_keeps StatusByte n v x = refl

  rise_keeps : (f : Phase) (x : Bool) → Keeps (rise_write p st f x)
  rise_keeps Rest x = refl
  rise_keeps Ignoring x = refl
  rise_keeps (Taking f n v) x = field_keeps f n v x
  rise_keeps (Showing s k) x = refl
  rise_keeps (Waiting k) x = refl
  rise_keeps (Pending v b) x = permitted_keeps b v

  end_keeps : (f : Phase) → Keeps (end_write p st f)
  end_keeps Rest = refl
  end_keeps Ignoring = refl
  end_keeps (Taking f n v) = refl
  end_keeps (Showing s k) = refl
  end_keeps (Waiting k) = refl
  end_keeps (Pending v b) = permitted_keeps b v

  sample_keeps : (s : Spi) (l : Levels) → Keeps (step_of p st s l m).write
  unfolding step_of
  sample_keeps s l = by (edge_of s.last l)
    where
      by : (e : Edge) → Keeps (step_on e p st s l m).write
      by Select = refl
      by Deselect = end_keeps s.phase
      by (Rise x) = rise_keeps s.phase x
      by Fall = refl
      by Quiet = refl

-- without power, or with the power of an SPI part
abbrev OffOrSpi : BusState → Type 0
OffOrSpi Unpowered = Unit {0}
OffOrSpi (SpiOn x) = Unit {0}
OffOrSpi (I2cOn x) = ⊥

module _ (s : Model) (m : List ℕ) (a : ℕ) (c : covers s.status (part_of s.part) a ≡ true) where
  abbrev Same : Outcome → Type 0
  Same o = get_or o.memory a 0 ≡ get_or m a 0

  spi_same : (x : Spi) (e : Event) → Same (on_spi (part_of s.part) s x m e)
  spi_same x (SpiPowerOn v) = refl
  spi_same x (I2cPowerOn v b) = refl
  spi_same x PowerOff = refl
  spi_same x (Sample v) = sample_keeps (part_of s.part) s.status m a c x (levels_of v)
  spi_same x (Expected v) = refl

  advance_same : (b : BusState) → OffOrSpi b → (e : Event) → Same (advance_on b (part_of s.part) s m e)
  advance_same Unpowered n e = refl
  advance_same (SpiOn x) n e = spi_same x e
  advance_same (I2cOn x) n e = absurd n

  event_same : OffOrSpi s.bus → (t : List ℕ) → Same (event_of s m t)
  unfolding event_of advance_of
  event_same n t = by (check_of s (length m))
    where
      by_read : (r : Read) → Same (on_read r s m)
      by_read (Whole e k) = advance_same s.bus n e
      by_read (Refused r place) = refl

      by : (v : Verdict) → Same (event_on_verdict v s m t)
      by Passed = by_read (read_of (part_of s.part) t)
      by (Failed r) = refl

-- ---- a WRITE of one byte

-- it is stored (y) or not
one_store : (first : List ℕ) (ws : List Store) (a v : ℕ) (y : Bool)
    → stored first (ws ++ cond y (record { address = a; value = v } ∷ []) []) ≡ cond (not y) (stored first ws) (set (stored first ws) a v)
one_store first ws a v true = stored_append first ws _
one_store first ws a v false = ap (stored first) (append-nil ws)

-- ---- from a making

module _ (part pins bits : ℕ) (first : List ℕ) where
  abbrev made : Model
  made = made_by part pins bits

  abbrev row : Part
  row = part_of made.part

  quartered : row.size % 4 ≡ 0
  quartered = (part_fits made.part (model_in_lem made (made_in part pins bits).0).known).quartered

  fits : (es : List (List ℕ)) → Fits made first (model_after made first es) (memory_after made first es) (history_of made first es)
  fits es = list_fits made first (made_in part pins bits) (made_off part pins bits) es

  memory_is : (es : List (List ℕ)) → memory_after made first es ≡ stored first (ledger_stores made (history_of made first es))
  memory_is es = list_memory made first (made_in part pins bits) (made_off part pins bits) es

  -- the register after a list protects an address exactly if the ledger's bits do
  covers_protected : (es : List (List ℕ)) (a : ℕ) → covers (model_after made first es).status row a ≡ protected part pins bits first es a
  covers_protected es a =
      top_protected (model_after made first es).status row quartered a
      ∙ ap (λ (b : SavedBits). in_top (quarters b.bp1 b.bp0) row.size a) (list_bits made first (made_in part pins bits) (made_off part pins bits) es)

  off_or_spi : is_spi row.bus ≡ true → (b : BusState) (st : Status) (m : List ℕ) (h : List Entry) → AgreesOn made first b st m h → OffOrSpi b
  off_or_spi spi Unpowered st m h f = tt
  off_or_spi spi (SpiOn x) st m h f = tt
  off_or_spi spi (I2cOn x) st m h f = true_not_false (sym spi ∙ f.0)

  pub protected_stays : ProtectedStays part pins bits first
  protected_stays spi es t a h =
      let s : Model = model_after made first es in
      let c : covers s.status (part_of s.part) a ≡ true =
      subst (λ (n : ℕ). covers s.status (part_of n) a ≡ true) (sym (fits es).part_is) (covers_protected es a ∙ h) in
      rw (memory_join es (t ∷ []) made first)
      (event_same s (memory_after made first es) a c (off_or_spi spi s.bus s.status (memory_after made first es) (history_of made first es) (fits es).agrees) t)

  pub stored_unless_protected : StoredUnlessProtected part pins bits first
  stored_unless_protected spi es ks bs e rest v q z on r d =
      let a : ℕ = data_address row rest in
      let b : Status = register (saved_after part pins bits first es) false in
      let more : ledger_stores made (history_of made first (es ++ ks))
      ≡ ledger_stores made (history_of made first es) ++ cond (ltb a (protected_start b row)) (record { address = a; value = v } ∷ []) [] =
      rw (spi, q, z, on, r, d) in
      memory_is (es ++ ks) ∙ ap (stored first) more ∙ one_store first (ledger_stores made (history_of made first es)) a v (ltb a (protected_start b row))
      ∙ ap₂ (λ (y : Bool) (m : List ℕ). cond y m (set m a v)) (top_protected b row quartered a) (sym (memory_is es))
