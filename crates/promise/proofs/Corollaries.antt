-- What follows from the promise, in plain words: without the enable nothing is stored, one enable serves one WRITE, a byte is the
-- old or the new one at every moment, a cut changes no byte, and on a part that stores late it leaves the old one where one waits. For every making, every first memory and every list of events.
-- From the memory's agreement with the ledger after every list. Assumes nothing.
use Prim.Native.Nat.{ℕ}
use mathlib.Core.Path.{◌≡◌, refl, sym, ap, ◌∙◌, subst}
use mathlib.Core.Bool.{Bool, true, false, cond}
use mathlib.Core.List.{List, [], ◌∷◌, ◌++◌, append-nil}
use lib.Dec.{eqb}
use lib.ListN.{length}
use Rattle.parts.specs.declared.part.Part.{Part}
use Rattle.parts.specs.Table.{part_of}
use Rattle.parts.proofs.Rows.{part_fits}
use Rattle.std.specs.Prelude.{None, Option, Some}
use Rattle.serial.specs.declared.write.Write.{Write}
use Rattle.trace.specs.Read.{read_of, Read, Whole, Refused}
use Rattle.selection.specs.declared.opcode.Command.TheVariants.{WREN, WRDI, RDSR, WRSR, READ, WRITE, FSTRD, RDID, SLEEP, Unknown}
use Rattle.chip.specs.declared.model.Model.{Model}
use Rattle.chip.proofs.CheckLaws.{model_in_lem}
use Rattle.runs.specs.Event.{event_of}
use Rattle.ledger.specs.Bits.{bytes}
use Rattle.ledger.specs.History.{Entry}
use Rattle.ledger.specs.Stores.{Store, stored}
use Rattle.ledger.specs.SpiLedger.{End, unended, ended, Item, power_on, power_off, selection, Reading, partial, command, reading, data_bytes, asleep, without_ignored, unless_any, enable_after, enabled, SavedBits, bits, stores, writes}
use Rattle.ledger.proofs.Followed.{open_same}
use Rattle.ledger.proofs.Proper.{AllProper, proper_last}
use Rattle.ledger.proofs.StoreLaws.{stores_of, stored_append}
use Rattle.promise.specs.Lists.{Observed, observed, model_after}
use Rattle.promise.specs.Fed.{with_event}
use Rattle.promise.specs.Ledger.{saved_in, ledger_stores}
use Rattle.promise.specs.Promise.{made_by, cut, history_of}
use Rattle.promise.specs.Corollaries.{is_wren, NoWren, OldOrNew, old, new, memory_after_list, writes_of, items_of, NoEnableNoStore, NoWrenNoStore, OneEnableOneWrite, OneByteAtMost, CutKeepsMemory, CutLosesWaiting, CutWithoutPower}
use Rattle.promise.proofs.Ranges.{range_wired, made_in, made_off}
use Rattle.promise.proofs.Stays.{accepted_sized, cut_memory_lem, cut_refused}
use Rattle.promise.proofs.Joins.{model_join, memory_join, fed_join}
use Rattle.promise.proofs.Steps.{list_fits, list_memory}
use Rattle.promise.proofs.Grows.{Grown, ledger_grows, ledger_proper}

-- ---- without the enable

module _ (p : Part) (made : SavedBits) where
  unless_off : (vs : List ℕ) → unless_any vs false ≡ false
  unless_off [] = refl
  unless_off (v ∷ vs) = refl

  -- only WREN sets the enable
  enable_off : (x : End) (r : Reading) → is_wren r ≡ false → enable_after p x r false ≡ false
  enable_off x partial h = refl
  enable_off x (command WREN rest) h = h
  enable_off x (command WRDI rest) h = refl
  enable_off x (command RDSR rest) h = refl
  enable_off x (command WRSR rest) h = unless_off (bytes rest)
  enable_off x (command READ rest) h = refl
  enable_off x (command WRITE rest) h = unless_off (data_bytes p x rest)
  enable_off x (command FSTRD rest) h = refl
  enable_off x (command RDID rest) h = refl
  enable_off x (command SLEEP rest) h = refl
  enable_off x (command Unknown rest) h = refl

  -- a selection that comes without the enable, ignored (y) or not, stores nothing
  one_stores : (y : Bool) (bs : List Bool) (e : End) (hs : List Item) → enabled p hs ≡ false
      → writes p made (cond y hs (selection bs e ∷ hs)) ≡ writes p made hs
  one_stores true bs e hs h = refl
  one_stores false bs e hs h = rw (h, append-nil)

  one_enable : (y : Bool) (bs : List Bool) (e : End) (hs : List Item) → is_wren (reading p bs) ≡ false → enabled p hs ≡ false
      → enabled p (cond y hs (selection bs e ∷ hs)) ≡ false
  one_enable true bs e hs w h = h
  one_enable false bs unended hs w h = h
  one_enable false bs (ended wp) hs w h = rw h (enable_off (ended wp) (reading p bs) w)

  -- nor does any number of them without a WREN
  off_enable : (more is : List Item) → NoWren p more → enabled p (without_ignored p is) ≡ false → enabled p (without_ignored p (more ++ is)) ≡ false
  off_enable [] is n h = h
  off_enable (power_on ∷ more) is n h = refl
  off_enable (power_off ∷ more) is n h = refl
  off_enable (selection bs e ∷ more) is n h =
      one_enable (asleep p (more ++ is)) bs e (without_ignored p (more ++ is)) n.0 (off_enable more is n.1 h)

  off_stores : (more is : List Item) → NoWren p more → enabled p (without_ignored p is) ≡ false
      → writes p made (without_ignored p (more ++ is)) ≡ writes p made (without_ignored p is)
  off_stores [] is n h = refl
  off_stores (power_on ∷ more) is n h = off_stores more is n h
  off_stores (power_off ∷ more) is n h = off_stores more is n h
  off_stores (selection bs e ∷ more) is n h =
      one_stores (asleep p (more ++ is)) bs e (without_ignored p (more ++ is)) (off_enable more is n.1 h) ∙ off_stores more is n.1 h

  -- a WRITE with a whole data byte, not ignored and ended, ends the enable
  write_ends : (bs : List Bool) (wp : Bool) (is : List Item) (rest : List Bool) (v : ℕ) (vs : List ℕ) → asleep p is ≡ false
      → reading p bs ≡ command WRITE rest → data_bytes p (ended wp) rest ≡ v ∷ vs → enabled p (without_ignored p (selection bs (ended wp) ∷ is)) ≡ false
  write_ends bs wp is rest v vs a r d = rw (a, r, d)

  -- an open selection with more bits, which store no more, ignored (y) or not
  open_stores : (y : Bool) (bs cs : List Bool) (hs : List Item) → ((b : SavedBits) → stores p b unended (reading p cs) ≡ stores p b unended (reading p bs))
      → writes p made (cond y hs (selection cs unended ∷ hs)) ≡ writes p made (cond y hs (selection bs unended ∷ hs))
  open_stores true bs cs hs h = refl
  open_stores false bs cs hs h = ap (λ (ws : List Store). writes p made hs ++ cond (enabled p hs) ws []) (h (bits p made hs))

-- ---- old or new

by_write : (first : List ℕ) (ws ws' : List Store) (w : Option Write) → ws' ≡ ws ++ stores_of w → AllProper (length (stored first ws)) ws'
    → OldOrNew (stored first ws) (stored first ws') ws ws'
by_write first ws ws' None e h = let q = e ∙ append-nil ws in old (ap (stored first) q) q
by_write first ws ws' (Some x) e h =
    let w : Store = record { address = x.address; value = x.value } in
    let r = proper_last (length (stored first ws)) ws w (rw e at h) in
    new w r.inside r.byte (ap (stored first) e ∙ stored_append first ws _) e

module _ (part pins bits : ℕ) (first : List ℕ) where
  abbrev model : Model
  model = made_by part pins bits

  abbrev row : Part
  row = part_of model.part

  abbrev memory_of : List (List ℕ) → List ℕ
  memory_of = memory_after_list part pins bits first

  abbrev writes_of_lem : List (List ℕ) → List Store
  writes_of_lem = writes_of part pins bits first

  abbrev items_of_lem : List (List ℕ) → List Item
  items_of_lem = items_of part pins bits first

  memory_stored : (es : List (List ℕ)) → memory_of es ≡ stored first (writes_of_lem es)
  memory_stored es = list_memory model first (made_in part pins bits) (made_off part pins bits) es

  same_writes : (es ks : List (List ℕ)) → writes_of_lem ks ≡ writes_of_lem es → memory_of ks ≡ memory_of es
  same_writes es ks e = memory_stored ks ∙ ap (stored first) e ∙ sym (memory_stored es)

  pub no_enable_no_store : NoEnableNoStore part pins bits first
  no_enable_no_store spi es ks bs e h q =
      same_writes es (es ++ ks)
      (rw (spi, q) (one_stores row (saved_in model.status) (asleep row (items_of_lem es)) bs e (without_ignored row (items_of_lem es)) h))

  pub no_wren_no_store : NoWrenNoStore part pins bits first
  no_wren_no_store spi es ks more h q n =
      same_writes es (es ++ ks) (rw (spi, q) (off_stores row (saved_in model.status) more (items_of_lem es) n h))

  pub one_enable_one_write : OneEnableOneWrite part pins bits first
  one_enable_one_write spi es ks bs wp is rest v vs more i a r d q n =
      no_wren_no_store spi es ks more (rw i (write_ends row (saved_in model.status) bs wp is rest v vs a r d)) q n

  -- ---- one event more

  -- the memory has the part's size, where an event is accepted
  writes_proper : (es : List (List ℕ)) → AllProper row.size (writes_of_lem es)
  writes_proper es = ledger_proper model (part_fits model.part (model_in_lem model (made_in part pins bits).0).known).positive (history_of model first es)

  module _ (es : List (List ℕ)) (t : List ℕ) where
    abbrev next : Observed
    next = observed (event_of (model_after model first es) (memory_of es) t)

    -- the list with t, whose event is accepted (y) or not
    writes_next : writes_of_lem (es ++ (t ∷ []))
        ≡ ledger_stores model (cond (eqb next.number 0) (with_event (read_of row t) next.answer (history_of model first es)) (history_of model first es))
    writes_next = ap (ledger_stores model) (fed_join row es (t ∷ []) model first [])

    read_grows : (r : Read) (a : ℕ) (h : List Entry) → Grown (ledger_stores model h) (ledger_stores model (with_event r a h))
    read_grows (Whole e n) a h =
        ledger_grows model (part_fits model.part (model_in_lem model (made_in part pins bits).0).known).wide
        (range_wired model (made_in part pins bits)) e a h
    read_grows (Refused r place) a h = (None, sym (append-nil (ledger_stores model h)))

    -- an accepted event had a memory of the part's size
    sized : eqb next.number 0 ≡ true → length (memory_of es) ≡ row.size
    sized e =
        accepted_sized (model_after model first es) (memory_of es) t e
        ∙ ap (λ (n : ℕ). (part_of n).size) (list_fits model first (made_in part pins bits) (made_off part pins bits) es).part_is

    one_byte : OldOrNew (memory_of es) (memory_of (es ++ (t ∷ []))) (writes_of_lem es) (writes_of_lem (es ++ (t ∷ [])))
    one_byte = by (eqb next.number 0) refl
      where
        by : (y : Bool) → eqb next.number 0 ≡ y → OldOrNew (memory_of es) (memory_of (es ++ (t ∷ []))) (writes_of_lem es) (writes_of_lem (es ++ (t ∷ [])))
        by true e =
            let g : Grown (writes_of_lem es) (writes_of_lem (es ++ (t ∷ []))) =
            rw (writes_next, e) (read_grows (read_of row t) next.answer (history_of model first es)) in
            let n : AllProper (length (stored first (writes_of_lem es))) (writes_of_lem (es ++ (t ∷ []))) =
            subst (λ (k : ℕ). AllProper k (writes_of_lem (es ++ (t ∷ [])))) (sym (sized e) ∙ ap length (memory_stored es)) (writes_proper (es ++ (t ∷ []))) in
            rw (memory_stored es, memory_stored (es ++ (t ∷ []))) (by_write first (writes_of_lem es) (writes_of_lem (es ++ (t ∷ []))) g.0 g.1 n)
        by false e =
            let q : writes_of_lem (es ++ (t ∷ [])) ≡ writes_of_lem es = writes_next ∙ rw e in
            old (same_writes es (es ++ (t ∷ [])) q) q

  pub old_or_new : OneByteAtMost part pins bits first
  old_or_new es t = one_byte es t

  pub cut_keeps_memory : CutKeepsMemory part pins bits first
  cut_keeps_memory es = memory_join es (cut ∷ []) model first ∙ cut_memory_lem (model_after model first es) (memory_of es)

  pub cut_loses_waiting : CutLosesWaiting part pins bits first
  cut_loses_waiting spi late es ks is bs ds address xs n i j r w least most =
      cut_keeps_memory (es ++ ks)
      ∙ same_writes es (es ++ ks)
      (rw (spi, i, j) (open_stores row (saved_in model.status) (asleep row is) bs (bs ++ ds) (without_ignored row is)
      (λ b. open_same row b late address w bs ds xs n r least most)))

  pub cut_without_power : CutWithoutPower part pins bits first
  cut_without_power es e =
      let r = cut_refused (model_after model first es) (memory_of es) e in
      (model_join es (cut ∷ []) model first ∙ r.1, cut_keeps_memory es, fed_join row es (cut ∷ []) model first [] ∙ rw r.0)
