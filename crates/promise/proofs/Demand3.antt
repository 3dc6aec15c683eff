-- DEMAND 3: after every list of events on every model just made, and then a cut, memory and saved bits are the ledger's, and the
-- model is one just made. From the agreement after every list. Assumes nothing.
use Prim.Native.Nat.{ℕ}
use mathlib.Core.Path.{◌≡◌, refl, sym, ap, ap₂, ◌∙◌, subst}
use mathlib.Core.Bool.{Bool, true, false, cond}
use mathlib.Core.List.{List, [], ◌∷◌}
use native.Mathlib.Omega.{arith}
use lib.Dec.{ltb}
use lib.ListN.{length, get_or}
use borrow.Author.Tests.{lt-ltb}
use Rattle.parts.specs.declared.status.Status.{Status}
use Rattle.parts.specs.Table.{part_of}
use Rattle.chip.specs.declared.model.BusState.{BusState}
use Rattle.chip.specs.declared.model.BusState.TheVariants.{Unpowered}
use Rattle.chip.specs.declared.model.Model.{Model}
use Rattle.chip.specs.Check.{bits_clear}
use Rattle.chip.specs.Model.{model_of, unpowered}
use Rattle.chip.proofs.CheckLaws.{ModelIn, model_in_lem}
use Rattle.model.specs.Made.{Made}
use Rattle.model.specs.Make.{status_of, make_of}
use Rattle.ledger.specs.History.{Entry}
use Rattle.ledger.specs.Stores.{stored}
use Rattle.ledger.specs.SpiLedger.{SavedBits, register}
use Rattle.ledger.proofs.StoreLaws.{length_stored, get_d_stored}
use Rattle.promise.specs.Lists.{observations, model_after, memory_after}
use Rattle.promise.specs.Ledger.{saved_in, bits_number, ledger_stores}
use Rattle.promise.specs.Promise.{cut, then_cut, history_of, made, cut_model, cut_memory, cut_history, cut_bits, fresh_made, Promise}
use Rattle.promise.proofs.Ranges.{made_in, made_off, list_in}
use Rattle.promise.proofs.Joins.{model_join}
use Rattle.promise.proofs.Steps.{Fits, list_fits, list_memory, cut_off}

-- ---- a making with the bits of a model without power gives that model

status_again : (b : SavedBits) → status_of (bits_number b) ≡ register b false
status_again b = by b.srwd b.bp1 b.bp0
  where
    by : (x y z : Bool) → status_of (bits_number (record { srwd = x; bp1 = y; bp0 = z })) ≡ register (record { srwd = x; bp1 = y; bp0 = z }) false
    by true true true = refl
    by true true false = refl
    by true false true = refl
    by true false false = refl
    by false true true = refl
    by false true false = refl
    by false false true = refl
    by false false false = refl

bits_again : (y : Bool) (b : SavedBits) → cond y true (bits_clear (register b false)) ≡ true → cond y (ltb (bits_number b) 8) (ltb (bits_number b) 1) ≡ true
bits_again y b = by y b.srwd b.bp1 b.bp0
  where
    by : (y c d e : Bool) → cond y true (bits_clear (register (record { srwd = c; bp1 = d; bp0 = e }) false)) ≡ true
        → cond y (ltb (bits_number (record { srwd = c; bp1 = d; bp0 = e })) 8) (ltb (bits_number (record { srwd = c; bp1 = d; bp0 = e })) 1) ≡ true
    by true true true true h = refl
    by true true true false h = refl
    by true true false true h = refl
    by true true false false h = refl
    by true false true true h = refl
    by true false true false h = refl
    by true false false true h = refl
    by true false false false h = refl
    by false false false false h = refl
    by false true d e h = let z : ◌≡◌ {A = ℕ} 0 1 = cc in absurd (omega arith)
    by false false true e h = let z : ◌≡◌ {A = ℕ} 0 1 = cc in absurd (omega arith)
    by false false false true h = let z : ◌≡◌ {A = ℕ} 0 1 = cc in absurd (omega arith)

pub made_again : (part pins : ℕ) (b : SavedBits) → ModelIn (unpowered part pins (register b false))
    → make_of part pins (bits_number b) ≡ record { number = 0; model = unpowered part pins (register b false) }
unfolding make_of
made_again part pins b h =
    rw (lt-ltb part 5 h.known, lt-ltb pins (part_of part).pins h.wired, bits_again (part_of part).saved b h.bits, status_again b)

-- ---- the demand

-- a state by its fields
fields_are : (s : Model) {part pins : ℕ} {st : Status} {b : BusState} → s.part ≡ part → s.pins ≡ pins → s.status ≡ st → s.bus ≡ b
    → s ≡ model_of part pins st b
fields_are s {part} {pins} p q r t =
    ap₂ (λ (x y : ℕ). model_of x y s.status s.bus) p q ∙ ap₂ (λ (x : Status) (y : BusState). model_of part pins x y) r t

module _ (part pins bits : ℕ) (first : List ℕ) (es : List (List ℕ)) where
  -- the model just made, and model, memory, history and bits after the cut
  abbrev start : Model
  start = made part pins bits first es

  abbrev model : Model
  model = cut_model part pins bits first es

  abbrev memory : List ℕ
  memory = cut_memory part pins bits first es

  abbrev history : List Entry
  history = cut_history part pins bits first es

  abbrev left : SavedBits
  left = cut_bits part pins bits first es

  fits : (ks : List (List ℕ)) → Fits start first (model_after start first ks) (memory_after start first ks) (history_of start first ks)
  fits = list_fits start first (made_in part pins bits) (made_off part pins bits)

  memory_is : memory ≡ stored first (ledger_stores start history)
  memory_is = list_memory start first (made_in part pins bits) (made_off part pins bits) (then_cut es)

  -- there is no power after the cut
  unpowered_is : model.bus ≡ Unpowered
  unpowered_is = rw (model_join es (cut ∷ []) start first) (cut_off (model_after start first es) (memory_after start first es) (fits es).passed)

  status_is : model.status ≡ register left false
  status_is = (rw unpowered_is at (fits (then_cut es)).agrees).1

  -- part and pins as made, the ledger's bits, no power
  model_is : model ≡ unpowered start.part start.pins (register left false)
  model_is = fields_are model (fits (then_cut es)).part_is (fits (then_cut es)).pins_are status_is unpowered_is

  remade : fresh_made part pins bits first es ≡ record { number = 0; model = model }
  remade =
      let r = list_in (then_cut es) start first (made_in part pins bits) in
      made_again start.part start.pins left (subst ModelIn model_is (model_in_lem model r.0))
      ∙ ap (λ (s : Model). record { number = 0; model = s }) (sym model_is)

  kept : Promise part pins bits first es
  kept =
      let f : model ≡ (fresh_made part pins bits first es).model = sym (ap (λ (x : Made). x.model) remade) in
      record {
        as_long = ap length memory_is ∙ length_stored first (ledger_stores start history);
        holds = λ a l. ap (λ (m : List ℕ). get_or m a 0) memory_is ∙ get_d_stored first (ledger_stores start history) a l;
        saved = ap saved_in status_is;
        makes = ap (λ (x : Made). x.number) remade;
        fresh = f;
        later = λ ks. ap (λ (s : Model). observations s memory ks) f;
      }

-- a part, address pins and saved bits, any numbers; any first memory; any list of events, any bytes; then a cut
pub demand3 : (part pins bits : ℕ) (first : List ℕ) (es : List (List ℕ)) → Promise part pins bits first es
demand3 part pins bits first es = kept part pins bits first es
