-- What a host sees that clocks on after an opcode RDSR, or after READ and its address: the ledger's status byte again and again, and
-- the ledger's bytes from the address up, rolled over, bit by bit and for as many bytes as it likes. For every making of an SPI
-- part, every first memory and every list of events before. From the answers after every list. Assumes nothing.
use Prim.Native.Nat.{ℕ, zero, suc, ◌+◌, ◌-◌, ◌/◌, ◌%◌, ◌^◌, ◌<◌}
use mathlib.Core.Path.{◌≡◌, refl, sym, ap, ap₂, ◌∙◌, subst}
use mathlib.Core.Bool.{Bool, true, false, false≢true}
use mathlib.Core.List.{List, [], ◌∷◌, ◌++◌, append_assoc, append-nil}
use native.Mathlib.Omega.{arith}
use lib.ListN.{length, get_or, length-append}
use borrow.Author.Tests.{lt-ltb}
use Rattle.parts.specs.declared.part.Bus.{Bus}
use Rattle.parts.specs.declared.part.Bus.TheVariants.{Spi, I2c}
use Rattle.parts.specs.declared.part.Part.{Part}
use Rattle.parts.specs.declared.status.Status.{Status}
use Rattle.parts.specs.Status.{status_byte}
use Rattle.parts.specs.Table.{is_spi, part_of}
use Rattle.trace.specs.declared.event.Event.TheVariants.{Sample}
use Rattle.trace.specs.Event.{sample_limit}
use Rattle.trace.specs.Read.{read_of, Whole}
use Rattle.selection.specs.declared.edge.Edge.TheVariants.{Rise, Fall}
use Rattle.selection.specs.declared.levels.Levels.{Levels}
use Rattle.selection.specs.declared.opcode.Command.TheVariants.{RDSR, READ}
use Rattle.selection.specs.Edge.{edge_of}
use Rattle.selection.specs.Levels.{levels_of}
use Rattle.chip.specs.declared.model.BusState.{BusState}
use Rattle.chip.specs.declared.model.BusState.TheVariants.{Unpowered, SpiOn, I2cOn}
use Rattle.chip.specs.declared.model.Model.{Model}
use Rattle.events.specs.Event.{advance_of}
use Rattle.runs.specs.Event.{event_of}
use Rattle.ledger.specs.Bits.{number}
use Rattle.ledger.specs.History.{Entry}
use Rattle.ledger.specs.SpiLedger.{unended, Item, selection, last_sample, items, command, reading, SavedBits}
use Rattle.ledger.specs.SpiAnswers.{read_shows, memory_now, register_now}
use Rattle.ledger.proofs.SpiOutputs.{reading_more, rdsr_shown, read_shown}
use Rattle.promise.specs.Lists.{model_after, memory_after}
use Rattle.promise.specs.Ledger.{saved_in}
use Rattle.promise.specs.Promise.{made_by, history_of}
use Rattle.promise.specs.SpiAnswers.{observed_after}
use Rattle.promise.specs.SpiBytes.{sample, fall, rise, clocks, Clocked, at_fall, RdsrShows, ReadShows}
use Rattle.promise.proofs.Ranges.{made_in, made_off}
use Rattle.promise.proofs.Agrees.{AgreesOn}
use Rattle.promise.proofs.Steps.{Tested}
use Rattle.promise.proofs.SpiAnswers.{ShowsOn, list_answers, latest, spi_answers}

-- the bits that n clocks bring
abbrev zeros : ℕ → List Bool
zeros zero = []
zeros (suc n) = zeros n ++ (false ∷ [])

length_zeros : (n : ℕ) → length (zeros n) ≡ n
length_zeros zero = refl
length_zeros (suc n) = simp (length-append, length_zeros n) (omega arith)

-- ---- a sample that is read

limit : (b : Bus) → is_spi b ≡ true → sample_limit b ≡ 32
limit Spi h = refl
limit I2c h = absurd (false≢true h)

read_sample_lem : (p : Part) (x : ℕ) → is_spi p.bus ≡ true → x < 32 → read_of p (sample x) ≡ Whole (Sample x) 2
unfolding read_of
read_sample_lem p x spi h = rw (limit p.bus spi, lt-ltb x 32 h)

-- ---- a making

module _ (part pins bits : ℕ) (first : List ℕ) where
  abbrev model : Model
  model = made_by part pins bits

  abbrev row : Part
  row = part_of model.part

  abbrev history : List (List ℕ) → List Entry
  history es = history_of model first es

  abbrev made : SavedBits
  made = saved_in model.status

  module _ (spi : is_spi row.bus ≡ true) where
    -- ---- one sample more, with CS# 0 before it: there is power, so it is accepted

    module _ (es : List (List ℕ)) (low : (last_sample (history es)).cs ≡ false) where
      abbrev state : Model
      state = model_after model first es

      abbrev memory : List ℕ
      memory = memory_after model first es

      by_bus : (b : BusState) (x : ℕ) → x < 32 → state.part ≡ model.part → state.bus ≡ b → Tested b state memory
          → AgreesOn model first b state.status memory (history es) → ShowsOn model first b state.status memory (history es)
          → (event_of state memory (sample x)).result.number ≡ 0
      unfolding event_of advance_of
      by_bus Unpowered x h p q c f g = absurd (false≢true (sym low ∙ ap (λ (l : Levels). l.cs) g))
      by_bus (SpiOn y) x h p q c f g = rw (c, p, read_sample_lem row x spi h, q)
      by_bus (I2cOn y) x h p q c f g = absurd (false≢true (sym f.0 ∙ spi))

      taken : (x : ℕ) → x < 32 → (observed_after model first es (sample x)).number ≡ 0
      taken x h =
          let a = list_answers model first (made_in part pins bits) spi (made_off part pins bits) es in
          by_bus state.bus x h a.fits.part_is refl a.fits.passed a.fits.agrees a.shows

      entry_of : (x : ℕ) → x < 32
          → history (es ++ (sample x ∷ [])) ≡ record { event = Sample x; answer = (observed_after model first es (sample x)).answer } ∷ history es
      entry_of x h = latest part pins bits first spi es (sample x) (taken x h) (Sample x) 2 (read_sample_lem row x spi h)

    -- ---- a fall

    module _ (es : List (List ℕ)) (bs : List Bool) (is : List Item) (c : Clocked part pins bits first es bs is) where
      falls : edge_of (last_sample (history es)) (levels_of 24) ≡ Fall
      falls = rw (c.selected, c.unheld, c.clock_high)

      fall_items : items (history (es ++ (fall ∷ []))) ≡ selection bs unended ∷ is
      fall_items = rw (entry_of es c.selected 24 (omega arith), falls) c.opened

      fall_last : last_sample (history (es ++ (fall ∷ []))) ≡ levels_of 24
      fall_last = rw (entry_of es c.selected 24 (omega arith))

      -- it shows what the bits before it read
      fall_answer : (observed_after model first es fall).answer
          ≡ read_shows row (register_now row made (history es)) (memory_now row made first (history es)) (reading row bs) (length bs)
      fall_answer =
          spi_answers part pins bits first spi es fall (taken es c.selected 24 (omega arith))
          ∙ rw (entry_of es c.selected 24 (omega arith), falls, c.opened, c.awake)

      -- and the rise after it brings a bit
      after_clock : Clocked part pins bits first (es ++ (fall ∷ rise ∷ [])) (bs ++ (false ∷ [])) is
      after_clock =
          let fs : List (List ℕ) = es ++ (fall ∷ []) in
          let low : (last_sample (history fs)).cs ≡ false = rw fall_last in
          let e = entry_of fs low 26 (omega arith) in
          let r : edge_of (last_sample (history fs)) (levels_of 26) ≡ Rise false = rw fall_last in
          subst (λ (ks : List (List ℕ)). Clocked part pins bits first ks (bs ++ (false ∷ [])) is) (append_assoc es (fall ∷ []) (rise ∷ []))
          (record { opened = rw (e, r, fall_items); awake = c.awake; selected = rw e; clock_high = rw e; unheld = rw e })

    -- ---- n clocks

    more_clocks : (n : ℕ) (es : List (List ℕ)) (bs : List Bool) (is : List Item) → Clocked part pins bits first es bs is → Clocked part pins bits first (es ++ clocks n) (bs ++ zeros n) is
    more_clocks zero es bs is c = rw (append-nil es, append-nil bs) c
    more_clocks (suc n) es bs is c =
        let d = after_clock (es ++ clocks n) (bs ++ zeros n) is (more_clocks n es bs is c) in
        rw (← append_assoc es, ← append_assoc bs) d

    module _ (es : List (List ℕ)) (bs : List Bool) (is : List Item) (c : Clocked part pins bits first es bs is) (n : ℕ) where
      fall_taken : (at_fall part pins bits first es n).number ≡ 0
      fall_taken = taken (es ++ clocks n) (more_clocks n es bs is c).selected 24 (omega arith)

      -- the register does not change in an open selection
      register_same : register_now row made (history (es ++ clocks n)) ≡ register_now row made (history es)
      register_same = rw ((more_clocks n es bs is c).opened, c.opened, c.awake)

      rdsr_bit : reading row bs ≡ command RDSR []
          → ((at_fall part pins bits first es n).number ≡ 0)
          × ((at_fall part pins bits first es n).answer ≡ status_byte (register_now row made (history es)) / 2 ^ (7 - n % 8) % 2)
      rdsr_bit q =
          let a = fall_answer (es ++ clocks n) (bs ++ zeros n) is (more_clocks n es bs is c) in
          let r = reading_more row bs RDSR [] (zeros n) q in
          let shown : Status → ℕ → ℕ = λ x k. status_byte x / 2 ^ (7 - k % 8) % 2 in
          (fall_taken, a ∙ rdsr_shown row _ _ (bs ++ zeros n) (zeros n) r ∙ ap₂ shown register_same (length_zeros n))

      read_bit : (address : List Bool) → length address ≡ row.width → reading row bs ≡ command READ address
          → ((at_fall part pins bits first es n).number ≡ 0)
          × ((at_fall part pins bits first es n).answer ≡ get_or (memory_now row made first (history es)) ((number address + n / 8) % row.size) 0 / 2 ^ (7 - n % 8) % 2)
      read_bit address w q =
          let d = more_clocks n es bs is c in
          let a = fall_answer (es ++ clocks n) (bs ++ zeros n) is d in
          let r = reading_more row bs READ address (zeros n) q in
          let same : memory_now row made first (history (es ++ clocks n)) ≡ memory_now row made first (history es) =
          rw (d.opened, c.opened, c.awake, r, q) in
          (fall_taken, a ∙ read_shown row _ _ (bs ++ zeros n) address (zeros n) w r ∙ rw (same, length_zeros n))

  pub rdsr_shows : RdsrShows part pins bits first
  rdsr_shows spi es bs is c n q = rdsr_bit spi es bs is c n q

  pub read_shows_lem : ReadShows part pins bits first
  read_shows_lem spi es bs is c n address w q = read_bit spi es bs is c n address w q
