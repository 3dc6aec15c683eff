-- `select_bytes` meets its contract. The head and the rest by their number are what the definition on the pins gives (`taken`): each call
-- is one of its parts. Assumes nothing.
use Prim.Native.Nat.{◌≤◌}
use mathlib.Core.Path.{◌≡◌, ap, ◌∙◌}
use native.Mathlib.Omega.{arith}
use lib.ListN.{length}
use Rattle.parts.specs.Table.{part_of}
use Rattle.spi.specs.Sample.{selected}
use Rattle.chip.proofs.CheckLaws.{sound_in}
use Rattle.byte_path.specs.declared.head.Head.{Head}
use Rattle.byte_path.specs.Head.{head_from}
use Rattle.byte_path.specs.PinPath.{driven_count}
use Rattle.selects.proofs.SelectLaws.{from_on, first_none, first_some, rest_long, rest_put, backs, begun, first_bordered, taken}
use Rattle.selects.proofs.taken.select_bytes.Goals.{then-count-eq0, else-count-eq0}
use Rattle.selects.proofs.taken.select_bytes.Goals as goal

pub part_of-part-requires : goal.part_of-part-requires
part_of-part-requires c = (sound_in c.args.model c.args.memory.now c.requires.2).model.known

pub head_of-phase-requires : goal.head_of-phase-requires
head_of-phase-requires c =
    let a = c.args in (
      rw (c.part_of-part.ensures, c.select.ensures)
          (first_bordered a.model a.spi a.memory.now a.input.now a.wp c.requires.0 c.requires.2),
      omega (arith, c.requires.3),
    )

pub show-count-requires : goal.show-count-requires
show-count-requires c =
    let a = c.args in
    let b = begun a.model a.spi a.memory.now a.input.now a.wp c.requires.0 c.requires.2 (λ i. (c.type_inv.input i).fits) in
    rw (c.head_of-phase.ensures.head, c.select.ensures, c.part_of-part.ensures) (b.inside, (sound_in a.model a.memory.now c.requires.2).sized)

pub store-requires : goal.store-requires
store-requires c =
    let a = c.args in
    let b = begun a.model a.spi a.memory.now a.input.now a.wp c.requires.0 c.requires.2 (λ i. (c.type_inv.input i).fits) in
    rw (c.head_of-phase.ensures.head, c.select.ensures, c.part_of-part.ensures) (b.inside, (sound_in a.model a.memory.now c.requires.2).sized)

pub returns-clause-output : goal.returns-clause-output
returns-clause-output c =
    let a = c.args in
    let b = begun a.model a.spi a.memory.now a.input.now a.wp c.requires.0 c.requires.2 (λ i. (c.type_inv.input i).fits) in
    let t = taken a.model a.spi a.memory.now a.input.now a.wp c.requires.0 c.requires.2 c.requires.1 (λ i. (c.slice_known-2-1.given i).fits) (λ i. (c.type_inv.input i).fits) in
    let n = (head_from (part_of a.model.part) (selected a.spi.asleep) a.input.now).at in
    let fit : n ≤ length a.output.now = omega (arith, b.within, c.requires.3) in
    let head = c.head_of-phase.ensures in
    rw (c.show-count.ensures.output, head.output, head.head, c.select.ensures, c.part_of-part.ensures, rest_long a.output.now n fit a.input.now c.requires.3) (rest_put a.output.now n fit _ ∙ t.output)

pub returns-clause-model : goal.returns-clause-model
returns-clause-model c =
    let a = c.args in
    let t = taken a.model a.spi a.memory.now a.input.now a.wp c.requires.0 c.requires.2 c.requires.1 (λ i. (c.slice_known-2-1.given i).fits) (λ i. (c.type_inv.input i).fits) in
    let head = c.head_of-phase.ensures in
    rw (c.risen.ensures, c.last_si.ensures, c.end_phase-end.ensures, head.head, c.select.ensures, c.part_of-part.ensures) t.model

pub returns-clause-memory : goal.returns-clause-memory
returns-clause-memory c =
    let a = c.args in
    let t = taken a.model a.spi a.memory.now a.input.now a.wp c.requires.0 c.requires.2 c.requires.1 (λ i. (c.slice_known-2-1.given i).fits) (λ i. (c.type_inv.input i).fits) in
    let n = (head_from (part_of a.model.part) (selected a.spi.asleep) a.input.now).at in
    let head = c.head_of-phase.ensures in
    rw (c.store.ensures, head.head, c.select.ensures, c.part_of-part.ensures, from_on a.input.now n) t.memory

pub returns-clause-count : goal.returns-clause-count
returns-clause-count c =
    let a = c.args in
    let b = begun a.model a.spi a.memory.now a.input.now a.wp c.requires.0 c.requires.2 (λ i. (c.type_inv.input i).fits) in
    let t = taken a.model a.spi a.memory.now a.input.now a.wp c.requires.0 c.requires.2 c.requires.1 (λ i. (c.slice_known-2-1.given i).fits) (λ i. (c.type_inv.input i).fits) in
    let n = (head_from (part_of a.model.part) (selected a.spi.asleep) a.input.now).at in
    let fit : n ≤ length a.output.now = omega (arith, b.within, c.requires.3) in
    let head = c.head_of-phase.ensures in
    rw (c.show-count.ensures.count, head.output, head.head, c.select.ensures, c.part_of-part.ensures, rest_long a.output.now n fit a.input.now c.requires.3) t.count

pub returns-clause-first : goal.returns-clause-first
returns-clause-first c =
    let a = c.args in
    let b = begun a.model a.spi a.memory.now a.input.now a.wp c.requires.0 c.requires.2 (λ i. (c.type_inv.input i).fits) in
    let t = taken a.model a.spi a.memory.now a.input.now a.wp c.requires.0 c.requires.2 c.requires.1 (λ i. (c.slice_known-2-1.given i).fits) (λ i. (c.type_inv.input i).fits) in
    let n = (head_from (part_of a.model.part) (selected a.spi.asleep) a.input.now).at in
    let fit : n ≤ length a.output.now = omega (arith, b.within, c.requires.3) in
    let head = c.head_of-phase.ensures in
    let count : c.show-count.result ≡ driven_count (backs a.model.part a.model.pins a.model.status a.spi a.memory.now a.input.now a.wp) =
    rw (c.show-count.ensures.count, head.output, head.head, c.select.ensures, c.part_of-part.ensures, rest_long a.output.now n fit a.input.now c.requires.3) in
    elim c.if-count-eq0.branch [
      | then-count-eq0 w ↦ w.first-is ∙ first_none _ _ _ _ _ count w.if-count-eq0.true t.first
      | else-count-eq0 w ↦ w.first-is ∙ ap (λ (h : Head). h.at) (rw (c.select.ensures, c.part_of-part.ensures) at head.head) ∙ first_some _ _ _ _ _ count (omega (arith, w.if-count-eq0.false)) t.first
    ]
