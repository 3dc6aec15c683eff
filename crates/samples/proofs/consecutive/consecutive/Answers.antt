-- `consecutive` meets its contract: a turn takes the sample that the next event amounts to, and at the end nothing is left. Assumes
-- nothing.
use mathlib.Core.Path.{◌≡◌}
use mathlib.Core.Bool.{true, false}
use Rattle.samples.specs.Bound.{next_before}
use Rattle.samples.specs.Kept.{present}
use Rattle.samples.proofs.BoundLaws.{bound_first, bound_room, bound_next, asked, before_end}
use Rattle.samples.proofs.SamplesLaws.{three, stops}
use Rattle.samples.proofs.HeldLaws.{takes}
use Rattle.samples.proofs.consecutive.consecutive.Goals as goal

pub loop-part-init : goal.loop-part-init
loop-part-init g c =
    let r = c.requires in
    (r.0, rw c.latest-end.ensures (bound_first _ _ _ _ r.3), record { within = r.3; sound = rw r.1 r.2; left = rw r.1 })

pub next_is-requires : goal.next_is-requires
next_is-requires g c = bound_room c.loop-part.invariant.1

pub take-requires : goal.take-requires
take-requires g c =
    (c.loop-part.invariant.0, c.loop-part.invariant.2.sound)

pub loop-part-preserved : goal.loop-part-preserved
loop-part-preserved g c =
    let b = g.B.Kept in
    let l = c.loop-part in
    let t = c.args.trace.now in
    let now = present (b.state l.bus).bus in
    let test : c.next_is.result ≡ next_before b.limit now c.latest-end.result l.offset t = c.next_is.ensures in
    let yes = asked t b.limit now c.latest-end.result l.offset c.next_is.result test c.args.quota l.count l.invariant.1 true c.loop-part-test.true in
    let more = before_end t b.limit now c.latest-end.result l.offset c.next_is.result test c.loop-part-test.true in
    let taken = takes l.invariant.2 b.limit now (g.met.B.Kept.stays l.bus) yes c.last.result c.last.ensures c.first_sample-sample.result c.first_sample-sample.ensures _ c.take.ensures.taken in
    (c.take.ensures.fits, bound_next l.invariant.1 more, rw (c.flag_at-flag.ensures, c.flagged-flagged.ensures, c.note_answer.ensures, c.present.ensures) taken)

pub model-requires : goal.model-requires
model-requires g c = (c.args.part, c.loop-part.invariant.0)

-- ---- at the end nothing is left: the three that a run leaves

pub returns : goal.returns
returns g c =
    let b = g.B.Kept in
    let l = c.loop-part in
    let t = c.args.trace.now in
    let now = present (b.state l.bus).bus in
    let test : c.next_is.result ≡ next_before b.limit now c.latest-end.result l.offset t = c.next_is.ensures in
    let no = asked t b.limit now c.latest-end.result l.offset c.next_is.result test c.args.quota l.count l.invariant.1 false c.loop-part-test.false in
    let e = three _ _ (stops l.invariant.2 b.limit now (g.met.B.Kept.stays l.bus) no) in
    record { progress = rw c.model.ensures e.0; memory = e.1; answers = e.2 }
