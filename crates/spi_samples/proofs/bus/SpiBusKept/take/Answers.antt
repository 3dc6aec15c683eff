-- A sample is taken: by the edge that was seen. Assumes nothing.
use mathlib.Core.Path.{◌≡◌, sym, ◌∙◌}
use Rattle.parts.specs.Table.{part_of}
use Rattle.selection.specs.declared.edge.Edge.TheVariants.{Select, Deselect, Rise, Fall, Quiet}
use Rattle.selection.specs.Flag.{flag_of}
use Rattle.selection.specs.Levels.{levels_of}
use Rattle.spi.proofs.Keeps.{end_within}
use Rattle.samples.specs.Samples.{spi_of}
use Rattle.phase_bits.specs.Field.{with_bits}
use Rattle.phase_bits.proofs.FieldLaws.{one_more_lem, none_written, selected_fresh}
use Rattle.spi_samples.proofs.SpiLaws.{ready, Turned, turn}
use Rattle.spi_samples.proofs.bus.SpiBusKept.take.Goals as goal
use Rattle.spi_samples.proofs.bus.SpiBusKept.take.Goals.{in-Select, in-Deselect, in-Rise+then-self, in-Rise+else-self, in-Fall, in-Quiet}

-- a data byte that waits lies within the memory
pub apply-requires : goal.apply-requires
apply-requires c =
    let s = c.args.self.now in
    let r = ready s c.args.memory.now c.requires.1 in
    rw (c.end_write-write.ensures, c.with_bits-whole.ensures, r.sized, c.requires.0.row) (end_within (part_of s.number) r.fit s.status (with_bits s.phase s.bits s.value) r.inside)

pub rise-self-requires : goal.rise-self-requires
rise-self-requires c =
    let r = ready c.args.self.now c.args.memory.now c.requires.1 in
    let k = c.requires.0 in
    let last = rw k.early at c.if-self.false in
    rw k.row (r.fit, r.inside, k.kept, rw k.row at last, k.small, r.sized)

pub after_fall-self-requires : goal.after_fall-self-requires
after_fall-self-requires c =
    let r = ready c.args.self.now c.args.memory.now c.requires.1 in
    rw (c.with_bits-whole-in-Fall.ensures, c.requires.0.row) (r.sized, r.inside)

pub returns-clause-taken : goal.returns-clause-taken
returns-clause-taken c =
    let p = c.args.part in
    let s = c.args.self.now in
    let m = c.args.memory.now in
    let before = c.from-before in
    let levels = c.from-levels in
    let k = c.requires.0 in
    let to = c.match-edge_of in
    let now = to.self in
    let w : Turned c.edge_of.result p s.status (spi_of (levels_of s.last) s.asleep s.shown (with_bits s.phase s.bits s.value)) levels.result m now.status now.asleep now.shown (with_bits now.phase now.bits now.value) to.memory × (now.number ≡ s.number) × (now.pins ≡ s.pins) =
    elim to.branch [
      | in-Select w ↦ (record { edge = Select; seen = w.in-Select.is; memory = w.memory-is; status = rw w.self-is; asleep = rw w.self-is; shown = rw w.self-is; phase = rw (w.self-is, w.select-self.ensures) (selected_fresh s.asleep) }, rw w.self-is, rw w.self-is)
      | in-Deselect w ↦ (record { edge = Deselect; seen = w.in-Deselect.is; memory = w.memory-is ∙ rw (w.end_write-write.ensures, w.with_bits-whole.ensures) at w.apply.ensures; status = rw w.self-is (rw w.with_bits-whole.ensures at w.status_after-self.ensures); asleep = rw w.self-is (rw w.with_bits-whole.ensures at w.asleep_after-self.ensures); shown = rw w.self-is; phase = rw w.self-is }, rw w.self-is, rw w.self-is)
      | in-Rise+then-self w ↦ let few = rw k.early at w.if-self.true in (record { edge = Rise _; seen = w.in-Rise.is; memory = rw (none_written p s.bits s.value w.in-Rise.si s.status s.phase few) w.memory-is; status = rw w.self-is; asleep = rw w.self-is; shown = rw w.self-is; phase = rw (w.self-is, w.shift_in-self.ensures) (sym (one_more_lem p s.bits s.value w.in-Rise.si s.phase few)) }, rw w.self-is, rw w.self-is)
      | in-Rise+else-self w ↦ (record { edge = Rise _; seen = w.in-Rise.is; memory = w.memory-is ∙ w.rise-self.ensures.memory; status = rw w.self-is; asleep = rw w.self-is; shown = rw w.self-is; phase = rw (w.self-is, w.next_bits-self.ensures, w.next_value-self.ensures, w.with_bits-whole-else-self.ensures) w.rise-self.ensures.phase }, rw w.self-is, rw w.self-is)
      | in-Fall w ↦ (record { edge = Fall; seen = w.in-Fall.is; memory = w.memory-is; status = rw w.self-is; asleep = rw w.self-is; shown = rw w.self-is (rw w.with_bits-whole-in-Fall.ensures at w.after_fall-self.ensures); phase = rw w.self-is }, rw w.self-is, rw w.self-is)
      | in-Quiet w ↦ (record { edge = Quiet; seen = w.in-Quiet.is; memory = w.memory-is; status = rw w.self-is; asleep = rw w.self-is; shown = rw w.self-is; phase = rw w.self-is }, rw w.self-is, rw w.self-is)
    ] in
    rw (w.1, w.2) (turn s.number s.pins s.status s.last s.asleep s.shown (with_bits s.phase s.bits s.value) m p k.row c.args.sample before.result levels.result before.ensures levels.ensures c.edge_of.result c.edge_of.ensures (flag_of (levels_of s.last) (levels_of c.args.sample)) now.status now.asleep now.shown (with_bits now.phase now.bits now.value) to.memory (rw (before.ensures, levels.ensures)) w.0)
