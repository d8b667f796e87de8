use Rattle.std.proofs.{Common.{◌≡◌, ◌∙◌, ℕ, length, take, ap, arith, subst}, Math.Seq.take-length}
use Rattle.desk_memory.specs.Entry.{with_entries}
use Rattle.desk_cli.proofs.Noting.{Notes, note-failed, notes-next, notes-none, notes-settled}
use Rattle.desk_cli.proofs.note_all.note_all.Goals as goal

pub loop-entry-init : goal.loop-entry-init
loop-entry-init g c = notes-none g.M.Memory c.args.memory.now

pub returns-in_err-note_entry : goal.returns-in_err-note_entry
returns-in_err-note_entry g c = λ had has.
    let at = c.loop-entry in
    let refused = c.in_err-note_entry.ensures in
    note-failed g.M.Memory c.args.memory.now at.memory c.note_entry.new.self
    (take at.entry-index c.args.entries.now) (with_entries had c.args.entries.now)
    c.in_err-note_entry.field-0.0 c.from_residual.result at.invariant refused.honest refused.crash
    refused.counts.cause c.from_residual.ensures.1

pub loop-entry-preserved : goal.loop-entry-preserved
loop-entry-preserved g c =
    let at = c.loop-entry in
    let noted = c.in_ok-note_entry.ensures in
    notes-next g.M.Memory c.args.memory.now at.memory c.note_entry.new.self c.args.entries.now
    at.entry-index _ c.entry-item.result c.loop-entry-test.true c.entry-item.is at.invariant
    noted.honest noted.noted noted.crash noted.counts.counted

pub returns : goal.returns
returns g c = λ had has.
    let at = c.loop-entry in
    let entries = c.args.entries.now in
    let all : at.entry-index ≡ length entries =
    omega (arith, c.loop-entry-test.false, at.auto.entry-index-end) in
    let whole : take at.entry-index entries ≡ entries =
    ap (λ (n : ℕ). take n entries) all ∙ take-length entries in
    let settled = c.settle.ensures in
    notes-settled g.M.Memory c.args.memory.now at.memory c.settle.new.self entries had
    c.settle.result (subst (Notes g.M.Memory c.args.memory.now at.memory) whole at.invariant)
    settled.honest settled.same settled.kept settled.whole settled.crash
    settled.counts.cause has
