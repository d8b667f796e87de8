use Rattle.std.proofs.Common.{Ok, refl, inl, inr}
use Rattle.input_files.specs.Row.{Ends}
use Rattle.desk_cli.proofs.MoveAnswer.{adopt-answer, unread-answer}
use Rattle.desk_cli.proofs.adopting.run_adopt.Goals as goal

pub returns-in-Err : goal.returns-in-Err
returns-in-Err g c =
    rw c.of_refusal.ensures
    (unread-answer g.S.Shelf g.F.MemoryFiles.told g.M.Memory g.M.EntryMemory.desk_of
    c.args.shelf.now c.read.new.shelf c.args.memories.now _ _ _ c.in-Err.refusal
    c.in-Some.ensures (c.in-Err.ensures (λ lines. Ends (Ok lines))))

pub returns-in-Ok-open : goal.returns-in-Ok-open
returns-in-Ok-open g c =
    let reads = c.in-Ok.ensures (λ lines. Ends (Ok lines)) in
    let adopted = c.adopt_in-status.ensures in
    let found = c.in-Ok-open.ensures.opened adopted.0 adopted.1 in
    adopt-answer g.S.Shelf g.F.MemoryFiles.told g.M.Memory g.M.EntryMemory.desk_of
    c.args.shelf.now c.read.new.shelf c.args.memories.now c.close.new.self _ _ c.in-Ok.lines
    c.adopt_in-status.result c.in-Some.ensures
    (reads.values.reaches (Ok c.in-Ok.lines) refl) reads.kept
    (inr (record {
      opened = c.in-Ok-open.memory;
      left = c.adopt_in-status.new.memory;
      entries = adopted.0;
      found = found;
      does = adopted.2 found.keeps;
      closed = c.close.ensures;
    }))

pub returns : goal.returns
returns g c =
    let reads = c.in-Ok.ensures (λ lines. Ends (Ok lines)) in
    adopt-answer g.S.Shelf g.F.MemoryFiles.told g.M.Memory g.M.EntryMemory.desk_of
    c.args.shelf.now c.read.new.shelf c.args.memories.now c.open.new.self _ _ c.in-Ok.lines
    c.unopened_status.result c.in-Some.ensures
    (reads.values.reaches (Ok c.in-Ok.lines) refl) reads.kept
    (inl (
      record {
        fault = c.in-Err-open.fault;
        answer = c.unopened_status.ensures;
        unopened = c.in-Err-open.ensures.unopened;
      },
      tt,
    ))
