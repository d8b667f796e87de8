use Rattle.std.proofs.Common.{Ok, refl}
use Rattle.input_files.specs.Row.{Ends}
use Rattle.desk_cli.proofs.MoveAnswer.{refused-answer, remember-answer}
use Rattle.desk_cli.proofs.founding.run_remember.Goals as goal

pub returns-in-Ok : goal.returns-in-Ok
returns-in-Ok g c =
    let reads = c.in-Ok.ensures (λ states. Ends (Ok states)) in
    remember-answer g.S.Shelf g.F.MemoryFiles.told g.M.Memory g.M.EntryMemory.desk_of
    c.args.shelf.now c.read.new.shelf c.args.memories.now c.found_with.new.memories _ _
    c.in-Ok.states c.found_with.result
    c.in-Some.ensures (reads.values.reaches (Ok c.in-Ok.states) refl) reads.kept
    (rw c.entries.ensures at c.found_with.ensures)

pub returns-in-Err : goal.returns-in-Err
returns-in-Err g c =
    rw c.of_refusal.ensures
    (refused-answer g.S.Shelf g.F.MemoryFiles.told g.M.Memory g.M.EntryMemory.desk_of
    c.args.shelf.now c.read.new.shelf c.args.memories.now _ _ _ c.in-Err.refusal
    c.in-Some.ensures (c.in-Err.ensures (λ entries. Ends (Ok entries))))
