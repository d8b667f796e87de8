use Rattle.std.proofs.Common.{inr}
use Rattle.desk_cli.proofs.MoveAnswer.{move-answer}
use Rattle.desk_cli.proofs.moving.run_move.Goals as goal

pub returns-in-Ok : goal.returns-in-Ok
returns-in-Ok g c =
    let moves = c.move_in-status.ensures.moves in
    let found = c.in-Ok.ensures.opened moves.0 moves.1 in
    move-answer g.F.MemoryFiles.told g.M.Memory g.M.EntryMemory.desk_of g.W.Sink
    c.args.memories.now c.close.new.self c.args.sink.now c.move_in-status.new.sink _ _
    c.move_in-status.result c.in-Some.ensures
    (inr (record {
      opened = c.in-Ok.memory;
      left = c.move_in-status.new.memory;
      entries = moves.0;
      found = found;
      does = moves.2 found.keeps;
      closed = c.close.ensures;
    })) c.move_in-status.ensures.counted
