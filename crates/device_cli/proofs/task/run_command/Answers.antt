use Rattle.input_files.specs.declared.status.Status.TheVariants.{Words}
use Rattle.device_cli.proofs.RowAnswer.{spelled-IsRun, spelled-whole, unspelled-IsRun, unspelled-whole}
use Rattle.device_cli.proofs.task.run_command.Goals as goal

pub returns-in-Some : goal.returns-in-Some
returns-in-Some g c =
    let row = g.T.Task.command_row c.in-Some.task in
    record {
      run = spelled-IsRun g.S.Shelf.files g.S.Shelf.faults g.S.Shelf.misses g.W.Sink.stands
          g.W.Sink.faults c.args.shelf.now c.run_task.new.shelf c.args.sink.now
          c.run_task.new.sink row _ c.run_task.result c.in-Some.ensures c.run_task.ensures.answers;
      whole = spelled-whole (g.S.Shelf.files c.args.shelf.now) g.W.Sink.stands c.args.sink.now
          c.run_task.new.sink row _ c.run_task.result g.T.Task.once_put c.in-Some.ensures
          c.run_task.ensures.whole;
    }

pub returns-in-None : goal.returns-in-None
returns-in-None g c =
    record {
      run = unspelled-IsRun g.S.Shelf.files g.S.Shelf.faults g.S.Shelf.misses g.W.Sink.stands
          g.W.Sink.faults c.args.shelf.now c.args.sink.now _ c.in-None.ensures;
      whole = unspelled-whole (g.S.Shelf.files c.args.shelf.now) g.W.Sink.stands c.args.sink.now
          c.args.sink.now _ Words g.T.Task.once_put c.in-None.ensures;
    }
