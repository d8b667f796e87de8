use Rattle.outside_edge.proofs.SinkLemmas.{prefix_of_more, puts-failed, puts_after}
use Rattle.hex_loader.specs.HexText.{hex_text}
use Rattle.device_play.specs.Accounts.{end_line_of, memory_after}
use Rattle.device_play.proofs.dump_watcher.DumpWatcherWatcher.end.Goals as goal

pub returns-in_err-end-clause-puts : goal.returns-in_err-end-clause-puts
returns-in_err-end-clause-puts g c = λ start play stands is.
    puts-failed g.W.Sink.stands c.args.sink.now c.end.new.sink _ c.from_residual.result
    c.from_residual.ensures.0
    (prefix_of_more g.W.Sink.stands c.args.sink.now c.end.new.sink (end_line_of start play)
    (hex_text (memory_after start play)) (c.in_err-end.ensures.puts start play stands tt).prefix)

pub returns-clause-puts : goal.returns-clause-puts
returns-clause-puts g c = λ start play stands is.
    puts_after g.W.Sink.stands c.args.sink.now c.end.new.sink c.write_memory.new.sink
    (end_line_of start play) (hex_text (memory_after start play)) _
    (c.in_ok-end.ensures.puts start play stands tt).all
    (c.write_memory.ensures.puts _ _ _ (c.memory.ensures start play stands))
