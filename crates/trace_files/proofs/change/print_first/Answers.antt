use Rattle.outside_edge.proofs.SinkLemmas.{prefix_of_more, puts_after, puts-failed}
use Rattle.trace_files.specs.WaveText.{dump_text, time_text}
use Rattle.trace_files.proofs.change.print_first.Goals as goal

pub returns-in_err-print_time-clause-puts : goal.returns-in_err-print_time-clause-puts
returns-in_err-print_time-clause-puts g c =
    puts-failed g.W.Sink.stands _ _ _ c.from_residual.result c.from_residual.ensures.0
    (prefix_of_more g.W.Sink.stands _ _ (time_text c.args.step) (dump_text c.args.now.now)
    c.in_err-print_time.ensures.puts.prefix)

pub returns-clause-puts : goal.returns-clause-puts
returns-clause-puts g c =
    puts_after g.W.Sink.stands _ _ _ (time_text c.args.step) (dump_text c.args.now.now)
    c.print_dump.result c.in_ok-print_time.ensures.puts.all c.print_dump.ensures.puts
