use Rattle.outside_edge.proofs.SinkLemmas.{prefix_of_more, puts_after, puts-failed}
use Rattle.device_cli.specs.Work.{summary_head, summary_tail}
use Rattle.device_cli.proofs.load.work_line.print_work_line.Goals as goal

pub returns-in_err-print_head-clause-puts : goal.returns-in_err-print_head-clause-puts
returns-in_err-print_head-clause-puts g c =
    puts-failed g.W.Sink.stands _ _ _ c.from_residual.result c.from_residual.ensures.0
    (prefix_of_more g.W.Sink.stands _ _ (summary_head c.args.seed c.args.counts)
    (summary_tail c.args.counts c.args.digest.now) c.in_err-print_head.ensures.puts.prefix)

pub returns-clause-puts : goal.returns-clause-puts
returns-clause-puts g c =
    puts_after g.W.Sink.stands _ _ _ (summary_head c.args.seed c.args.counts)
    (summary_tail c.args.counts c.args.digest.now) c.print_tail.result
    c.in_ok-print_head.ensures.puts.all c.print_tail.ensures.puts
