use Rattle.outside_edge.proofs.SinkLemmas.{puts_after}
use Rattle.desk_cli.proofs.state_line.put_name.Goals as goal

pub returns-clause-puts : goal.returns-clause-puts
returns-clause-puts g c =
    puts_after g.W.Sink.stands _ _ _ c.args.front.now c.args.name.now c.put_all-2.result
    c.in_ok-put_all.ensures.puts.all c.put_all-2.ensures.puts
