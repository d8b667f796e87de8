use Rattle.std.{proofs.Common.{◌++◌, ◌∷◌}, specs.Prelude.codes}
use Rattle.hex.specs.Hex.{encode_lower}
use Rattle.outside_edge.proofs.SinkLemmas.{prefix_of_more, puts_after, puts-failed}
use Rattle.report_text.proofs.collision_line.print_lists.Goals as goal

pub returns-in_err-print_digits-clause-puts : goal.returns-in_err-print_digits-clause-puts
returns-in_err-print_digits-clause-puts g c =
    puts-failed g.W.Sink.stands _ _ _ c.from_residual.result c.from_residual.ensures.0
    (prefix_of_more g.W.Sink.stands _ _ (codes "collision " ++ encode_lower c.args.first.now)
    (32 ∷ encode_lower c.args.second.now) c.in_err-print_digits.ensures.puts.prefix)

pub returns-clause-puts : goal.returns-clause-puts
returns-clause-puts g c =
    puts_after g.W.Sink.stands _ _ _ (codes "collision " ++ encode_lower c.args.first.now)
    (32 ∷ encode_lower c.args.second.now) c.print_digits-2.result
    c.in_ok-print_digits.ensures.puts.all c.print_digits-2.ensures.puts
