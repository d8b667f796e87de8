use Rattle.std.{proofs.Common.{◌++◌, ◌∷◌, append_assoc}, specs.Prelude.codes}
use Rattle.outside_edge.proofs.SinkLemmas.{puts_after}
use Rattle.desk_cli.proofs.state_line.put_names.Goals as goal

pub returns-in_ok-put_name-in-Some-clause-puts : goal.returns-in_ok-put_name-in-Some-clause-puts
returns-in_ok-put_name-in-Some-clause-puts g c =
    let name = c.args.name.now in
    let desk = c.in-Some.desk.now in
    rw (
      c.in-Some.is,
      append_assoc (codes "moved" ++ 32 ∷ name) (32 ∷ codes "to") (32 ∷ desk),
    )
    (puts_after g.W.Sink.stands _ _ _ (codes "moved " ++ name) (codes " to " ++ desk)
    c.put_name-in-Some-2.result c.in_ok-put_name-in-Some.ensures.puts.all
    c.put_name-in-Some-2.ensures.puts)
