use Rattle.std.{proofs.Common.append-nil, specs.Prelude.option_copied}
use Rattle.outside_edge.proofs.SinkLemmas.{prefix_of_more, puts_after, puts-failed}
use Rattle.trace_files.{specs.{Wire.{line_wires, other_wires}, WaveText.wires_text}, proofs.Others.{text_in_two, untold_text}}
use Rattle.trace_files.proofs.change.print_changes.Goals as goal

pub returns-in_err-print_wires-clause-puts : goal.returns-in_err-print_wires-clause-puts
returns-in_err-print_wires-clause-puts g c =
    let last = option_copied c.args.last in
    let now = c.args.now.now in
    puts-failed g.W.Sink.stands _ _ _ c.from_residual.result c.from_residual.ensures.0
    (rw (text_in_two last now)
    (prefix_of_more g.W.Sink.stands _ _ (wires_text last now line_wires)
    (wires_text last now other_wires) c.in_err-print_wires.ensures.puts.prefix))

pub returns-then-has_same_others-clause-puts : goal.returns-then-has_same_others-clause-puts
returns-then-has_same_others-clause-puts g c =
    let last = option_copied c.args.last in
    let now = c.args.now.now in
    rw (
      text_in_two last now,
      untold_text last now other_wires
          (c.has_same_others.ensures c.if-has_same_others.true),
      append-nil (wires_text last now line_wires),
    )
    record { all = c.in_ok-print_wires.ensures.puts.all; prefix = tt }

pub returns-else-has_same_others-clause-puts : goal.returns-else-has_same_others-clause-puts
returns-else-has_same_others-clause-puts g c =
    let last = option_copied c.args.last in
    let now = c.args.now.now in
    let others = c.print_wires-else-has_same_others in
    rw (text_in_two last now)
    (puts_after g.W.Sink.stands _ _ _ (wires_text last now line_wires)
    (wires_text last now other_wires) others.result
    c.in_ok-print_wires.ensures.puts.all others.ensures.puts)
