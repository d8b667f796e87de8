use Rattle.std.proofs.Common.{◌++◌, None, codes}
use Rattle.outside_edge.proofs.SinkLemmas.{prefix_after, prefix_of_more, puts_after, puts-failed}
use Rattle.trace_files.specs.WaveText.{changes_text}
use Rattle.trace_files.proofs.change.print_dump.Goals as goal

pub returns-in_err-put_all-clause-puts : goal.returns-in_err-put_all-clause-puts
returns-in_err-put_all-clause-puts g c =
    puts-failed g.W.Sink.stands _ _ _ c.from_residual.result c.from_residual.ensures.0
    (prefix_of_more g.W.Sink.stands _ _ (codes "$dumpvars\n")
    (changes_text None c.args.now.now ++ codes "$end\n") c.in_err-put_all.ensures.puts.prefix)

pub returns-in_err-print_changes-clause-puts : goal.returns-in_err-print_changes-clause-puts
returns-in_err-print_changes-clause-puts g c =
    let changes = changes_text None c.args.now.now in
    puts-failed g.W.Sink.stands _ _ _ c.from_residual-in_err-print_changes.result
    c.from_residual-in_err-print_changes.ensures.0
    (prefix_after g.W.Sink.stands _ _ _ (codes "$dumpvars\n") (changes ++ codes "$end\n")
    c.in_ok-put_all.ensures.puts.all
    (prefix_of_more g.W.Sink.stands _ _ changes (codes "$end\n")
    c.in_err-print_changes.ensures.puts.prefix))

pub returns-clause-puts : goal.returns-clause-puts
returns-clause-puts g c =
    let changes = changes_text None c.args.now.now in
    puts_after g.W.Sink.stands _ _ _ (codes "$dumpvars\n") (changes ++ codes "$end\n")
    c.put_all-2.result c.in_ok-put_all.ensures.puts.all
    (puts_after g.W.Sink.stands _ _ _ changes (codes "$end\n") c.put_all-2.result
    c.in_ok-print_changes.ensures.puts.all c.put_all-2.ensures.puts)
