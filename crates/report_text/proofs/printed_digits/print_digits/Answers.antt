use Rattle.hex.specs.Hex.{encode_lower}
use Rattle.outside_edge.proofs.SinkLemmas.{prefix_of_more, puts_after, puts-failed}
use Rattle.report_text.proofs.printed_digits.print_digits.Goals as goal

pub returns-in_err-put_all-clause-puts : goal.returns-in_err-put_all-clause-puts
returns-in_err-put_all-clause-puts g c =
    puts-failed g.W.Sink.stands _ _ _ c.from_residual.result c.from_residual.ensures.0
    (prefix_of_more g.W.Sink.stands _ _ c.args.text.now (encode_lower c.args.bytes.now)
    c.in_err-put_all.ensures.puts.prefix)

pub returns-clause-puts : goal.returns-clause-puts
returns-clause-puts g c =
    puts_after g.W.Sink.stands _ _ _ c.args.text.now (encode_lower c.args.bytes.now)
    c.print_hex.result c.in_ok-put_all.ensures.puts.all c.print_hex.ensures.puts
