use Rattle.std.proofs.Common.{◌++◌, ◌∙◌, [], append-nil, subst, sym}
use Rattle.printed_lines.specs.Line.{sent_line, reset_line}
use Rattle.outside_edge.specs.Sink.{Puts}
use Rattle.device_play.proofs.line_watcher.print_step_line.Goals as goal

pub returns-in-Sent-clause-puts : goal.returns-in-Sent-clause-puts
returns-in-Sent-clause-puts g c =
    let line = sent_line c.args.step c.in-Sent.byte in
    rw c.in-Sent.is
    (subst (λ text. Puts g.W.Sink.stands c.args.sink.now c.print_sent.new.sink text
    c.print_sent.result)
    (sym (append-nil ((line ++ []) ++ []) ∙ (append-nil (line ++ []) ∙ append-nil line)))
    c.print_sent.ensures.puts)

pub returns-in-Reset-clause-puts : goal.returns-in-Reset-clause-puts
returns-in-Reset-clause-puts g c =
    let line = reset_line c.args.step c.in-Reset.rule in
    rw c.in-Reset.is
    (subst (λ text. Puts g.W.Sink.stands c.args.sink.now c.print_reset.new.sink text
    c.print_reset.result)
    (sym (append-nil (line ++ []) ∙ append-nil line)) c.print_reset.ensures.puts)
