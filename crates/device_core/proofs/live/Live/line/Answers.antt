use Rattle.std.proofs.Common.{◌∙◌, sym}
use Rattle.device_core.proofs.{Decisions.last_decision-Some, Outside.{live-kept, live-unkept}, OneLine.{no-line, plain-line}}
use Rattle.device_core.proofs.live.Live.line.Goals as goal

pub returns-then-finishes_call : goal.returns-then-finishes_call
returns-then-finishes_call g c = λ start play stands.
    c.line_of_call.ensures start play stands
    (last_decision-Some start play c.in-Some.step.entry
    (live-kept (rw c.machine.ensures at c.in-Some.is) stands)
    ∙ (sym c.finishes_call.ensures ∙ c.if-finishes_call.true))

pub returns-else-finishes_call : goal.returns-else-finishes_call
returns-else-finishes_call g c = λ start play stands.
    plain-line start play c.in-Some.step.entry c.line_of_record.result
    (live-kept (rw c.machine.ensures at c.in-Some.is) stands)
    (sym c.finishes_call.ensures ∙ c.if-finishes_call.false) c.line_of_record.ensures.byte
    c.line_of_record.ensures.rule c.line_of_record.ensures.report c.line_of_record.ensures.denied

pub returns-in-None : goal.returns-in-None
returns-in-None g c = λ start play stands.
    no-line start play (live-unkept (rw c.machine.ensures at c.in-None.is) stands)
