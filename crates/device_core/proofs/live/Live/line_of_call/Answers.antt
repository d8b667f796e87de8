use Rattle.std.proofs.Common.{◌≡◌, ◌∙◌, ◌-◌, length, Some, ap, sym}
use Rattle.part_definitions.specs.Request.{ATTESTS}
use Rattle.device_trace.specs.{Text.last_decision, Trace.logs_after}
use Rattle.device_core.proofs.{Decisions.decision-some, OneLine.{denial-line, report-line}}
use Rattle.device_core.proofs.live.Live.line_of_call.Goals as goal

pub returns-then-machine-eq-ATTESTS : goal.returns-then-machine-eq-ATTESTS
returns-then-machine-eq-ATTESTS g c = λ start play stands some.
    let decided : last_decision start play ≡ Some ATTESTS =
    sym (decision-some _ (last_decision start play) stands.same.same.same_decision some)
    ∙ ap Some (rw c.machine-machine.ensures at c.if-machine-eq-ATTESTS.true) in
    let step : c.saturating_sub-step.result ≡ length play - 1 =
    c.saturating_sub-step.ensures ∙ ap (λ n. n - 1) (c.steps.ensures.stands start play stands) in
    report-line start play c.report_of.result decided
    (rw step at
    (c.report_of.ensures start (logs_after start play) (c.memory.ensures start play stands)
    (c.exec.ensures start play stands)))

pub returns-else-machine-eq-ATTESTS : goal.returns-else-machine-eq-ATTESTS
returns-else-machine-eq-ATTESTS g c = λ start play stands some.
    denial-line start play c.machine-machine.result.now.decision
    (sym (rw c.machine-machine.ensures
    (decision-some _ (last_decision start play) stands.same.same.same_decision some)))
    c.if-machine-eq-ATTESTS.false
