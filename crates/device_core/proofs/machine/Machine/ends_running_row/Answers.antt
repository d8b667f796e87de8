use Rattle.std.proofs.Common.{◌∙◌, inl, inr, sym}
use Rattle.device_core.proofs.{CalmRuns.within-open, QuietSteps.even-fetch}
use Rattle.device_core.proofs.machine.Machine.ends_running_row.Goals as goal

pub returns-then-not-at_boundary : goal.returns-then-not-at_boundary
returns-then-not-at_boundary g c = λ start logs stands stage on.
    within-open (g.Q.Quiet.quiet c.args.quiet.now) logs
    (sym (c.at_boundary.ensures _ stands.same_progress.same_processor)
    ∙ c.if-not-at_boundary.true)

pub returns-then-is_quiet : goal.returns-then-is_quiet
returns-then-is_quiet g c = λ start logs stands stage on regs runs.
    inr (rw (even-fetch regs _
    (c.opcode_fetch.ensures.value regs (rw runs at stands.same_progress.same_processor)))
    (sym c.is_quiet.ensures ∙ c.if-is_quiet.true))

pub returns-in-Some : goal.returns-in-Some
returns-in-Some g c = λ start logs stands stage on regs runs.
    inl (c.in-Some.ensures start logs stands stage).idle
