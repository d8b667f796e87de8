use Rattle.std.proofs.Common.{refl, arith}
use Rattle.device_trace.specs.Trace.{Play, logs_after}
use Rattle.device_core.{specs.{Quiet.{IsOpen, IsQuiet}, Silence.with_idle}, proofs.{CalmRuns.region-idle, Idle.{each-more, goes-idle, idle-more}, QuietSteps.quiet-step}}
use Rattle.device_core.proofs.machine.Machine.make_calm_steps_in.Goals as goal

pub loop-made-init : goal.loop-made-init
loop-made-init g c = (
  omega arith,
  c.requires,
  λ start play stands region. (stands, tt, tt, region),
)

pub loop-made-preserved : goal.loop-made-preserved
loop-made-preserved g c = (
  omega arith,
  c.try_calm_step.ensures.last,
  λ start play stands region.
      let made = c.loop-made.made in
      let (here, quiet, ways, calm) = c.loop-made.invariant.2 start play stands region in
      let (goes, after, over, opened) =
      c.try_calm_step.ensures.made c.if-not-try_calm_step.false start _ here.same here.same_stage
      calm in
      let next = goes-idle made play goes in (
        next,
        each-more (IsQuiet (g.Q.Quiet.quiet c.args.quiet.now) start) made play
            (quiet-step start (with_idle made play) _ over
            (rw (idle-more made play) at next.same.same_bus.same_last)
            (rw c.try_calm_step.ensures.last refl))
            quiet,
        each-more
            (λ (before : Play). IsOpen (g.Q.Quiet.quiet c.args.quiet.now) (logs_after start before))
            made play opened ways,
        region-idle g.G.TraceFlag.flag c.args.code start made play after,
      ),
)

pub returns-then-not-try_calm_step-clause-plays : goal.returns-then-not-try_calm_step-clause-plays
returns-then-not-try_calm_step-clause-plays g c = λ start play stands region.
    let (here, quiet, ways, calm) = c.loop-made.invariant.2 start play stands region in
    rw (c.try_calm_step.ensures.unmade c.if-not-try_calm_step.true) here

pub returns-then-not-try_calm_step-clause-quietly :
    goal.returns-then-not-try_calm_step-clause-quietly
returns-then-not-try_calm_step-clause-quietly g c = λ start play stands region.
    let (here, quiet, ways, calm) = c.loop-made.invariant.2 start play stands region in
    (quiet, ways)

pub returns-clause-plays : goal.returns-clause-plays
returns-clause-plays g c = λ start play stands region.
    let (here, quiet, ways, calm) = c.loop-made.invariant.2 start play stands region in here

pub returns-clause-quietly : goal.returns-clause-quietly
returns-clause-quietly g c = λ start play stands region.
    let (here, quiet, ways, calm) = c.loop-made.invariant.2 start play stands region in
    (quiet, ways)
