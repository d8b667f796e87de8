use Rattle.std.proofs.Common.{ap, refl}
use Rattle.debug_walk.specs.Copies.{played_run}
use Rattle.device_debug.proofs.run_debugger.RunDebugger.new.Goals as goal

pub returns : goal.returns
returns g c = (
  refl,
  (
    ap (played_run g.D.Digest32.hash) c.in_ok-debugger.ensures.0,
    c.in_ok-debugger.ensures.1,
  ),
)
