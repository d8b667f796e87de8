use Rattle.std.proofs.Common.{ap, refl}
use Rattle.debug_session.specs.{Session.until_of, Stops.Stops}
use Rattle.device_debug.proofs.Answering.{no-until, other-stops}
use Rattle.device_debug.proofs.debugger.Debugger.keep_request.Goals as goal

pub returns-in-Until-clause-keeps : goal.returns-in-Until-clause-keeps
returns-in-Until-clause-keeps g c = λ session stands.
    rw c.in-Until.is
    (other-stops _
    (rw (c.set_until.ensures, c.until_of.ensures)
    (ap (λ (one : Stops). record one { until = until_of c.in-Until.number }) stands.stops)) stands)

pub returns-in_default : goal.returns-in_default
returns-in_default g c =
    record {
      keeps = λ session stands.
          no-until _ c.args.self.now session c.args.request c.in_default.not-Until stands;
      same_run = refl;
    }
