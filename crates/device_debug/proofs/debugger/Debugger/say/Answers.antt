use Rattle.device_debug.proofs.Answering.{half-given, packet-given}
use Rattle.device_debug.proofs.debugger.Debugger.say.Goals as goal

pub returns-in_err-put-clause-gives : goal.returns-in_err-put-clause-gives
returns-in_err-put-clause-gives g c =
    half-given c.args.body.now _ c.from_residual.ensures.0 c.in_err-put.ensures.puts.prefix

pub returns-clause-gives : goal.returns-clause-gives
returns-clause-gives g c =
    packet-given c.args.body.now _ c.in_ok-put.ensures.puts.all c.put.ensures.last
