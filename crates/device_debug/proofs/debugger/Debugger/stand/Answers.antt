use Rattle.std.proofs.Common.{◌∙◌}
use Rattle.device_debug.proofs.Gone.{stood}
use Rattle.device_debug.proofs.debugger.Debugger.stand.Goals as goal

pub returns-clause-gives : goal.returns-clause-gives
returns-clause-gives g c = λ now session arrived track stops.
    stood _ _ _ _ c.args.self.now c.args.halted c.args.stop now session _ _
    (c.as_slice.ensures ∙ c.reply.ensures.text) arrived track stops c.say.ensures.gives
