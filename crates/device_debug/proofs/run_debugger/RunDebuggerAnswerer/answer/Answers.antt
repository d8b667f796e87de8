use Rattle.device_debug.proofs.Answering.{replied}
use Rattle.device_debug.proofs.run_debugger.RunDebuggerAnswerer.answer.Goals as goal

pub returns-clause-answers : goal.returns-clause-answers
returns-clause-answers g c =
    replied c.args.self.now _ c.args.body.now
    (rw c.read_command.ensures at c.answer.ensures.gives)
