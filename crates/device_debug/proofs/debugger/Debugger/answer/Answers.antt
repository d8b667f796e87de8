use Rattle.std.{proofs.Common.{◌∙◌, ap}, specs.Prelude.codes}
use Rattle.debug_link.specs.declared.connection.Connection.TheVariants.{Closed}
use Rattle.debug_session.specs.StopReply.{stop_reply}
use Rattle.device_debug.proofs.Answering.{closed-silently, half-given, packet-given, said-so, uninterrupted}
use Rattle.device_debug.proofs.debugger.Debugger.answer.Goals as goal

pub returns-in-Supported-clause-gives : goal.returns-in-Supported-clause-gives
returns-in-Supported-clause-gives g c =
    rw c.in-Supported.is (uninterrupted c.say.ensures.gives)

pub returns-in-LastStop-clause-gives : goal.returns-in-LastStop-clause-gives
returns-in-LastStop-clause-gives g c =
    rw c.in-LastStop.is
    (uninterrupted
    (said-so _ (λ session. stop_reply session.stop)
    (λ session stands. (c.as_slice.ensures ∙ c.reply.ensures.text) ∙ ap stop_reply stands.stop)
    c.say-in-LastStop.ensures.gives))

pub returns-in-Attached-clause-gives : goal.returns-in-Attached-clause-gives
returns-in-Attached-clause-gives g c =
    rw c.in-Attached.is (uninterrupted c.say-in-Attached.ensures.gives)

pub returns-in-Registers-clause-gives : goal.returns-in-Registers-clause-gives
returns-in-Registers-clause-gives g c =
    rw c.in-Registers.is (uninterrupted c.show_registers.ensures.gives)

pub returns-in-Memory-clause-gives : goal.returns-in-Memory-clause-gives
returns-in-Memory-clause-gives g c =
    rw c.in-Memory.is (uninterrupted c.show_memory.ensures.gives)

pub returns-in-Change-clause-gives : goal.returns-in-Change-clause-gives
returns-in-Change-clause-gives g c =
    rw c.in-Change.is (uninterrupted c.change.ensures.gives)

pub returns-in-Actions-clause-gives : goal.returns-in-Actions-clause-gives
returns-in-Actions-clause-gives g c =
    rw c.in-Actions.is (uninterrupted c.say-in-Actions.ensures.gives)

pub returns-in-Go-clause-gives : goal.returns-in-Go-clause-gives
returns-in-Go-clause-gives g c = rw c.in-Go.is c.resume.ensures.gives

pub returns-in-Monitor-clause-gives : goal.returns-in-Monitor-clause-gives
returns-in-Monitor-clause-gives g c =
    rw c.in-Monitor.is (uninterrupted c.monitor.ensures.gives)

pub returns-in_err-put-in-Detach-clause-gives : goal.returns-in_err-put-in-Detach-clause-gives
returns-in_err-put-in-Detach-clause-gives g c =
    rw c.in-Detach.is
    (uninterrupted
    (half-given (codes "OK") Closed c.from_residual.ensures.0
    c.in_err-put-in-Detach.ensures.puts.prefix))

pub returns-in_ok-put-in-Detach-clause-gives : goal.returns-in_ok-put-in-Detach-clause-gives
returns-in_ok-put-in-Detach-clause-gives g c =
    rw c.in-Detach.is
    (uninterrupted
    (packet-given (codes "OK") Closed c.in_ok-put-in-Detach.ensures.puts.all
    c.put.ensures.last))

pub returns-in-Kill-clause-gives : goal.returns-in-Kill-clause-gives
returns-in-Kill-clause-gives g c =
    rw c.in-Kill.is (uninterrupted closed-silently)

pub returns-in-Refused-clause-gives : goal.returns-in-Refused-clause-gives
returns-in-Refused-clause-gives g c =
    rw c.in-Refused.is (uninterrupted c.say-in-Refused.ensures.gives)

pub returns-in-Unknown-clause-gives : goal.returns-in-Unknown-clause-gives
returns-in-Unknown-clause-gives g c =
    rw c.in-Unknown.is (uninterrupted c.say-in-Unknown.ensures.gives)
