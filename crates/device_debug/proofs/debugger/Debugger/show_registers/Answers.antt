use Rattle.hex.specs.Hex.{encode_lower}
use Rattle.device_debug.proofs.{Answering.{half-given, packet-given}, Showing.registers-said}
use Rattle.device_debug.proofs.debugger.Debugger.show_registers.Goals as goal

pub returns-in_err-put_digits-clause-gives : goal.returns-in_err-put_digits-clause-gives
returns-in_err-put_digits-clause-gives g c =
    registers-said c.deref.ensures.0 c.in_ok-current_walk.ensures.halted c.shown_registers.ensures
    (half-given (encode_lower c.deref.result.now) _ c.from_residual-in_err-put_digits.ensures.0
    c.in_err-put_digits.ensures.puts.prefix)

pub returns-clause-gives : goal.returns-clause-gives
returns-clause-gives g c =
    registers-said c.deref.ensures.0 c.in_ok-current_walk.ensures.halted c.shown_registers.ensures
    (packet-given (encode_lower c.deref.result.now) _ c.in_ok-put_digits.ensures.puts.all
    c.put_digits.ensures.last)
