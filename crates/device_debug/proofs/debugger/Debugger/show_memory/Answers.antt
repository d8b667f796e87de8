use Rattle.std.proofs.Common.{sym}
use Rattle.hex.specs.Hex.{encode_lower}
use Rattle.device_debug.proofs.{Answering.{half-given, packet-given}, Showing.{memory-said, nothing-shown, secret-refused}}
use Rattle.device_debug.proofs.debugger.Debugger.show_memory.Goals as goal

pub returns-in_err-put_digits-clause-gives : goal.returns-in_err-put_digits-clause-gives
returns-in_err-put_digits-clause-gives g c =
    memory-said c.args.first c.args.size c.if-size-eq0.false (sym c.if-is_shown.ensures)
    c.deref.ensures.0 c.in_ok-current_walk.ensures.halted c.shown_bytes.ensures
    (half-given (encode_lower c.deref.result.now) _ c.from_residual-in_err-put_digits.ensures.0
    c.in_err-put_digits.ensures.puts.prefix)

pub returns-then-size-eq0-clause-gives : goal.returns-then-size-eq0-clause-gives
returns-then-size-eq0-clause-gives g c =
    nothing-shown c.args.first c.args.size c.if-size-eq0.true c.say.ensures.gives

pub returns-in_ok-put_digits-clause-gives : goal.returns-in_ok-put_digits-clause-gives
returns-in_ok-put_digits-clause-gives g c =
    memory-said c.args.first c.args.size c.if-size-eq0.false (sym c.if-is_shown.ensures)
    c.deref.ensures.0 c.in_ok-current_walk.ensures.halted c.shown_bytes.ensures
    (packet-given (encode_lower c.deref.result.now) _ c.in_ok-put_digits.ensures.puts.all
    c.put_digits.ensures.last)

pub returns-else-is_shown-clause-gives : goal.returns-else-is_shown-clause-gives
returns-else-is_shown-clause-gives g c =
    secret-refused c.args.first c.args.size c.if-size-eq0.false (sym c.if-is_shown.ensures)
    c.say-else-is_shown.ensures.gives
