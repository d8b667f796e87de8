use Rattle.std.proofs.{Common.{Ok, Some, ap, arith}, lemmas.List.length-take-le}
use Rattle.debug_session.proofs.Decoded.{read}
use Rattle.debug_session.proofs.request.read_request.Goals as goal

pub returns-in-Ok : goal.returns-in-Ok
returns-in-Ok c =
    read c.args.digits.now c.decode_to_slice.new.out _ (Ok c.in-Ok.field-0)
    (Some c.request_of.result) c.in-Ok.ensures.value (ap Some c.request_of.ensures)
    (length-take-le _ _ (omega (arith, c.requires)))
