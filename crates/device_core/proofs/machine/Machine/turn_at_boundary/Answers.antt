use Rattle.std.proofs.Common.{◌∙◌, is_some, sym, ap}
use Rattle.device_trace.specs.Progress.{last_registers, boundary_kind}
use Rattle.device_core.proofs.Turns.{boundary-step, not_rom}
use Rattle.device_core.proofs.machine.Machine.turn_at_boundary.Goals as goal

pub returns-in-Rom : goal.returns-in-Rom
returns-in-Rom g c = λ start logs stands here.
    let regs = last_registers logs.progress in
    let vector = c.vector-vector.ensures start logs stands in
    let kind = c.boundary_kind-kind.ensures _ (rw here at stands.same_progress.same_processor)
    ∙ (ap (boundary_kind regs) vector ∙ sym (boundary-step logs regs here)) in
    c.turn_of_new_call.ensures start logs stands here
    (c.is_some.ensures ∙ ap is_some vector) (sym kind ∙ c.in-Rom.is)

pub returns-in-Boot : goal.returns-in-Boot
returns-in-Boot g c = λ start logs stands here.
    let regs = last_registers logs.progress in
    let vector = c.vector-vector.ensures start logs stands in
    let kind = c.boundary_kind-kind.ensures _ (rw here at stands.same_progress.same_processor)
    ∙ (ap (boundary_kind regs) vector ∙ sym (boundary-step logs regs here)) in
    c.turn_from_boundary.ensures start logs stands here vector kind (not_rom _ c.in-Boot.is)
