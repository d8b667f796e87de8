use Rattle.std.proofs.Common.{◌∙◌, ap, sym}
use Rattle.device_trace.specs.Progress.{boundary_kind, last_registers}
use Rattle.device_core.proofs.Turns.{boundary-step, stage-Boundary}
use Rattle.device_core.proofs.machine.Machine.idle_pc.Goals as goal

pub returns-in-Idle : goal.returns-in-Idle
returns-in-Idle g c = λ start logs stands stage.
    let here = stage-Boundary logs.progress stage
    (sym c.if-not-at_boundary.false
    ∙ c.at_boundary.ensures _ stands.same_progress.same_processor) in
    let regs = last_registers logs.progress in
    let processor = rw here at stands.same_progress.same_processor in
    record {
      at_boundary = here;
      same_pc = c.pc.ensures _ processor;
      idle =
          boundary-step logs regs here
          ∙ ap (boundary_kind regs) (sym (c.vector.ensures start logs stands))
          ∙ sym (c.in-Idle.ensures _ processor);
    }
