use Rattle.std.proofs.Common.{◌∙◌, refl, sym, ap}
use Rattle.part_definitions.specs.CpuRegister.{allows_interrupts}
use Rattle.device_core.proofs.Turns.{registers-of}
use Rattle.device_core.proofs.machine.Machine.vector.Goals as goal

pub returns-then-allows_interrupts : goal.returns-then-allows_interrupts
returns-then-allows_interrupts g c = λ start logs stands.
    let allowed =
    sym c.if-allows_interrupts.true
    ∙ (c.allows_interrupts.ensures _ stands.same_progress.same_processor
    ∙ ap allows_interrupts (registers-of logs.progress)) in
    c.first_vector.ensures logs.peripherals stands.same_bus.same_peripherals
    ∙ rw (← allowed) refl

pub returns-else-allows_interrupts : goal.returns-else-allows_interrupts
returns-else-allows_interrupts g c = λ start logs stands.
    let allowed =
    sym c.if-allows_interrupts.false
    ∙ (c.allows_interrupts.ensures _ stands.same_progress.same_processor
    ∙ ap allows_interrupts (registers-of logs.progress)) in
    rw (← allowed) refl
