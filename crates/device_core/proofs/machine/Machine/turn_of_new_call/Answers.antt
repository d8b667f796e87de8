use Rattle.std.proofs.Common.{◌∙◌, [], sym}
use Rattle.part_definitions.specs.CpuRegister.{sp_of}
use Rattle.device_trace.specs.Progress.{last_registers}
use Rattle.device_core.proofs.Turns.{begun-turn, begun-within, boundary-step, engine-turn}
use Rattle.device_core.proofs.machine.Machine.turn_of_new_call.Goals as goal

pub returns : goal.returns
returns g c = λ start logs stands here irq rom.
    let regs = last_registers logs.progress in
    let parts = rw here at stands.same_progress in
    let begins = sym (boundary-step logs regs here) ∙ rom in
    let call = rw (c.sp.ensures _ parts.same_processor) at c.begin.ensures in
    record {
      same_bus = stands.same_bus;
      same_turn =
          rw (c.of_call.ensures (sp_of regs) [] call, irq)
          (engine-turn g.D.Digest32.hash.digest_of start logs regs [] _ stands.same_word
          (begun-turn start logs regs here begins));
      same_progress = rw (begun-within logs regs here begins)
          (record { same_processor = parts.same_processor; same_call = call });
      same_level = rw (c.of_call.ensures (sp_of regs) [] call) stands.same_level;
      same_word = stands.same_word;
    }
