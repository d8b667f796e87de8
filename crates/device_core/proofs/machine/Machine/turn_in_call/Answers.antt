use Rattle.part_definitions.specs.CpuRegister.{sp_of}
use Rattle.device_trace.specs.Progress.{last_registers}
use Rattle.device_core.proofs.Turns.{calling-turn, calling-within, engine-turn, stage-InRom, words_of}
use Rattle.device_core.proofs.machine.Machine.turn_in_call.Goals as goal

pub returns : goal.returns
returns g c = λ start logs stands stage.
    let regs = last_registers logs.progress in
    let words = words_of logs.progress in
    let calls = stage-InRom logs.progress stage in
    let parts = rw calls at stands.same_progress in
    record {
      same_bus = stands.same_bus;
      same_turn =
          rw (
            c.of_call.ensures (sp_of regs) words parts.same_call,
            c.is_interrupted.ensures start logs stands,
          )
          (engine-turn g.D.Digest32.hash.digest_of start logs regs words _ stands.same_word
          (calling-turn start logs regs words calls));
      same_progress = rw (calling-within logs regs words calls) parts;
      same_level =
          rw (c.of_call.ensures (sp_of regs) words parts.same_call) stands.same_level;
      same_word = stands.same_word;
    }
