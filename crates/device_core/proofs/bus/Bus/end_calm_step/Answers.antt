use Rattle.std.proofs.Common.{◌≡◌, ◌∷◌, None, false, sym}
use Rattle.device_types.specs.ExecFlag.{SeenRecord}
use Rattle.mem_map.specs.Memory.{MemoryStandsFor}
use Rattle.device_trace.specs.{Logs.{flags_of, flags_shown, logged_bounds, memory_after, with_record}, Progress.last_registers, Signals.{signals_of, value_read}, Step.dma_value_read}
use Rattle.device_core.proofs.{CalmRegion.{calm_entry, calm-entry, calm-flags, calm-leaves, turn-access, turn-pc}, CalmStep.{calm-peripherals, calm-silent}}
use Rattle.device_core.proofs.bus.Bus.end_calm_step.Goals as goal

pub returns-clause-stands : goal.returns-clause-stands
unfolding with_record
returns-clause-stands g c = λ start logs regs code value stands turn region reads legal.
    let flag = g.G.TraceFlag.flag in
    let now = signals_of start logs false in
    let entry = calm_entry flag code start logs value region reads legal in
    let seen : SeenRecord = record { entry = entry; bounds = logged_bounds start logs } in
    let kept : flags_shown start (seen ∷ logs.records) ≡ flags_shown start logs.records =
    calm-flags flag code start logs value region reads legal stands.same_flag in
    let memory : MemoryStandsFor c.exchange.new.memory start.power
    (flags_shown start (seen ∷ logs.records))
    (memory_after None now.cpu now.dma logs.memory) =
    rw (kept, reads.calm.alone)
    (rw (turn-access start logs regs c.args.turn.now turn) at
    (c.exchange.ensures.memory start.power (flags_of start logs) logs.memory
    stands.same_memory)) in
    rw (calm-entry flag code start logs value region reads legal)
    (record {
      same_memory = memory;
      same_peripherals =
          rw (calm-peripherals code logs now (last_registers logs.progress)
          (value_read start logs now.cpu) (dma_value_read start logs now) region.above
          reads.calm)
          (record {
            same_timer =
                c.tick.ensures logs.peripherals.timer stands.same_peripherals.same_timer;
            same_serial = stands.same_peripherals.same_serial;
            same_dma = stands.same_peripherals.same_dma;
            same_pins = stands.same_peripherals.same_pins;
          });
      same_monitors =
          c.pass.ensures seen logs.records stands.same_monitors
          (calm-leaves flag code start logs value region reads legal)
          (sym (turn-pc start logs regs c.args.turn.now turn));
      same_flag = stands.same_flag;
      same_last =
          rw c.requires (
            calm-silent code now (last_registers logs.progress) (value_read start logs now.cpu)
                (dma_value_read start logs now) reads.calm,
            kept,
          );
    })
