use Rattle.std.proofs.Common.{◌≡◌, ◌∷◌, None, refl}
use Rattle.device_types.specs.ExecFlag.{SeenRecord}
use Rattle.mem_map.specs.Memory.{MemoryStandsFor}
use Rattle.device_trace.specs.Logs.{flags_of, flags_shown, logged_bounds, memory_after, with_record}
use Rattle.device_core.proofs.FlagsShown.{flags-kept}
use Rattle.device_core.proofs.bus.Bus.perform_alone.Goals as goal

pub returns-clause-stands : goal.returns-clause-stands
unfolding with_record
returns-clause-stands g c = λ start logs line keeps stands value same_dma same_acceptance.
    let flag = g.G.TraceFlag.flag in
    let entry = c.make-entry.ensures.value start logs stands value in
    let leaves = keeps.leaves c.make-entry.result c.make-entry.ensures.entry in
    let now : SeenRecord =
    record { entry = c.make-entry.result; bounds = logged_bounds start logs } in
    let kept : flags_shown start (now ∷ logs.records) ≡ flags_shown start logs.records =
    flags-kept flag start now logs.records stands.same_flag keeps.shown leaves in
    let memory : MemoryStandsFor c.make-entry.new.self.memory start.power
    (flags_shown start (now ∷ logs.records))
    (memory_after None c.args.now.now.cpu c.args.now.now.dma logs.memory) =
    rw kept
    (c.make-entry.ensures.memory start.power (flags_of start logs) logs.memory
    stands.same_memory) in
    record {
      same_memory = rw entry at memory;
      same_peripherals =
          rw entry at
          (c.finish_step.ensures logs c.make-entry.ensures.entry.unrefused
          (rw c.make-entry.ensures.entry.same_kind same_acceptance)
          (rw c.make-entry.ensures.peripherals stands.same_peripherals));
      same_monitors =
          rw entry at
          (c.pass.ensures now logs.records
          (rw c.make-entry.ensures.monitors stands.same_monitors) leaves refl);
      same_flag = stands.same_flag;
      same_last = rw c.keep_none.ensures (line, rw entry at kept);
    }
