use Rattle.std.proofs.Common.{sym, subst}
use Rattle.device_trace.specs.Trace.{last_signals, logs_after}
use Rattle.swatt_rom.specs.Rom.{RomStandsFor}
use Rattle.device_core.{specs.Bus.KeepsSignals, proofs.QuietSteps.no-call}
use Rattle.device_core.proofs.machine.Machine.try_clone.Goals as goal

pub returns : goal.returns
returns g c = λ start play stands.
    let logs = logs_after start play in
    let bus = c.in_ok-try_clone.ensures in
    let idle = no-call logs.progress stands.same_stage in
    record {
      same = record {
        same_bus = bus.stands start logs stands.same.same_bus;
        same_progress = record {
          same_processor = stands.same.same_progress.same_processor;
          same_call =
              subst (λ call. RomStandsFor g.D.Digest32.hash c.new.result call) (sym idle)
              c.new.ensures.stands;
        };
        same_decision = stands.same.same_decision;
        same_level = stands.same.same_level;
        same_word = stands.same.same_word;
      };
      same_stage = stands.same_stage;
      same_signals =
          subst (λ last. KeepsSignals last (last_signals start play)) (sym bus.last)
          stands.same_signals;
    }
