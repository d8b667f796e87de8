use Rattle.std.proofs.Common.{refl}
use Rattle.device_trace.specs.{Logs.with_events, Step.next_record, Trace.logs_after}
use Rattle.device_core.proofs.machine.Machine.step.Goals as goal

pub returns-clause-stands : goal.returns-clause-stands
unfolding logs_after next_record with_events
returns-clause-stands g c = λ start play stands.
    let logs = logs_after start play in
    let bus = c.take_events-script_reset.ensures.stands start logs stands.same.same_bus in
    rw c.take_events-script_reset.ensures.reset at
    (c.step_after_events.ensures.stands start (with_events logs c.args.events.now)
    (record {
      same_bus = bus;
      same_progress = stands.same.same_progress;
      same_decision = stands.same.same_decision;
      same_level = stands.same.same_level;
      same_word = stands.same.same_word;
    })
    stands.same_stage)

pub returns-clause-kept : goal.returns-clause-kept
returns-clause-kept g c = c.step_after_events.ensures.each (λ cpu dma. refl)
