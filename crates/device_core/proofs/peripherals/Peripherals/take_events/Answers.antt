use Rattle.std.proofs.{Common.arith, lemmas.List.take_more}
use Rattle.device_types.specs.declared.event.Event.TheVariants.{Rx}
use Rattle.device_core.proofs.Turns.{with_all_events-snoc}
use Rattle.device_core.proofs.peripherals.Peripherals.take_events.Goals as goal

pub loop-event-preserved : goal.loop-event-preserved
loop-event-preserved c = λ logs stands.
    rw (
      take_more c.args.events.now c.loop-event.event-index (Rx 0) (omega arith),
      with_all_events-snoc,
    )
    (c.take_event.ensures _ (c.loop-event.invariant logs stands))
