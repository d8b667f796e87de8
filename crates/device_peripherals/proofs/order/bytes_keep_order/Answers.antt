-- Bytes keep their order, event by event.
use Rattle.std.proofs.{Common.{List, [], ◌∷◌, arith, refl}, lemmas.Grind.common_steps}
use Rattle.part_definitions.specs.Serial.{SerialEvent, Arrival, Load, Store, DeviceReset}
use Rattle.device_peripherals.specs.Order.{KeepsOrder}
use Rattle.device_peripherals.proofs.order.bytes_keep_order.Goals as goal

keeps_order : (events : List SerialEvent) → KeepsOrder events
keeps_order [] = record { in_order = refl; within = omega arith }
keeps_order (Arrival byte ∷ events) =
    let before : KeepsOrder events = keeps_order events in
    record {
      in_order = grind (arith, common_steps, before.in_order);
      within = grind
          (arith, common_steps, before.within);
    }
keeps_order (Load place size ∷ events) =
    let before : KeepsOrder events = keeps_order events in
    record {
      in_order = grind (arith, common_steps, before.in_order);
      within = grind
          (arith, common_steps, before.within);
    }
keeps_order (Store place size number ∷ events) =
    let before : KeepsOrder events = keeps_order events in
    record { in_order = before.in_order; within = before.within }
keeps_order (DeviceReset ∷ events) = record { in_order = refl; within = omega arith }

pub returns : goal.returns
returns c = keeps_order
