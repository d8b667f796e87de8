use Rattle.std.{proofs.Common.{◌≡◌, ◌≤◌, ◌+◌, ◌-◌, ◌||◌, ℕ}, specs.List.{list_all, list_any}}
use Rattle.part_definitions.specs.Memory.{is_image_place}
use Rattle.msp_asm.specs.{FirstPass.{places_from, is_among}, FirstPassState.occupies}
use Rattle.msp_asm.proofs.space.take_places.Given as goal

abbrev pub invariant-loop-step : goal.invariant-loop-step
invariant-loop-step l = record {
  at : l.next ≡ l.first + l._step;
  most : l.next ≤ 65536;
  placed : list_all is_image_place (places_from l.first l.count)
      ≡ list_all is_image_place (places_from l.next (l.count - l._step));
  overlaps : list_any (occupies l.fn.occupancy) (places_from l.first l.count)
      ≡ (l.overlaps || list_any (occupies l.fn.occupancy) (places_from l.next (l.count - l._step)));
  taken : (place : ℕ)
      → occupies l.occupancy place
      ≡ (is_among l.first l._step place || occupies l.fn.occupancy place);
}
