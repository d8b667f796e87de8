use Rattle.std.proofs.Common.{List}
use Rattle.part_definitions.specs.Dma.{DmaEvent}
use Rattle.device_peripherals.specs.Dma.{DmaStandsFor}
use Rattle.part_tests.proofs.dma.transfers_by_their_starts.Given as goal

-- the engine is as some events left it
abbrev pub invariant-loop-act : goal.invariant-loop-act
invariant-loop-act g l = (events : List DmaEvent) × DmaStandsFor l.dma events
