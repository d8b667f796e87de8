use Rattle.std.proofs.Common.{ap}
use Rattle.part_definitions.specs.CpuRegister.{pc_of}
use Rattle.debug_walk.proofs.Views.{registers-at}
use Rattle.debug_walk.proofs.walk.Walk.pc.Goals as goal

pub returns : goal.returns
returns g c = λ run walks.
    ap pc_of (registers-at run walks c.registers.result.now c.registers.ensures)
