use Rattle.std.proofs.Common.{arith}
use Rattle.swatt_rom.proofs.Decisions.{little_endian_four}
use Rattle.swatt_rom.proofs.decided.counter_number.Goals as goal

pub returns : goal.returns
returns c = omega (arith, little_endian_four c.args.bytes.now c.requires)
