use Rattle.std.proofs.Common.{rules, arith, []}
use Rattle.part_definitions.specs.Memory.{no_flags, byte_at}
use Rattle.mem_map.{specs.Image.power_on_of, proofs.Byte.append-bytes}
use Rattle.mem_map.proofs.memory.Memory.new.Goals as goal

pub loop-place-preserved : goal.loop-place-preserved
loop-place-preserved c = (
  omega (arith, c.in_ok-push.ensures.len),
  rw c.in_ok-push.ensures.items
      (append-bytes
      (byte_at (power_on_of c.args.key.now c.args.image.now) no_flags []) c.loop-place.bytes.items
      c.power_on_byte.result c.loop-place.place
      (search rules) c.loop-place.invariant.1 c.power_on_byte.ensures),
)
