use Rattle.std.proofs.Common.{◌≡◌, ◌*◌, ◌++◌, drop, length}
use Rattle.debug_session.specs.Shown.{registers_bytes}
use Rattle.debug_walk.proofs.memory_view.registers_bytes.Given as goal

abbrev pub invariant-loop-register : goal.invariant-loop-register
invariant-loop-register l = record {
  bytes : l.bytes.items ++ registers_bytes (drop l.register-index l.registers)
      ≡ registers_bytes l.registers;
  size : length l.bytes.items ≡ 4 * l.register-index;
}
