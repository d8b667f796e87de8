use Rattle.std.proofs.Common.{rules}
use Rattle.mem_map.proofs.Byte.{set-exec_byte}
use Rattle.mem_map.proofs.memory.Memory.set_exec.Goals as goal

pub returns : goal.returns
returns c = λ start flags writes stands. record {
  bytes = λ place within.
      rw c.from-2.ensures
      (set-exec_byte start flags c.args.on writes c.args.self.now.bytes.items c.from.result place
      (search rules) (stands.bytes place within) (search rules));
}
