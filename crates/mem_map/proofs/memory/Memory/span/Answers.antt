use Rattle.std.proofs.Common.{◌≡◌, ◌+◌, ◌-◌, length, arith, rules}
use Rattle.part_definitions.specs.Memory.{byte_at}
use Rattle.mem_map.proofs.Byte.{take-drop-bytes}
use Rattle.mem_map.proofs.memory.Memory.span.Goals as goal

pub returns-then-is_span-clause-bytes : goal.returns-then-is_span-clause-bytes
returns-then-is_span-clause-bytes c = λ start flags writes stands.
    let whole : length c.args.self.now.bytes.items ≡ 65536 = search rules in
    let piece =
    take-drop-bytes (byte_at start flags writes) c.args.self.now.bytes.items c.args.first
    (c.args.last + 1 - c.args.first)
    (λ place within. stands.bytes place (omega arith)) (omega arith) in
    rw (c.from-then-is_span.ensures, c.from.ensures, c.deref.ensures.value) piece
