use Rattle.std.proofs.Common.{◌≡◌, ◌+◌, ◌*◌, ◌++◌, length, drop, codes}
use Rattle.hex.specs.Hex.{encode_upper}
use Rattle.hex_loader.proofs.record_line.hex_line.Given as goal

abbrev pub invariant-loop-byte : goal.invariant-loop-byte
invariant-loop-byte l =
    (length l.line.items ≡ 1 + 2 * l.byte-index)
    × (l.line.items ++ encode_upper (drop l.byte-index l.bytes) ≡ codes ":" ++ encode_upper l.bytes)
