use Rattle.std.proofs.Common.{◌≡◌, ◌∷◌, length, take}
use Rattle.hex_loader.proofs.record_line.data_record.Given as goal

abbrev pub invariant-loop-byte : goal.invariant-loop-byte
invariant-loop-byte l = l.record.items ≡ length l.bytes ∷ l.high ∷ l.low ∷ 0 ∷ take l.byte-index
    l.bytes
