use Rattle.std.proofs.Common.{◌≡◌, ◌++◌, drop, flat_map}
use Rattle.msp_asm.specs.Statement.{word_bytes}
use Rattle.msp_asm.proofs.statement_bytes.push_instruction.Given as goal

abbrev pub invariant-loop-i : goal.invariant-loop-i
invariant-loop-i l =
    l.fn.bytes.items ++ flat_map word_bytes l.words
    ≡ l.bytes.items ++ flat_map word_bytes (drop l.i l.words)
