use Rattle.std.proofs.Common.{◌≡◌, ◌+◌, ◌*◌, codes, drop, length, map}
use Rattle.printed_lines.specs.Line.{with_pieces, word_digits}
use Rattle.device_live.proofs.state_lines.print_words.Given as goal

abbrev pub invariant-loop-register : goal.invariant-loop-register
invariant-loop-register g l = record {
  text : with_pieces l.line (map word_digits (drop l.register-index l.registers))
      ≡ with_pieces (codes "registers") (map word_digits l.registers);
  size : length l.line ≡ 9 + 5 * l.register-index;
}
