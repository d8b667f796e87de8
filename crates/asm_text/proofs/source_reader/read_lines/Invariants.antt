use Rattle.std.{proofs.Common.◌≡◌, specs.Prelude.map}
use Rattle.text_scan.specs.LineFold.{text_lines}
use Rattle.asm_text.{specs.{Operand.all_of, Source.statement_of}, proofs.Behind.behind}
use Rattle.asm_text.proofs.source_reader.read_lines.Given as goal

abbrev pub invariant-loop-number : goal.invariant-loop-number
invariant-loop-number l =
    all_of (map statement_of (text_lines l.fn.text))
    ≡ behind l.source (all_of (map statement_of l.number-iterator))
