-- The line of a verdict.
use Rattle.std.specs.{Prelude.{ℕ, List, [], ◌∷◌, codes}, Fmt.decimal}
use Rattle.printed_lines.specs.Line.{line_of}
use Rattle.report_verifier.specs.{declared.verdict.Verdict.Verdict, Verdict.verdict_name}
use Rattle.hex.specs.Hex.{encode_lower}

-- the report of this number, from 1, was decided
abbrev pub verdict_line : ℕ → Verdict → List ℕ
verdict_line number decision =
    line_of (codes "verdict") (decimal number ∷ verdict_name decision ∷ [])

-- The line of two lists of bytes that collide.

-- two digits a byte
abbrev pub collision_line : List ℕ → List ℕ → List ℕ
collision_line first second =
    line_of (codes "collision") (encode_lower first ∷ encode_lower second ∷ [])
