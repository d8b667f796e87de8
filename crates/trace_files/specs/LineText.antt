-- The text of a trace line: `t S K P C D I X W V U B1 B2 B3 B4 E R`.
use Rattle.std.specs.{Prelude.{◌++◌, ℕ, List, [], ◌∷◌, length, Option, Some, None, codes}, Fmt.decimal}
use Rattle.word_arith.specs.declared.size.Size.TheVariants.{Byte, Word}
use Rattle.device_types.specs.{declared.{access.Access.{Access, TheVariants.{Fetch, Read, Write}}, rule.Rule.Rule}, Kind.kind_name, Rule.rule_name}
use Rattle.printed_lines.specs.Line.{byte_digits, word_digits, flag_digit, line_of}
use Rattle.trace_files.specs.declared.trace_line.TraceLine.{TraceLine}

-- a fetch, a read of a word and of a byte, a write of a word and of a byte; `-` for none
abbrev pub access_word : Option Access → List ℕ
access_word None = codes "-"
access_word (Some (Fetch place)) = codes "f" ++ word_digits place
access_word (Some (Read place Word)) = codes "r" ++ word_digits place
access_word (Some (Read place Byte)) = codes "b" ++ word_digits place
access_word (Some (Write place Word number)) =
    codes "w" ++ word_digits place ++ codes "=" ++ word_digits number
access_word (Some (Write place Byte number)) =
    codes "c" ++ word_digits place ++ codes "=" ++ byte_digits number

-- the rule's name, `-` for none
abbrev pub rule_word : Option Rule → List ℕ
rule_word None = codes "-"
rule_word (Some rule) = rule_name rule

-- step, kind, `pc`, what was proposed, what was read, the bounds before, and EXEC and the rule
-- after
abbrev pub line_pieces : ℕ → TraceLine → List (List ℕ)
line_pieces step line =
    decimal step ∷ kind_name line.kind ∷ word_digits line.pc
    ∷ access_word line.cpu ∷ access_word line.dma ∷ flag_digit line.irq ∷ flag_digit line.asked
    ∷ word_digits line.word ∷ word_digits line.value ∷ word_digits line.dma_value
    ∷ word_digits line.bounds.er_min ∷ word_digits line.bounds.er_max
    ∷ word_digits line.bounds.or_min ∷ word_digits line.bounds.or_max
    ∷ flag_digit line.exec ∷ rule_word line.rule ∷ []

abbrev pub trace_line : ℕ → TraceLine → List ℕ
trace_line step line = line_of (codes "t") (line_pieces step line)

-- of lines, the newest first: their text in the order of the steps, which are numbered from 0
abbrev pub file_text : List TraceLine → List ℕ
file_text [] = []
file_text (line ∷ before) = file_text before ++ trace_line (length before) line
