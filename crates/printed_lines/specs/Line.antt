-- The printed lines. A line is a keyword and pieces, and ends with LF. A piece is a word: a name, a
-- number in decimal, a word as four digits, a byte as two, bytes as two digits each, or a flag.
use Rattle.std.specs.{Prelude.{◌/◌, ◌%◌, ◌++◌, ℕ, Bool, true, false, List, [], ◌∷◌, Option, Some, None, codes}, Fmt.decimal}
use Rattle.hex.specs.Hex.{encode_lower}
use Rattle.device_types.specs.{declared.{rule.Rule.Rule, version.Version.{Version, TheVariants.{One, Two}}}, Report.ReportFields, Address.{Bytes, Address}, Rule.rule_name}

-- a word as four digits, a byte as two
abbrev pub word_digits : ℕ → Bytes
word_digits word = encode_lower (word / 256 ∷ word % 256 ∷ [])

abbrev pub byte_digits : ℕ → Bytes
byte_digits byte = encode_lower (byte ∷ [])

abbrev pub flag_digit : Bool → Bytes
flag_digit true = codes "1"
flag_digit false = codes "0"

-- a text and pieces behind it, each behind a space (32)
abbrev pub with_pieces : Bytes → List Bytes → Bytes
with_pieces text [] = text
with_pieces text (piece ∷ later) = with_pieces (text ++ 32 ∷ piece) later

abbrev pub line_of : Bytes → List Bytes → Bytes
line_of keyword pieces = with_pieces keyword pieces ++ codes "\n"

-- in this step a byte was sent
abbrev pub sent_line : ℕ → ℕ → Bytes
sent_line step byte = line_of (codes "tx") (decimal step ∷ byte_digits byte ∷ [])

-- this step broke a rule
abbrev pub reset_line : ℕ → Rule → Bytes
reset_line step rule = line_of (codes "reset") (decimal step ∷ rule_name rule ∷ [])

-- this step finished a call that attests: the keyword, and from version 2 on what is new in it
abbrev pub report_keyword : Version → Bytes
report_keyword One = codes "report"
report_keyword Two = codes "report2"

abbrev pub version_pieces : Version → Bool → ℕ → List Bytes
version_pieces One aux count = []
version_pieces Two aux count = codes "aux" ∷ flag_digit aux ∷ codes "count" ∷ decimal count ∷ []

-- all before the output, and the output, `-` where the bounds are invalid
abbrev pub report_head : ReportFields → List Bytes
report_head report =
    decimal report.step ∷ codes "exec" ∷ flag_digit report.exec
    ∷ version_pieces report.version report.aux report.count
    ++ codes "chal" ∷ encode_lower report.chal
    ∷ codes "er" ∷ word_digits report.bounds.er_min ∷ word_digits report.bounds.er_max
    ∷ codes "or" ∷ word_digits report.bounds.or_min ∷ word_digits report.bounds.or_max
    ∷ codes "data" ∷ []

abbrev pub output_piece : Option Bytes → Bytes
output_piece None = codes "-"
output_piece (Some bytes) = encode_lower bytes

abbrev pub report_line : ReportFields → Bytes
report_line report =
    line_of (report_keyword report.version)
    (report_head report ++ output_piece report.output ∷ codes "mac" ∷ encode_lower report.mac ∷ [])

-- this step finished a call that does not attest, with this decision
abbrev pub denied_line : ℕ → ℕ → Bytes
denied_line step decision = line_of (codes "denied") (decimal step ∷ decimal decision ∷ [])

-- after so many steps, by this keyword: the pc that the next step would have, and the EXEC flag
abbrev pub place_line : Bytes → ℕ → Address → Bool → Bytes
place_line keyword steps pc exec =
    line_of keyword
    (decimal steps ∷ codes "pc" ∷ word_digits pc ∷ codes "exec" ∷ flag_digit exec ∷ [])

abbrev pub end_line : ℕ → Address → Bool → Bytes
end_line = place_line (codes "end")
