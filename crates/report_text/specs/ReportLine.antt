-- The lines of a report file: what each says, and its first fault.
use Rattle.std.specs.{Prelude.{false, ℕ, ◌==◌, Bool, List, [], ◌∷◌, if◌then◌else◌, Option, Some, None, Result, Ok, Err, codes}, Str.bytes_eq}
use Rattle.device_types.specs.{declared.{bounds.Bounds.Bounds, version.Version.{Version, TheVariants.{One, Two}}}, Bounds.bounds_with, Report.ReportFields, Rule.rule_names}
use Rattle.text_scan.specs.{declared.fault_kind.FaultKind.{FaultKind, TheVariants.Word}, WordValue.{ends_of, number_of, place_of, hex_block_of, value_of}, Hexadecimal.even_bytes_of, Reader.◌>>=◌, Word.{next_word, keyword_of, end_of}}
use Rattle.report_verifier.specs.Verdict.{verdict_names}
use Rattle.report_text.specs.declared.field.Field.{Field}
use Rattle.report_text.specs.declared.field.Field.TheVariants as fields

-- a number of a step, of steps, of a report or of a request
abbrev pub count_of : List (List ℕ) → Result (ℕ × List (List ℕ)) FaultKind
count_of words = number_of 0 4294967295 words

-- a keyword and 0 or 1
unfoldable pub flag_of : List ℕ → List (List ℕ) → Result (Bool × List (List ℕ)) FaultKind
flag_of keyword words = do
  rest ← keyword_of keyword words
  flag ← number_of 0 1 rest
  Ok (flag.0 == 1, flag.1)

-- `exec E`
abbrev pub exec_of : List (List ℕ) → Result (Bool × List (List ℕ)) FaultKind
exec_of words = flag_of (codes "exec") words

-- `aux A count N`, in version 2 alone; in version 1 they count as 0
unfoldable pub request_of :
    Version → List (List ℕ) → Result ((Bool × ℕ) × List (List ℕ)) FaultKind
request_of One words = Ok ((false, 0), words)
request_of Two words = do
  aux ← flag_of (codes "aux") words
  rest ← keyword_of (codes "count") aux.1
  count ← count_of rest
  Ok ((aux.0, count.0), count.1)

-- a keyword and H64
unfoldable pub digest_of : List ℕ → List (List ℕ) → Result (List ℕ × List (List ℕ)) FaultKind
digest_of keyword words = do
  rest ← keyword_of keyword words
  hex_block_of 32 rest

-- `er H4 H4 or H4 H4`
unfoldable pub bounds_of : List (List ℕ) → Result (Bounds × List (List ℕ)) FaultKind
bounds_of words = do
  behind_er ← keyword_of (codes "er") words
  executable ← ends_of behind_er
  behind_or ← keyword_of (codes "or") executable.1
  output ← ends_of behind_or
  Ok (bounds_with executable.0.0 executable.0.1 output.0.0 output.0.1, output.1)

-- the bytes of an output, `-` for none
abbrev pub output_in : List ℕ → Result (Option (List ℕ)) FaultKind
output_in word =
    if bytes_eq word (codes "-") then Ok None
    else (even_bytes_of word >>= (λ bytes. Ok (Some bytes)))

-- `data D`
unfoldable pub output_of : List (List ℕ) → Result (Option (List ℕ) × List (List ℕ)) FaultKind
output_of words = do
  rest ← keyword_of (codes "data") words
  word ← next_word rest
  output ← output_in word.0
  Ok (output, word.1)

-- `S exec E chal H64 er H4 H4 or H4 H4 data D mac H64`, with a request's words before `chal`
unfoldable pub report_of :
    Version → List (List ℕ) → Result (ReportFields × List (List ℕ)) FaultKind
report_of version words = do
  step ← count_of words
  exec ← exec_of step.1
  request ← request_of version exec.1
  chal ← digest_of (codes "chal") request.1
  bounds ← bounds_of chal.1
  output ← output_of bounds.1
  mac ← digest_of (codes "mac") output.1
  Ok (
    record {
      version = version;
      step = step.0;
      exec = exec.0;
      aux = request.0.0;
      count = request.0.1;
      chal = chal.0;
      bounds = bounds.0;
      output = output.0;
      mac = mac.0;
    },
    mac.1,
  )

-- the bytes of one word
unfoldable pub bytes_of : List (List ℕ) → Result (List ℕ × List (List ℕ)) FaultKind
bytes_of words = do
  word ← next_word words
  bytes ← even_bytes_of word.0
  Ok (bytes, word.1)

-- a field is passed over in its form
abbrev pub field_skipped : {A : Type 0} → Result (A × List (List ℕ)) FaultKind
    → Result (Unit × List (List ℕ)) FaultKind
field_skipped answer = answer >>= (λ read. Ok (tt, read.1))

-- the decision of a denial, another than to attest, is 2 or 3
abbrev pub field_of : Field → List (List ℕ) → Result (Unit × List (List ℕ)) FaultKind
field_of fields.Count words = field_skipped (count_of words)
field_of fields.Byte words = field_skipped (hex_block_of 1 words)
field_of fields.Rule words = field_skipped (value_of rule_names words)
field_of fields.Denial words = field_skipped (number_of 2 3 words)
field_of fields.Verdict words = field_skipped (value_of verdict_names words)
field_of fields.Bytes words = field_skipped (bytes_of words)
field_of fields.Pc words = keyword_of (codes "pc") words >>= (λ rest. field_skipped (place_of rest))
field_of fields.Exec words = field_skipped (exec_of words)

abbrev pub fields_of : List Field → List (List ℕ) → Result (Unit × List (List ℕ)) FaultKind
fields_of [] words = Ok (tt, words)
fields_of (field ∷ later) words = field_of field words >>= (λ read. fields_of later read.1)

-- the lines that are passed over: what stands behind their keywords
abbrev pub fields_by : List ℕ → Result (List Field) FaultKind
fields_by keyword =
    if bytes_eq keyword (codes "tx") then Ok (fields.Count ∷ fields.Byte ∷ [])
    else if bytes_eq keyword (codes "reset") then Ok (fields.Count ∷ fields.Rule ∷ [])
    else if bytes_eq keyword (codes "denied") then Ok (fields.Count ∷ fields.Denial ∷ [])
    else if bytes_eq keyword (codes "verdict") then Ok (fields.Count ∷ fields.Verdict ∷ [])
    else if bytes_eq keyword (codes "collision") then Ok (fields.Bytes ∷ fields.Bytes ∷ [])
    else if bytes_eq keyword (codes "end") then Ok (fields.Count ∷ fields.Pc ∷ fields.Exec ∷ [])
    else Err Word

abbrev pub other_line_of : List ℕ → List (List ℕ) → Result (Unit × List (List ℕ)) FaultKind
other_line_of keyword words = fields_by keyword >>= (λ behind. fields_of behind words)

unfoldable pub some_report_of :
    Version → List (List ℕ) → Result (Option ReportFields × List (List ℕ)) FaultKind
some_report_of version words = do
  report ← report_of version words
  Ok (Some report.0, report.1)

unfoldable pub no_report_of :
    List ℕ → List (List ℕ) → Result (Option ReportFields × List (List ℕ)) FaultKind
no_report_of keyword words = do
  later ← other_line_of keyword words
  Ok (None, later.1)

abbrev pub report_by_keyword :
    List ℕ → List (List ℕ) → Result (Option ReportFields × List (List ℕ)) FaultKind
report_by_keyword keyword words =
    if bytes_eq keyword (codes "report") then some_report_of One words
    else if bytes_eq keyword (codes "report2") then some_report_of Two words
    else no_report_of keyword words

-- the report of a line, none where the line is of another kind
unfoldable pub report_line_of : List (List ℕ) → Result (Option ReportFields) FaultKind
report_line_of words = do
  keyword ← next_word words
  report ← report_by_keyword keyword.0 keyword.1
  end ← end_of report.1
  Ok report.0
