-- The grammar of a trace line: what it says, and its first fault.
use Rattle.std.specs.{Prelude.{ℕ, ◌==◌, ◌%◌, Bool, true, List, take, drop, slice_index, if◌then◌else◌, Option, Some, None, Result, Ok, Err, codes, false, [], ◌∷◌, length}, Str.bytes_eq}
use Rattle.word_arith.specs.declared.size.Size.{Size, TheVariants.{Byte, Word}}
use Rattle.device_types.specs.{declared.{access.Access.{Access, TheVariants.{Fetch, Read, Write}}, bounds.Bounds.Bounds, rule.Rule.Rule}, Kind.kind_names, Rule.rule_names}
use Rattle.named_value.specs.Names.{value_named}
use Rattle.text_scan.specs.{declared.{fault_kind.FaultKind.FaultKind, fault_at.FaultAt.FaultAt}, Hexadecimal.{hex_bytes_of, hex_word_of}, Reader.{◌>>=◌, in_line}, Word.{next_word, keyword_of, end_of, words_of}, WordValue.{number_of, place_of, or_word, value_of}, LineFold.text_lines}
use Rattle.trace_files.specs.declared.trace_line.TraceLine.{TraceLine}
use Rattle.text_scan.specs.declared.fault_kind.FaultKind.TheVariants as faults

-- the last number that a step can have in a trace file
abbrev pub LAST_TRACED_STEP : ℕ
LAST_TRACED_STEP = 4294967295

-- a word that has no form is `Word`, whatever is wrong with it
abbrev pub or_no_form : {A : Type 0} → Result A FaultKind → Result A FaultKind
or_no_form (Ok value) = Ok value
or_no_form (Err kind) = Err faults.Word

-- a word access has an even address
abbrev pub is_even_if : Size → ℕ → Bool
is_even_if Byte place = true
is_even_if Word place = place % 2 == 0

abbrev pub at_place : Size → ℕ → Access → Result (Option Access) FaultKind
at_place size place access =
    if is_even_if size place then Ok (Some access) else Err faults.Range

-- `HHHH`: the address of a fetch or a read
unfoldable pub fetch_in : List ℕ → Result (Option Access) FaultKind
fetch_in digits = do
  place ← or_no_form (hex_word_of digits)
  at_place Word place (Fetch place)

unfoldable pub read_in : Size → List ℕ → Result (Option Access) FaultKind
read_in size digits = do
  place ← or_no_form (hex_word_of digits)
  at_place size place (Read place size)

-- the number that a write of this size carries: four digits, or two
abbrev pub number_of_bytes : Result (List ℕ) FaultKind → Result ℕ FaultKind
number_of_bytes (Ok bytes) = Ok (slice_index bytes 0)
number_of_bytes (Err kind) = Err kind

abbrev pub written_in : Size → List ℕ → Result ℕ FaultKind
written_in Word digits = hex_word_of digits
written_in Byte digits = number_of_bytes (hex_bytes_of 1 digits)

abbrev pub sign_in : List ℕ → Result Unit FaultKind
sign_in sign = if bytes_eq sign (codes "=") then Ok tt else Err faults.Word

-- `HHHH=HHHH` or `HHHH=HH`: address and number of a write
unfoldable pub write_in : Size → List ℕ → Result (Option Access) FaultKind
write_in size digits = do
  place ← or_no_form (hex_word_of (take 4 digits))
  sign ← sign_in (take 1 (drop 4 digits))
  number ← or_no_form (written_in size (drop 5 digits))
  at_place size place (Write place size number)

-- the access of a word, by its first letter
abbrev pub access_by : List ℕ → List ℕ → Result (Option Access) FaultKind
access_by letter digits =
    if bytes_eq letter (codes "f") then fetch_in digits
    else if bytes_eq letter (codes "r") then read_in Word digits
    else if bytes_eq letter (codes "b") then read_in Byte digits
    else if bytes_eq letter (codes "w") then write_in Word digits
    else if bytes_eq letter (codes "c") then write_in Byte digits
    else Err faults.Word

abbrev pub access_in : List ℕ → Result (Option Access) FaultKind
access_in word =
    if bytes_eq word (codes "-") then Ok None else access_by (take 1 word) (drop 1 word)

-- the rule that a word names, `-` for none
abbrev pub rule_in : List ℕ → Result (Option Rule) FaultKind
rule_in word =
    if bytes_eq word (codes "-") then Ok None
    else (or_word (value_named rule_names word) >>= (λ rule. Ok (Some rule)))

-- the next word, by what it says
unfoldable pub named_of : {A : Type 0}
    → (List ℕ → Result A FaultKind) → List (List ℕ) → Result (A × List (List ℕ)) FaultKind
named_of value_in words = do
  word ← next_word words
  value ← value_in word.0
  Ok (value, word.1)

-- `0` or `1`
unfoldable pub flag_of : List (List ℕ) → Result (Bool × List (List ℕ)) FaultKind
flag_of words = do
  flag ← number_of 0 1 words
  Ok (flag.0 == 1, flag.1)

-- the bounds: four addresses
unfoldable pub bounds_of : List (List ℕ) → Result (Bounds × List (List ℕ)) FaultKind
bounds_of words = do
  er_min ← place_of words
  er_max ← place_of er_min.1
  or_min ← place_of er_max.1
  or_max ← place_of or_min.1
  Ok (
    record { er_min = er_min.0; er_max = er_max.0; or_min = or_min.0; or_max = or_max.0 },
    or_max.1,
  )

-- what stands after the step's number
unfoldable pub fields_of : List (List ℕ) → Result (TraceLine × List (List ℕ)) FaultKind
fields_of words = do
  kind ← value_of kind_names words
  pc ← place_of kind.1
  cpu ← named_of access_in pc.1
  dma ← named_of access_in cpu.1
  irq ← flag_of dma.1
  asked ← flag_of irq.1
  word ← place_of asked.1
  value ← place_of word.1
  dma_value ← place_of value.1
  bounds ← bounds_of dma_value.1
  exec ← flag_of bounds.1
  rule ← named_of rule_in exec.1
  Ok (
    record {
      kind = kind.0;
      pc = pc.0;
      cpu = cpu.0;
      dma = dma.0;
      irq = irq.0;
      asked = asked.0;
      word = word.0;
      value = value.0;
      dma_value = dma_value.0;
      bounds = bounds.0;
      exec = exec.0;
      rule = rule.0;
    },
    rule.1,
  )

-- the line of this step, where another number is out of order
abbrev pub in_order : ℕ → ℕ → TraceLine → Result TraceLine FaultKind
in_order step said line = if said == step then Ok line else Err faults.Order

unfoldable pub trace_line_of : ℕ → List (List ℕ) → Result TraceLine FaultKind
trace_line_of step words = do
  rest ← keyword_of (codes "t") words
  said ← number_of 0 LAST_TRACED_STEP rest
  fields ← fields_of said.1
  end ← end_of fields.1
  in_order step said.0 fields.0

-- A trace file: the lines of its steps, or its first fault.

abbrev pub is_empty : List ℕ → Bool
is_empty [] = true
is_empty (character ∷ line) = false

-- the lines so far, the newest first, and those after them, or the first fault; the steps are
-- numbered from 0, and empty lines are passed over
unfoldable pub lines_after :
    List TraceLine → List (ℕ × List ℕ) → Result (List TraceLine) FaultAt
lines_after before [] = Ok before
lines_after before (line ∷ lines) =
    if is_empty line.1 then lines_after before lines
    else (do
      entry ← in_line line.0 (trace_line_of (length before) (words_of line.1))
      lines_after (entry ∷ before) lines)

-- the lines of a text, the newest first, or its first fault
abbrev pub trace_of : List ℕ → Result (List TraceLine) FaultAt
trace_of text = lines_after [] (text_lines text)
