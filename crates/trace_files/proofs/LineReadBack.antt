-- The text of a line is read as that line.
use Rattle.std.{proofs.{Common.{◌≡◌, ◌∙◌, ℕ, ◌%◌, ◌^◌, ◌<◌, Bool, true, false, List, [], ◌∷◌, ◌++◌, Option, Some, None, IfSome, Ok, drop, refl, ap, arith, rules, suc, ◌+◌, ◌≤◌, length, append-nil, append_assoc, sym, ◌↔◌}, lemmas.{Bool.{and_from, eq-eqb}, List.Folds.list_all-append, Slice.Eq.bytes_eq-Decides}}, specs.{Prelude.{◌==◌, codes, if◌then◌else◌}, Fmt.decimal, List.list_all, Str.Lines.lines}}
use Rattle.hex.specs.Hex.{encode_with}
use Rattle.word_arith.specs.declared.size.Size.TheVariants.{Byte, Word}
use Rattle.device_types.specs.{declared.{access.Access.{Access, TheVariants.{Fetch, Read, Write}}, bounds.Bounds.Bounds, kind.Kind.Kind, rule.Rule.Rule}, Kind.{kind_name, kind_names}, Bounds.AreWords}
use Rattle.printed_lines.specs.Line.{byte_digits, word_digits, flag_digit}
use Rattle.line_buffer.{specs.LineLaw.ArePieces, proofs.PieceLines.{first_line, plain-flag, plain-byte, plain-word}}
use Rattle.text_scan.{specs.{WordValue.{number_of, place_of, value_of}, LineFold.numbered_lines}, proofs.{NamedWord.value_of-name, PlainWords.{one_byte, decimal_of-decimal, hex_bytes_of-digits, hex_word_of-digits, plain-decimal}}}
use Rattle.named_value.specs.Names.{value_named, IsPlainWord, is_plain}
use Rattle.trace_files.specs.{declared.{trace_line.TraceLine.TraceLine, offence.Offence.{Offence, TheVariants.{RuleIs, ExecIs}}}, LineText.{access_word, rule_word, line_pieces, trace_line, file_text}, LineGrammar.{LAST_TRACED_STEP, fetch_in, read_in, write_in, access_in, rule_in, named_of, flag_of, bounds_of, fields_of, trace_line_of, lines_after, trace_of}, LineReadBack.{IsAllowed, IsPrintable, LinesReadBack, ArePrintable, FilesReadBack}, Clean.{right_rule, right_exec, IsRight, IsClean}, Offence.{is_same_rule, is_same_flag, offence_of, or_first, first_offence, CleanHasNoOffence}}

-- the value of each word

number_of-decimal : (step : ℕ) (rest : List (List ℕ)) → step < 2 ^ 32
    → number_of 0 LAST_TRACED_STEP (decimal step ∷ rest) ≡ Ok (step, rest)
unfolding number_of
number_of-decimal step rest small =
    rw (decimal_of-decimal 4294967295 step (omega (arith, small)) (omega arith)) refl

place_of-digits : (place : ℕ) (rest : List (List ℕ)) → place < 2 ^ 16
    → place_of (word_digits place ∷ rest) ≡ Ok (place, rest)
unfolding place_of
place_of-digits place rest small = rw (hex_word_of-digits place small) refl

flag_of-digit : (flag : Bool) (rest : List (List ℕ))
    → flag_of (flag_digit flag ∷ rest) ≡ Ok (flag, rest)
unfolding flag_of number_of
flag_of-digit true rest = refl
flag_of-digit false rest = refl

kind_told : (kind : Kind) → value_named kind_names (kind_name kind) ≡ Some kind
kind_told = search rules

kind_of-name : (kind : Kind) (rest : List (List ℕ))
    → value_of kind_names (kind_name kind ∷ rest) ≡ Ok (kind, rest)
kind_of-name kind rest = value_of-name kind_names kind rest (kind_told kind)

pub rule_in-word : (rule : Option Rule) → rule_in (rule_word rule) ≡ Ok rule
rule_in-word = search rules

rule_of-word : (rule : Option Rule) (rest : List (List ℕ))
    → named_of rule_in (rule_word rule ∷ rest) ≡ Ok (rule, rest)
unfolding named_of
rule_of-word rule rest = rw (rule_in-word rule) refl

even-test : (place : ℕ) → place % 2 ≡ 0 → (place % 2 == 0) ≡ true
even-test place even = eq-eqb (place % 2) 0 even

access_in-word : (access : Option Access) → IfSome access IsAllowed
    → access_in (access_word access) ≡ Ok access
unfolding encode_with fetch_in read_in write_in
access_in-word None allowed = refl
access_in-word (Some (Fetch place)) allowed =
    rw (hex_word_of-digits place allowed.words, even-test place allowed.formed) refl
access_in-word (Some (Read place Byte)) allowed =
    rw (hex_word_of-digits place allowed.words) refl
access_in-word (Some (Read place Word)) allowed =
    rw (hex_word_of-digits place allowed.words, even-test place allowed.formed) refl
access_in-word (Some (Write place Byte number)) allowed =
    rw (
      hex_word_of-digits place allowed.words.0,
      hex_bytes_of-digits 1 (number ∷ []) refl (one_byte number allowed.formed),
    ) refl
access_in-word (Some (Write place Word number)) allowed =
    rw (
      hex_word_of-digits place allowed.words.0,
      hex_word_of-digits number allowed.words.1,
      even-test place allowed.formed,
    ) refl

access_of-word : (access : Option Access) (rest : List (List ℕ)) → IfSome access IsAllowed
    → named_of access_in (access_word access ∷ rest) ≡ Ok (access, rest)
unfolding named_of
access_of-word access rest allowed = rw (access_in-word access allowed) refl

bounds_of-digits : (bounds : Bounds) (rest : List (List ℕ)) → AreWords bounds
    → bounds_of
    (word_digits bounds.er_min ∷ word_digits bounds.er_max
    ∷ word_digits bounds.or_min ∷ word_digits bounds.or_max ∷ rest)
    ≡ Ok (bounds, rest)
unfolding bounds_of
bounds_of-digits bounds rest words =
    rw (
      place_of-digits bounds.er_min _ words.er_min,
      place_of-digits bounds.er_max _ words.er_max,
      place_of-digits bounds.or_min _ words.or_min,
      place_of-digits bounds.or_max rest words.or_max,
    ) refl

trace_line_of-pieces : (step : ℕ) (line : TraceLine) → step < 2 ^ 32 → IsPrintable line
    → trace_line_of step (codes "t" ∷ line_pieces step line) ≡ Ok line
unfolding trace_line_of fields_of
trace_line_of-pieces step line small printable =
    rw (
      number_of-decimal step _ small,
      kind_of-name line.kind _,
      place_of-digits line.pc _ printable.pc,
      access_of-word line.cpu _ printable.cpu,
      access_of-word line.dma _ printable.dma,
      flag_of-digit line.irq _,
      flag_of-digit line.asked _,
      place_of-digits line.word _ printable.word,
      place_of-digits line.value _ printable.value,
      place_of-digits line.dma_value _ printable.dma_value,
      bounds_of-digits line.bounds _ printable.bounds,
      flag_of-digit line.exec _,
      rule_of-word line.rule [],
      eq-eqb step step refl,
    ) refl

-- the pieces are words of printed characters

plain-kind : (kind : Kind) → IsPlainWord (kind_name kind)
plain-kind = search rules

plain-rule : (rule : Option Rule) → IsPlainWord (rule_word rule)
plain-rule = search rules

-- a letter before digits, and a sign between two numbers
plain-pair : (place number : List ℕ) → IsPlainWord place → IsPlainWord number
    → list_all is_plain (place ++ 61 ∷ number) ≡ true
plain-pair place number left right =
    list_all-append is_plain place (61 ∷ number)
    ∙ and_from (list_all is_plain place) (list_all is_plain (61 ∷ number)) left.1 right.1

plain-access : (access : Option Access) → IfSome access IsAllowed
    → IsPlainWord (access_word access)
unfolding encode_with
plain-access None allowed = (omega arith, refl)
plain-access (Some (Fetch place)) allowed =
    (omega arith, (plain-word place allowed.words).1)
plain-access (Some (Read place Byte)) allowed =
    (omega arith, (plain-word place allowed.words).1)
plain-access (Some (Read place Word)) allowed =
    (omega arith, (plain-word place allowed.words).1)
plain-access (Some (Write place Byte number)) allowed = (
  omega arith,
  plain-pair (word_digits place) (byte_digits number) (plain-word place allowed.words.0)
      (plain-byte number allowed.formed),
)
plain-access (Some (Write place Word number)) allowed = (
  omega arith,
  plain-pair (word_digits place) (word_digits number) (plain-word place allowed.words.0)
      (plain-word number allowed.words.1),
)

bounds-pieces : (bounds : Bounds) (later : List (List ℕ)) → AreWords bounds → ArePieces later
    → ArePieces
    (word_digits bounds.er_min ∷ word_digits bounds.er_max
    ∷ word_digits bounds.or_min ∷ word_digits bounds.or_max ∷ later)
bounds-pieces bounds later words are =
    let last = plain-word bounds.or_max words.or_max in (
      plain-word bounds.er_min words.er_min,
      (
        plain-word bounds.er_max words.er_max,
        (plain-word bounds.or_min words.or_min, (last, are)),
      ),
    )

pub pieces-line : (step : ℕ) (line : TraceLine) → step < 2 ^ 32 → IsPrintable line
    → ArePieces (codes "t" ∷ line_pieces step line)
pieces-line step line small printable =
    let last : List (List ℕ) = flag_digit line.exec ∷ rule_word line.rule ∷ [] in
    let end : ArePieces last = (plain-flag line.exec, (plain-rule line.rule, tt)) in
    let values : ArePieces (drop 7 (line_pieces step line)) = (
      plain-word line.word printable.word,
      (
        plain-word line.value printable.value,
        (
          plain-word line.dma_value printable.dma_value,
          bounds-pieces line.bounds last printable.bounds end,
        ),
      ),
    ) in
    let asked : ArePieces (drop 5 (line_pieces step line)) =
    (plain-flag line.irq, (plain-flag line.asked, values)) in
    let proposed : ArePieces (drop 3 (line_pieces step line)) =
    (plain-access line.cpu printable.cpu, (plain-access line.dma printable.dma, asked)) in
    let head : ArePieces (drop 1 (line_pieces step line)) =
    (plain-kind line.kind, (plain-word line.pc printable.pc, proposed)) in
    ((omega arith, refl), (plain-decimal step (omega (arith, small)), head))

pub line_reads_back : LinesReadBack
line_reads_back step line small printable =
    let are = pieces-line step line small printable in
    ap (trace_line_of step) (first_line (codes "t") (line_pieces step line) [] are).words
    ∙ trace_line_of-pieces step line small printable

-- The text of a trace file is read as its lines.

-- lines in order, from this step on
text_from : ℕ → List TraceLine → List ℕ
text_from step [] = []
text_from step (line ∷ later) = trace_line step line ++ text_from (suc step) later

-- in front of lines that are the newest first, lines in order
onto : List TraceLine → List TraceLine → List TraceLine
onto [] before = before
onto (line ∷ later) before = onto later (line ∷ before)

read_from : (number : ℕ) (later before : List TraceLine)
    → ArePrintable later → length before + length later ≤ 2 ^ 32
    → lines_after before (numbered_lines number (lines (text_from (length before) later)))
    ≡ Ok (onto later before)
unfolding text_from onto lines_after
read_from number [] before printable few = refl
read_from number (line ∷ later) before printable few =
    let small : length before < 2 ^ 32 = omega (arith, few) in
    rw (
      (first_line (codes "t") (line_pieces (length before) line)
          (text_from (suc (length before)) later)
          (pieces-line (length before) line small printable.0)).line,
      line_reads_back (length before) line small printable.0,
    ) (read_from (number + 1) later (line ∷ before) printable.1 (omega (arith, few)))

file_text-onto : (later before : List TraceLine)
    → file_text (onto later before) ≡ file_text before ++ text_from (length before) later
unfolding onto text_from
file_text-onto [] before = sym (append-nil (file_text before))
file_text-onto (line ∷ later) before =
    file_text-onto later (line ∷ before)
    ∙ append_assoc (file_text before) (trace_line (length before) line)
    (text_from (suc (length before)) later)

onto-onto : (later before tail : List TraceLine)
    → onto (onto later before) tail ≡ onto before (later ++ tail)
unfolding onto
onto-onto [] before tail = refl
onto-onto (line ∷ later) before tail = onto-onto later (line ∷ before) tail

printable-onto : (later before : List TraceLine)
    → ArePrintable later → ArePrintable before → ArePrintable (onto later before)
unfolding onto
printable-onto [] before left right = right
printable-onto (line ∷ later) before left right =
    printable-onto later (line ∷ before) left.1 (left.0, right)

length-onto : (later before : List TraceLine)
    → length (onto later before) ≡ length later + length before
unfolding onto
length-onto [] before = omega arith
length-onto (line ∷ later) before = omega (arith, length-onto later (line ∷ before))

pub file_reads_back : FilesReadBack
unfolding onto
file_reads_back lines printable few =
    let later : List TraceLine = onto lines [] in
    let twice : onto later [] ≡ lines = onto-onto lines [] [] ∙ append-nil lines in
    ap (λ (ls : List TraceLine). trace_of (file_text ls)) (sym twice)
    ∙ (ap (λ (text : List ℕ). trace_of text) (file_text-onto later [])
    ∙ (read_from 1 later [] (printable-onto lines [] printable tt)
    (omega (arith, few, length-onto lines []))
    ∙ ap Ok twice))

-- A list of lines has no offence exactly where it is clean.

same_rule : (left right : Option Rule) → is_same_rule left right ≡ true → left ≡ right
same_rule left right same =
    let words : rule_word left ≡ rule_word right =
    (bytes_eq-Decides (rule_word left) (rule_word right)).0 same in
    let both : Ok left ≡ Ok right =
    sym (rule_in-word left) ∙ (ap rule_in words ∙ rule_in-word right) in
    cc

rule_same : (rule : Option Rule) → is_same_rule rule rule ≡ true
rule_same rule = (bytes_eq-Decides (rule_word rule) (rule_word rule)).1 refl

flag_same : (flag : Bool) → is_same_flag flag flag ≡ true
flag_same true = refl
flag_same false = refl

same_flag : (left right : Bool) → is_same_flag left right ≡ true → left ≡ right
same_flag true true same = refl
same_flag true false same = absurd (cc)
same_flag false true same = absurd (cc)
same_flag false false same = refl

-- of the two tests
no_difference : (rules flags : Bool) (rule : Option Rule) (exec : Bool)
    → (if rules then (if flags then None else Some (ExecIs exec)) else Some (RuleIs rule)) ≡ None
    → (rules ≡ true) × (flags ≡ true)
no_difference true true rule exec none = (refl, refl)
no_difference true false rule exec none = absurd (cc)
no_difference false flags rule exec none = absurd (cc)

right_iff : (before : List TraceLine) (line : TraceLine)
    → (offence_of before line ≡ None) ↔ IsRight before line
right_iff before line = (
  λ (none : offence_of before line ≡ None).
      let both = no_difference (is_same_rule line.rule (right_rule before line))
      (is_same_flag line.exec (right_exec (line ∷ before))) (right_rule before line)
      (right_exec (line ∷ before)) none in
      record {
        rule = same_rule line.rule (right_rule before line) both.0;
        exec = same_flag line.exec (right_exec (line ∷ before)) both.1;
      },
  λ (right : IsRight before line).
      rw (
        ap (λ (rule : Option Rule). is_same_rule line.rule rule) (sym right.rule)
            ∙ rule_same line.rule,
        ap (λ (exec : Bool). is_same_flag line.exec exec) (sym right.exec) ∙ flag_same line.exec,
      ) refl,
)

none_first : (first : Option (ℕ × Offence)) (step : ℕ) (offence : Option Offence)
    → or_first first step offence ≡ None → (first ≡ None) × (offence ≡ None)
none_first None step None none = (refl, refl)
none_first None step (Some offence) none = absurd (cc)
none_first (Some first) step offence none = absurd (cc)

pub clean_iff : CleanHasNoOffence
unfolding first_offence
clean_iff [] = (λ none. tt, λ clean. refl)
clean_iff (line ∷ before) = (
  λ (none : or_first (first_offence before) (length before) (offence_of before line) ≡ None).
      let both = none_first (first_offence before) (length before) (offence_of before line) none in
      ((right_iff before line).0 both.1, (clean_iff before).0 both.0),
  λ (clean : IsRight before line × IsClean before).
      ap (λ (first : Option (ℕ × Offence)). or_first first (length before)
      (offence_of before line)) ((clean_iff before).1 clean.1)
      ∙ ap (or_first None (length before)) ((right_iff before line).1 clean.0),
)
