-- Texts of printed lines, and the reports that are read of them.
use Rattle.std.{proofs.{Common.{◌≡◌, ◌∙◌, ℕ, ◌+◌, ◌<◌, Bool, false, List, [], ◌∷◌, ◌++◌, ◌⊎◌, inl, inr, Option, Some, None, Ok, length, length-append, append_assoc, append-nil, add-zero, refl, ap, sym, arith, rules}, lemmas.Str.{IsUtf8-nil, IsUtf8-append}}, specs.{Prelude.{◌^◌, codes, IsUtf8}, Fmt.{decimal, digits}, Str.Lines.lines}}
use Rattle.device_types.specs.{Report.ReportFields, declared.rule.Rule.Rule, Rule.{rule_name, rule_names}}
use Rattle.printed_lines.specs.Line.{byte_digits, word_digits, flag_digit, with_pieces, line_of, sent_line, reset_line, report_keyword, report_line, denied_line, end_line}
use Rattle.line_buffer.{specs.LineLaw.ArePieces, proofs.PieceLines.{first_line, utf8_line, plain-flag, plain-byte, plain-word}}
use Rattle.text_scan.{specs.{LineFold.{lines_fold, text_fold, numbered_lines}, Word.{words_of, says_nothing, is_passed_over}, WordValue.{number_of, place_of, hex_block_of}}, proofs.{PlainWords.{hex_bytes_of-digits, hex_word_of-digits, one_byte, plain-decimal}, NamedWord.value_of-name, TextUtf8.utf8_of-whole}}
use Rattle.named_value.specs.Names.{value_named, IsPlainWord}
use Rattle.report_verifier.specs.{declared.verdict.Verdict.Verdict, Verdict.{verdict_name, verdict_names}}
use Rattle.report_text.{specs.{ReadBack.{IsPrintable, IsReadBack, IsPassedOver}, ReportFile.{with_report, with_line, reports_of}, ReportLine.{no_report_of, report_line_of}, VerdictLine.verdict_line}, proofs.ReportWords.{report_pieces, word_shown, report_line_of-pieces, count_of-decimal, flag_of-digit, pieces-report}}

-- What a text says, whatever stands before and behind it: these lines, and these reports of them.
pub record ReadsAs (text : List ℕ) (reports : List ReportFields) : Type 0 where
  pub cuts : List (List ℕ)
  pub cut : (rest : List ℕ) → lines (text ++ rest) ≡ cuts ++ lines rest
  pub read : (before : List ReportFields) (number : ℕ) (later : List (List ℕ))
      → lines_fold with_line before (numbered_lines number (cuts ++ later))
      ≡ lines_fold with_line (before ++ reports) (numbered_lines (number + length cuts) later)
  pub utf8 : IsUtf8 text

pub reads-none : ReadsAs [] []
reads-none = record {
  cuts = [];
  cut = λ rest. refl;
  read = λ before number later. rw (append-nil, add-zero) refl;
  utf8 = IsUtf8-nil;
}

read-both : (one two : List ℕ) (first second : List ReportFields)
    (a : ReadsAs one first) (b : ReadsAs two second)
    (before : List ReportFields) (number : ℕ) (later : List (List ℕ))
    → lines_fold with_line before (numbered_lines number ((a.cuts ++ b.cuts) ++ later))
    ≡ lines_fold with_line (before ++ (first ++ second))
    (numbered_lines (number + length (a.cuts ++ b.cuts)) later)
read-both one two first second a b before number later =
    let count : number + length a.cuts + length b.cuts ≡ number + length (a.cuts ++ b.cuts) =
    omega (arith, length-append a.cuts b.cuts) in
    ap (λ (all : List (List ℕ)). lines_fold with_line before (numbered_lines number all))
    (append_assoc a.cuts b.cuts later)
    ∙ a.read before number (b.cuts ++ later)
    ∙ b.read (before ++ first) (number + length a.cuts) later
    ∙ ap (λ (reports : List ReportFields). lines_fold with_line reports
    (numbered_lines (number + length a.cuts + length b.cuts) later))
    (append_assoc before first second)
    ∙ ap (λ (from : ℕ). lines_fold with_line (before ++ (first ++ second))
    (numbered_lines from later)) count

-- one text after another
pub reads-both : (one two : List ℕ) (first second : List ReportFields)
    → ReadsAs one first → ReadsAs two second → ReadsAs (one ++ two) (first ++ second)
reads-both one two first second a b = record {
  cuts = a.cuts ++ b.cuts;
  cut = λ rest. ap lines (append_assoc one two rest) ∙ a.cut (two ++ rest)
      ∙ ap (λ (more : List (List ℕ)). a.cuts ++ more) (b.cut rest)
      ∙ sym (append_assoc a.cuts b.cuts (lines rest));
  read = read-both one two first second a b;
  utf8 = IsUtf8-append one two a.utf8 b.utf8;
}

-- the reports of the whole text
pub reads-whole : (text : List ℕ) (reports : List ReportFields) → ReadsAs text reports
    → reports_of text ≡ Ok reports
unfolding text_fold lines_fold
reads-whole text reports says =
    let all : lines text ≡ says.cuts ++ [] =
    ap lines (sym (append-nil text)) ∙ says.cut [] in
    rw ((utf8_of-whole text).1 says.utf8, all) (says.read [] 1 [])

-- one line

state_after-next : (before next : List ReportFields) (number : ℕ) (line : List ℕ)
    (later : List (ℕ × List ℕ))
    → is_passed_over line ≡ false → with_line before line ≡ Ok next
    → lines_fold with_line before ((number, line) ∷ later) ≡ lines_fold with_line next later
unfolding lines_fold
state_after-next before next number line later says answer = rw says (rw answer refl)

with_line-words : (before next : List ReportFields) (line : List ℕ) (words : List (List ℕ))
    (entry : Option ReportFields)
    → words_of line ≡ words → report_line_of words ≡ Ok entry → with_report before entry ≡ Ok next
    → with_line before line ≡ Ok next
unfolding with_line
with_line-words before next line words entry same is adds = rw (same, is) adds

-- a line of pieces, which has this entry, and with it these reports
pub reads-line : (keyword : List ℕ) (pieces : List (List ℕ)) (entry : Option ReportFields)
    (reports : List ReportFields)
    → ArePieces (keyword ∷ pieces) → says_nothing (keyword ∷ pieces) ≡ false
    → report_line_of (keyword ∷ pieces) ≡ Ok entry
    → ((before : List ReportFields) → with_report before entry ≡ Ok (before ++ reports))
    → ReadsAs (line_of keyword pieces) reports
reads-line keyword pieces entry reports are says has adds =
    let line : List ℕ = with_pieces keyword pieces in
    let words : words_of line ≡ keyword ∷ pieces = (first_line keyword pieces [] are).words in
    record {
      cuts = line ∷ [];
      cut = λ rest. (first_line keyword pieces rest are).line;
      read = λ before number later. state_after-next before (before ++ reports) number line
          (numbered_lines (number + 1) later) (ap says_nothing words ∙ says)
          (with_line-words before (before ++ reports) line _ entry words has (adds before));
      utf8 = utf8_line keyword pieces are;
    }

-- a line that says no report
reads-other : (keyword : List ℕ) (pieces : List (List ℕ))
    → ArePieces (keyword ∷ pieces) → says_nothing (keyword ∷ pieces) ≡ false
    → report_line_of (keyword ∷ pieces) ≡ Ok None
    → ReadsAs (line_of keyword pieces) []
reads-other keyword pieces are says has =
    reads-line keyword pieces None [] are says has
    (λ before. ap (λ (reports : List ReportFields). Ok reports) (sym (append-nil before)))

-- the line of a report

pub reads-report : (report : ReportFields) → IsPrintable report
    → ReadsAs (report_line report) (report ∷ [])
reads-report report printable =
    reads-line (report_keyword report.version) (report_pieces report) (Some report) (report ∷ [])
    (pieces-report report printable) (word_shown report.version (report_pieces report))
    (report_line_of-pieces report printable) (λ before. rw printable.fits refl)

pub read_back : IsReadBack
read_back report printable =
    reads-whole (report_line report) (report ∷ []) (reads-report report printable)

-- the lines of the other sorts

pub reads-sent : (step byte : ℕ) → step < 2 ^ 32 → byte < 256 → ReadsAs (sent_line step byte) []
unfolding report_line_of no_report_of hex_block_of
reads-sent step byte within fits =
    reads-other (codes "tx") (decimal step ∷ byte_digits byte ∷ []) (
      (omega arith, refl),
      (plain-decimal step (omega (arith, within)), (plain-byte byte fits, tt)),
    ) refl
    (rw (
      count_of-decimal step _ (omega (arith, within)),
      hex_bytes_of-digits 1 (byte ∷ []) refl (one_byte byte fits),
    ) refl)

rule_told : (rule : Rule) → value_named rule_names (rule_name rule) ≡ Some rule
rule_told = search rules

plain-rule : (rule : Rule) → IsPlainWord (rule_name rule)
plain-rule = search rules

pub reads-reset : (step : ℕ) (rule : Rule) → step < 2 ^ 32 → ReadsAs (reset_line step rule) []
unfolding report_line_of no_report_of
reads-reset step rule within =
    reads-other (codes "reset") (decimal step ∷ rule_name rule ∷ []) (
      (omega arith, refl),
      (plain-decimal step (omega (arith, within)), (plain-rule rule, tt)),
    ) refl
    (rw (
      count_of-decimal step _ (omega (arith, within)),
      value_of-name rule_names rule [] (rule_told rule),
    ) refl)

number_of-decision : (decision : ℕ) → (decision ≡ 2) ⊎ (decision ≡ 3)
    → number_of 2 3 (decimal decision ∷ []) ≡ Ok (decision, [])
unfolding number_of digits
number_of-decision decision (inl is) = rw is refl
number_of-decision decision (inr is) = rw is refl

plain-decision : (decision : ℕ) → (decision ≡ 2) ⊎ (decision ≡ 3) → IsPlainWord (decimal decision)
plain-decision decision (inl is) = plain-decimal decision (omega (arith, is))
plain-decision decision (inr is) = plain-decimal decision (omega (arith, is))

pub reads-denied : (step decision : ℕ) → step < 2 ^ 32 → (decision ≡ 2) ⊎ (decision ≡ 3)
    → ReadsAs (denied_line step decision) []
unfolding report_line_of no_report_of
reads-denied step decision within denies =
    reads-other (codes "denied") (decimal step ∷ decimal decision ∷ []) (
      (omega arith, refl),
      (plain-decimal step (omega (arith, within)), (plain-decision decision denies, tt)),
    ) refl
    (rw (
      count_of-decimal step _ (omega (arith, within)),
      number_of-decision decision denies,
    ) refl)

pub verdict_told :
    (verdict : Verdict) → value_named verdict_names (verdict_name verdict) ≡ Some verdict
verdict_told = search rules

pub plain-verdict : (verdict : Verdict) → IsPlainWord (verdict_name verdict)
plain-verdict = search rules

reads-verdict : (number : ℕ) (verdict : Verdict) → number < 2 ^ 32
    → ReadsAs (verdict_line number verdict) []
unfolding report_line_of no_report_of
reads-verdict number verdict within =
    reads-other (codes "verdict") (decimal number ∷ verdict_name verdict ∷ []) (
      (omega arith, refl),
      (plain-decimal number (omega (arith, within)), (plain-verdict verdict, tt)),
    ) refl
    (rw (
      count_of-decimal number _ (omega (arith, within)),
      value_of-name verdict_names verdict [] (verdict_told verdict),
    ) refl)

pub passed_over : IsPassedOver
passed_over number verdict within =
    reads-whole (verdict_line number verdict) [] (reads-verdict number verdict within)

pub reads-end : (steps pc : ℕ) (exec : Bool) → steps < 2 ^ 32 → pc < 2 ^ 16
    → ReadsAs (end_line steps pc exec) []
unfolding report_line_of no_report_of place_of
reads-end steps pc exec within fits =
    let flag : ArePieces (codes "exec" ∷ flag_digit exec ∷ []) =
    ((omega arith, refl), (plain-flag exec, tt)) in
    let place : ArePieces (codes "pc" ∷ word_digits pc ∷ codes "exec" ∷ flag_digit exec ∷ []) =
    ((omega arith, refl), (plain-word pc fits, flag)) in
    reads-other (codes "end")
    (decimal steps ∷ codes "pc" ∷ word_digits pc ∷ codes "exec" ∷ flag_digit exec ∷ [])
    ((omega arith, refl), (plain-decimal steps (omega (arith, within)), place)) refl
    (rw (
      count_of-decimal steps _ (omega (arith, within)),
      hex_word_of-digits pc fits,
      flag_of-digit (codes "exec") exec [],
    ) refl)
