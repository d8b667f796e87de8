-- Rows of the table.
use Rattle.std.{proofs.{Common.{lt→ltb, ◌≡◌, ◌<◌, ℕ, suc, ◌+◌, pos, List, [], ◌∷◌, ◌++◌, length, Option, Some, None, true, refl, sym, ap, ◌∙◌, ◌⊎◌, inl, inr, arith, ◌^◌, ◌≤◌, Result, Ok, Err, rules}, lemmas.Bool.{and_parts, cases_Bool, ltb-true}}, specs.{Prelude.{◌==◌, ◌&&◌}, declared.cmp.Ordering.TheVariants.{Less, Equal}, Cmp.int_cmp_is, Fmt.decimal}}
use Rattle.sqlite_value.{specs.{declared.value.Value.TheVariants.Int, Order.{Row, value_cmp, column}}, proofs.OrderLemmas.value_cmp-Int}
use Rattle.sqlite_trees.specs.Tree.{Trees, put_row}
use Rattle.desk_memory.specs.{declared.answer.Answer.{Answer, TheVariants.{Stale, Bad, Spent, Requested, Judged}}, Entry.{Entry, is_replaced, with_entry, place_for, are_sized, is_short, is_short_answer, is_short_line, is_short_number, is_sized}, AnswerReader.{answer_of, answer_with, most_number, answer_text, answer_words}}
use Rattle.desk_database.specs.{TableOpening.HasNoEntries, Rows.{line_values, number_value, row_of, rows_from, text_value}, Table.{FindsEntries, IsMemoryOf}}
use Rattle.named_value.specs.Names.{value_named, IsPlainWord}
use Rattle.text_scan.{specs.{declared.fault_kind.FaultKind.FaultKind, FaultName.{fault_name, fault_names}, Word.words_of, WordValue.number_of}, proofs.{NamedWord.value_of-name, PlainWords.{ArePlain, decimal_of-decimal, plain-decimal, words_of-join}}}
use Rattle.line_buffer.specs.LineLaw.{ArePieces}
use Rattle.report_text.proofs.ReadLines.{plain-verdict, verdict_told}
use Rattle.report_verifier.specs.Verdict.{verdict_names}

-- The words of an answer, and what they are read as.

pub short : (number : ℕ) → is_short number ≡ true → number ≤ 4294967295
short number is = let below = ltb-true number (2 ^ 32) is in omega (arith, below)

pub count-read : (number : ℕ) (rest : List (List ℕ)) → is_short number ≡ true
    → number_of 0 most_number (decimal number ∷ rest) ≡ Ok (number, rest)
unfolding number_of
count-read number rest is =
    rw (decimal_of-decimal 4294967295 number (short number is) (omega arith)) refl

kind-told : (kind : FaultKind) → value_named fault_names (fault_name kind) ≡ Some kind
kind-told = search rules

pub answer-read : (answer : Answer) → is_short_answer answer ≡ true
    → answer_of (answer_words answer) ≡ Ok (answer, [])
unfolding answer_of answer_with
answer-read Stale few = refl
answer-read (Bad kind) few = rw (value_of-name fault_names kind [] (kind-told kind)) refl
answer-read Spent few = refl
answer-read (Requested count) few = rw (count-read count [] few) refl
answer-read (Judged verdict) few =
    rw (value_of-name verdict_names verdict [] (verdict_told verdict)) refl

-- the words are plain

pub short-plain : (number : ℕ) → is_short number ≡ true → IsPlainWord (decimal number)
short-plain number is =
    let most = short number is in plain-decimal number (omega (arith, most))

kind-plain : (kind : FaultKind) → IsPlainWord (fault_name kind)
kind-plain = search rules

answer-plain : (answer : Answer) → is_short_answer answer ≡ true
    → ArePlain (answer_words answer)
answer-plain Stale is = ((omega arith, refl), tt)
answer-plain (Bad kind) is = ((omega arith, refl), (kind-plain kind, tt))
answer-plain Spent is = ((omega arith, refl), tt)
answer-plain (Requested count) is = ((omega arith, refl), (short-plain count is, tt))
answer-plain (Judged verdict) is = ((omega arith, refl), (plain-verdict verdict, tt))

pub answer-are : (answer : Answer) → is_short_answer answer ≡ true
    → ArePieces (answer_words answer)
answer-are Stale is = answer-plain Stale is
answer-are (Bad kind) is = answer-plain (Bad kind) is
answer-are Spent is = answer-plain Spent is
answer-are (Requested count) is = answer-plain (Requested count) is
answer-are (Judged verdict) is = answer-plain (Judged verdict) is

-- so the text is read back, and is that of no other answer

answer_text_read : (text : List ℕ) (answer : Answer) → is_short_answer answer ≡ true
    → text ≡ answer_text answer → answer_of (words_of text) ≡ Ok (answer, [])
answer_text_read text answer few is =
    ap (λ (one : List ℕ). answer_of (words_of one)) is
    ∙ ap answer_of (words_of-join (answer_words answer) (answer-plain answer few))
    ∙ answer-read answer few

abbrev answer_in : Answer → Result (Answer × List (List ℕ)) FaultKind → Answer
answer_in other (Ok read) = read.0
answer_in other (Err kind) = other

pub answer_told : (text : List ℕ) (found answer : Answer) (rest : List (List ℕ))
    → answer_of (words_of text) ≡ Ok (found, rest) → is_short_answer answer ≡ true
    → text ≡ answer_text answer → Some found ≡ Some answer
answer_told text found answer rest reads few is =
    ap (λ read. Some (answer_in answer read)) (sym reads ∙ answer_text_read text answer few is)

pub answer_untold : (text : List ℕ) (kind : FaultKind) (answer : Answer)
    → answer_of (words_of text) ≡ Err kind → is_short_answer answer ≡ true
    → text ≡ answer_text answer → None ≡ Some answer
answer_untold text kind answer fails few is =
    let reads = sym fails ∙ answer_text_read text answer few is in absurd (cc reads)

pub answer_text-injective : (a b : Answer) → is_short_answer a ≡ true → is_short_answer b ≡ true
    → answer_text a ≡ answer_text b → a ≡ b
answer_text-injective a b few_a few_b same =
    ap (answer_in a)
    (sym (answer_text_read (answer_text a) a few_a refl)
    ∙ answer_text_read (answer_text a) b few_b same)

-- a row that is put at its entry's place

before : (p q : ℕ) → p < q → value_cmp (Int (pos p)) (Int (pos q)) ≡ Less
before p q less =
    value_cmp-Int (pos p) (pos q)
    ∙ sym (int_cmp_is (pos p) (pos q) Less (omega (arith, less, lt→ltb)))

same : (p : ℕ) → value_cmp (Int (pos p)) (Int (pos p)) ≡ Equal
same p = value_cmp-Int (pos p) (pos p) ∙ sym (int_cmp_is (pos p) (pos p) Equal refl)

put_at : (p q : ℕ) (entries : List Entry) (new : Entry) → q ≡ p + place_for entries new
    → put_row (row_of q new) (rows_from p entries) ≡ rows_from p (with_entry entries new)
put_at p q [] new here = ap (λ n. row_of n new ∷ []) (omega (arith, here))
put_at p q (entry ∷ later) new here = elim (cases_Bool (is_replaced entry later new)) [
  | inl is ↦
      let place : q ≡ p = omega (arith, rw is at here) in
      rw (is, place, same p) refl
  | inr other ↦
      let known : q ≡ p + 1 + place_for later new = omega (arith, rw other at here) in
      let deeper = put_at (p + 1) q later new known in
      rw (other, before p q (omega (arith, known))) (ap (λ rows. row_of p entry ∷ rows) deeper)
]

pub put_row-row_of : (entries : List Entry) (new : Entry)
    → put_row (row_of (place_for entries new) new) (rows_from 0 entries)
    ≡ rows_from 0 (with_entry entries new)
put_row-row_of entries new = put_at 0 (place_for entries new) entries new (omega arith)

-- a table is that of one list of entries

number_value-injective : (m n : Option ℕ) → number_value m ≡ number_value n → m ≡ n
number_value-injective None None e = refl
number_value-injective None (Some n) e = absurd cc
number_value-injective (Some m) None e = absurd cc
number_value-injective (Some m) (Some n) e = cc

text_value-injective : (m n : Option (List ℕ)) → text_value m ≡ text_value n → m ≡ n
text_value-injective None None e = refl
text_value-injective None (Some n) e = absurd cc
text_value-injective (Some m) None e = absurd cc
text_value-injective (Some m) (Some n) e = cc

line_values-injective : (x y : Option (ℕ × Answer)) → is_short_line x ≡ true
    → is_short_line y ≡ true → line_values x ≡ line_values y → x ≡ y
line_values-injective None None few_x few_y e = refl
line_values-injective None (Some y) few_x few_y e = absurd cc
line_values-injective (Some x) None few_x few_y e = absurd cc
line_values-injective (Some x) (Some y) few_x few_y e =
    let short_x = and_parts (is_short x.0) (is_short_answer x.1) few_x in
    let short_y = and_parts (is_short y.0) (is_short_answer y.1) few_y in
    let number : x.0 ≡ y.0 = cc in
    let answer : x.1 ≡ y.1 = answer_text-injective x.1 y.1 short_x.1 short_y.1 cc in
    λ i. Some (number i, answer i)

last_is_short : (entry : Entry) → is_sized entry ≡ true → is_short_line entry.state.last ≡ true
last_is_short entry sized =
    let first = length entry.mark == 16 && is_short entry.state.count
    && is_short_number entry.state.outstanding in
    let line = is_short_line entry.state.last in
    (and_parts first line (and_parts (first && line) (is_short entry.home.moves) sized).0).1

row_of-injective : (p : ℕ) (x y : Entry) → is_sized x ≡ true → is_sized y ≡ true
    → row_of p x ≡ row_of p y → x ≡ y
row_of-injective p x y sized_x sized_y e =
    let name : x.name ≡ y.name = cc in
    let mark : x.mark ≡ y.mark = cc in
    let count : x.state.count ≡ y.state.count = cc in
    let moves : x.home.moves ≡ y.home.moves = cc in
    let gone = text_value-injective x.home.gone y.home.gone cc in
    let outstanding = number_value-injective x.state.outstanding y.state.outstanding cc in
    let last = line_values-injective x.state.last y.state.last (last_is_short x sized_x)
    (last_is_short y sized_y) cc in
    λ i. record {
      name = name i;
      mark = mark i;
      state = record { count = count i; outstanding = outstanding i; last = last i };
      home = record { moves = moves i; gone = gone i };
    }

pub rows_from-injective : (p : ℕ) (xs ys : List Entry) → are_sized xs ≡ true → are_sized ys ≡ true
    → rows_from p xs ≡ rows_from p ys → xs ≡ ys
rows_from-injective p [] [] sized_xs sized_ys e = refl
rows_from-injective p [] (y ∷ ys) sized_xs sized_ys e = absurd cc
rows_from-injective p (x ∷ xs) [] sized_xs sized_ys e = absurd cc
rows_from-injective p (x ∷ xs) (y ∷ ys) sized_xs sized_ys e =
    let each_x = and_parts (is_sized x) (are_sized xs) sized_xs in
    let each_y = and_parts (is_sized y) (are_sized ys) sized_ys in
    let first = row_of-injective p x y each_x.0 each_y.0 cc in
    let more = rows_from-injective (p + 1) xs ys each_x.1 each_y.1 cc in
    λ i. first i ∷ more i

-- a row that no entry has

length-rows_from : (p : ℕ) (entries : List Entry) → length (rows_from p entries) ≡ length entries
length-rows_from p [] = refl
length-rows_from p (entry ∷ entries) = ap (λ n. suc n) (length-rows_from (p + 1) entries)

row_at : (p : ℕ) (entries : List Entry) (front rest : List Row) (row : Row)
    → are_sized entries ≡ true → rows_from p entries ≡ front ++ row ∷ rest
    → (entry : Entry) × (is_sized entry ≡ true) × (row ≡ row_of (p + length front) entry)
row_at p [] [] rest row sized is = absurd cc
row_at p [] (first ∷ front) rest row sized is = absurd cc
row_at p (entry ∷ entries) [] rest row sized is =
    let each = and_parts (is_sized entry) (are_sized entries) sized in
    let place : p ≡ p + 0 = omega arith in
    let here : row ≡ row_of p entry = cc in
    (entry, each.0, here ∙ ap (λ n. row_of n entry) place)
row_at p (entry ∷ entries) (first ∷ front) rest row sized is =
    let each = and_parts (is_sized entry) (are_sized entries) sized in
    let found = row_at (p + 1) entries front rest row each.1 cc in
    let place : p + 1 + length front ≡ p + suc (length front) = omega arith in
    (found.0, found.1, found.2 ∙ ap (λ n. row_of n found.0) place)

pub foreign_row : (rows rest : List Row) (row : Row) (entries : List Entry)
    → rows ≡ rows_from 0 entries ++ row ∷ rest
    → ((entry : Entry) → is_sized entry ≡ true → row ≡ row_of (length entries) entry → ⊥)
    → HasNoEntries rows
foreign_row rows rest row entries is none others sized reads =
    let found = row_at 0 others (rows_from 0 entries) rest row sized (sym reads ∙ is) in
    let count = length-rows_from 0 entries in
    let place : 0 + length (rows_from 0 entries) ≡ length entries = omega (arith, count) in
    none found.0 found.1 (found.2 ∙ ap (λ n. row_of n found.0) place)

-- one more entry of the code
pub are_sized-push : (entries : List Entry) (entry : Entry) → are_sized entries ≡ true
    → is_sized entry ≡ true → are_sized (entries ++ entry ∷ []) ≡ true
are_sized-push [] entry sized is = rw is refl
are_sized-push (first ∷ entries) entry sized is =
    let each = and_parts (is_sized first) (are_sized entries) sized in
    rw (each.0, are_sized-push entries entry each.1 is) refl

pub are_sized-with_entry : (entries : List Entry) (new : Entry) → are_sized entries ≡ true
    → is_sized new ≡ true → are_sized (with_entry entries new) ≡ true
are_sized-with_entry [] new sized is = rw is refl
are_sized-with_entry (entry ∷ later) new sized is =
    let each = and_parts (is_sized entry) (are_sized later) sized in
    elim (cases_Bool (is_replaced entry later new)) [
      | inl here ↦ rw (here, is) each.1
      | inr other ↦ rw (other, each.0) (are_sized-with_entry later new each.1 is)
    ]

-- the table after a row is put
pub put_row-noted : (entries : List Entry) (new : Entry) (place : ℕ) (row : Row) (rows : List Row)
    → place ≡ place_for entries new → row ≡ row_of place new → rows ≡ rows_from 0 entries
    → put_row row rows ≡ rows_from 0 (with_entry entries new)
put_row-noted entries new place row rows here is all =
    (λ i. put_row ((is ∙ ap (λ n. row_of n new) here) i) (all i)) ∙ put_row-row_of entries new

-- a table that was found is that of the entries now
pub found_same : (rows : List Row) (entries found : List Entry) → are_sized entries ≡ true
    → rows ≡ rows_from 0 entries → rows ≡ rows_from 0 found → are_sized found ≡ true
    → found ≡ entries
found_same rows entries found sized now then sized_found =
    rows_from-injective 0 found entries sized_found sized (sym then ∙ now)

-- a crash leaves what it left before, or the entries now
pub finds_or_same : (recovers : Trees → Type 0) (db : Trees) (desk : List ℕ)
    (entries now found : List Entry) → entries ≡ now → are_sized now ≡ true
    → recovers db ⊎ IsMemoryOf db desk now → IsMemoryOf db desk found → are_sized found ≡ true
    → FindsEntries recovers desk found ⊎ (found ≡ entries)
finds_or_same recovers db desk entries now found stands sized (inl before) then sized_found =
    inl (db, before, then, sized_found)
finds_or_same recovers db desk entries now found stands sized (inr is) then sized_found =
    inr (found_same (db 0) now found sized is.0 then.0 sized_found ∙ sym stands)

-- A row as its columns.

pub row_columns : (r : Row) → length r ≡ 10
    → r ≡ column r 0 ∷ column r 1 ∷ column r 2 ∷ column r 3 ∷ column r 4 ∷ column r 5
    ∷ column r 6 ∷ column r 7 ∷ column r 8 ∷ column r 9 ∷ []
row_columns (a ∷ b ∷ c ∷ d ∷ e ∷ f ∷ g ∷ h ∷ i ∷ j ∷ []) len = refl
row_columns [] len = absurd (omega (arith, len))
row_columns (a ∷ []) len = absurd (omega (arith, len))
row_columns (a ∷ b ∷ []) len = absurd (omega (arith, len))
row_columns (a ∷ b ∷ c ∷ []) len = absurd (omega (arith, len))
row_columns (a ∷ b ∷ c ∷ d ∷ []) len = absurd (omega (arith, len))
row_columns (a ∷ b ∷ c ∷ d ∷ e ∷ []) len = absurd (omega (arith, len))
row_columns (a ∷ b ∷ c ∷ d ∷ e ∷ f ∷ []) len = absurd (omega (arith, len))
row_columns (a ∷ b ∷ c ∷ d ∷ e ∷ f ∷ g ∷ []) len = absurd (omega (arith, len))
row_columns (a ∷ b ∷ c ∷ d ∷ e ∷ f ∷ g ∷ h ∷ []) len = absurd (omega (arith, len))
row_columns (a ∷ b ∷ c ∷ d ∷ e ∷ f ∷ g ∷ h ∷ i ∷ []) len = absurd (omega (arith, len))
row_columns (a ∷ b ∷ c ∷ d ∷ e ∷ f ∷ g ∷ h ∷ i ∷ j ∷ k ∷ more) len = absurd (omega (arith, len))
