-- The words of an entry's line, and what they are read as.
use Rattle.std.{proofs.{Common.{◌≡◌, ℕ, ◌^◌, ◌<◌, ◌≤◌, Bool, true, false, List, [], ◌∷◌, ◌++◌, Option, Some, None, IfSome, Ok, length, append_assoc, refl, arith, rules}, lemmas.{Bool.{and_parts, eqb-true, leb-true}, Slice.Eq.bytes_eq-Decides}}, specs.{Prelude.{◌==◌, ◌&&◌, codes}, Fmt.decimal, Str.bytes_eq}}
use Rattle.printed_lines.specs.Line.{with_pieces}
use Rattle.text_scan.{specs.{Decimal.decimal_of, WordValue.hex_block_of, FaultName.fault_name}, proofs.{NamedWord.value_of-name, PlainWords.{decimal_of-decimal, hex_bytes_of-digits}}}
use Rattle.named_value.specs.Names.{value_named}
use Rattle.report_verifier.specs.Verdict.{verdict_name}
use Rattle.desk_memory.specs.{declared.{answer.Answer.{Answer, TheVariants.{Stale, Bad, Spent, Requested, Judged}}, device_state.DeviceState.DeviceState}, AnswerReader.{answer_text, answer_words}, Entry.{Entry, first_home, is_short, is_short_answer, is_short_line, is_short_number, is_sized}}
use Rattle.desk_database.proofs.TableRows.{answer-read, count-read, short}
use Rattle.verifier_desk.specs.DeviceKey.{name_fault}
use Rattle.desk_cli.specs.{declared.line_form.LineForm.{LineForm, TheVariants.VersionOne}, ReadBack.{IsWritable, is_made}, StateFile.{entry_of, home_said, last_of, last_with, moves_of, name_of, number_in, outstanding_of, state_of}, StateText.{desk_pieces, form_for, form_name, form_names, last_pieces, moves_pieces, number_piece, state_pieces}}

-- an answer's text is its words
pub answer_text_pieces : (text : List ℕ) (answer : Answer)
    → with_pieces text (answer_words answer) ≡ text ++ 32 ∷ answer_text answer
answer_text_pieces text Stale = refl
answer_text_pieces text (Bad kind) =
    append_assoc text (32 ∷ codes "bad") (32 ∷ fault_name kind)
answer_text_pieces text Spent = refl
answer_text_pieces text (Requested count) =
    append_assoc text (32 ∷ codes "request") (32 ∷ decimal count)
answer_text_pieces text (Judged verdict) =
    append_assoc text (32 ∷ codes "verdict") (32 ∷ verdict_name verdict)

-- the value of each word

-- `none` is no decimal
no-decimal : (most number : ℕ) → number ≤ most → most < 10 ^ 10
    → decimal number ≡ codes "none" → ⊥
no-decimal most number within few same =
    let value : decimal_of 0 most (decimal number) ≡ Ok number =
    decimal_of-decimal most number within few in
    cc (rw same at value)

decimal-read : (most number : ℕ) (is_none : Bool)
    → bytes_eq (decimal number) (codes "none") ≡ is_none
    → number ≤ most → most < 10 ^ 10
    → number_in most (decimal number) ≡ Ok (Some number)
unfolding number_in
decimal-read most number true is within few =
    absurd (no-decimal most number within few
    ((bytes_eq-Decides (decimal number) (codes "none")).0 is))
decimal-read most number false is within few =
    rw (is, decimal_of-decimal most number within few) refl

number-read : (most : ℕ) (number : Option ℕ) → IfSome number (λ n. n ≤ most) → most < 10 ^ 10
    → number_in most (number_piece number) ≡ Ok number
unfolding number_in
number-read most None within few = refl
number-read most (Some number) within few =
    decimal-read most number (bytes_eq (decimal number) (codes "none")) refl within few

last-read : (last : Option (ℕ × Answer)) → is_short_line last ≡ true
    → last_of (codes "last" ∷ last_pieces last) ≡ Ok (last, [])
unfolding last_of last_with
last-read None few = rw (number-read 4294967295 None tt (omega arith)) refl
last-read (Some last) few =
    let parts = and_parts (is_short last.0) (is_short_answer last.1) few in
    rw (
      number-read 4294967295 (Some last.0) (short last.0 parts.0) (omega arith),
      answer-read last.1 parts.1,
    ) refl

made-within : (count : ℕ) (number : Option ℕ) → is_made count number ≡ true
    → IfSome number (λ n. n ≤ count)
made-within count None is = tt
made-within count (Some number) is = leb-true number count is

outstanding-read : (count : ℕ) (number : Option ℕ) (rest : List (List ℕ))
    → is_made count number ≡ true → is_short count ≡ true
    → outstanding_of count (codes "outstanding" ∷ number_piece number ∷ rest) ≡ Ok (number, rest)
unfolding outstanding_of
outstanding-read count number rest made few =
    let most = short count few in
    rw (number-read count number (made-within count number made) (omega (arith, most))) refl

state-read : (state : DeviceState) → is_made state.count state.outstanding ≡ true
    → is_short state.count ≡ true → is_short_line state.last ≡ true
    → state_of (codes "count" ∷ decimal state.count
    ∷ codes "outstanding" ∷ number_piece state.outstanding
    ∷ codes "last" ∷ last_pieces state.last)
    ≡ Ok (state, [])
unfolding state_of
state-read state made few few_last =
    rw (
      count-read state.count _ few,
      outstanding-read state.count state.outstanding _ made few,
      last-read state.last few_last,
    ) refl

pub record Sizes (entry : Entry) : Type 0 where
  pub mark : length entry.mark ≡ 16
  pub count : is_short entry.state.count ≡ true
  pub outstanding : is_short_number entry.state.outstanding ≡ true
  pub last : is_short_line entry.state.last ≡ true
  pub moves : is_short entry.home.moves ≡ true

pub sizes : (entry : Entry) → is_sized entry ≡ true → Sizes entry
sizes entry is =
    let all = and_parts
    (length entry.mark == 16 && is_short entry.state.count
    && is_short_number entry.state.outstanding && is_short_line entry.state.last)
    (is_short entry.home.moves) is in
    let first = and_parts
    (length entry.mark == 16 && is_short entry.state.count
    && is_short_number entry.state.outstanding) (is_short_line entry.state.last) all.0 in
    let second = and_parts (length entry.mark == 16 && is_short entry.state.count)
    (is_short_number entry.state.outstanding) first.0 in
    let third = and_parts (length entry.mark == 16) (is_short entry.state.count) second.0 in
    record {
      mark = eqb-true (length entry.mark) 16 third.0;
      count = third.1;
      outstanding = second.1;
      last = first.1;
      moves = all.1;
    }

-- the form of a line, and what it says of a home

form-told : (form : LineForm) → value_named form_names (form_name form) ≡ Some form
form-told = search rules

name-read : (name : List ℕ) (rest : List (List ℕ)) → name_fault name ≡ Ok tt
    → name_of (name ∷ rest) ≡ Ok (name, rest)
unfolding name_of
name-read name rest sound = rw sound refl

moves-read : (desk : Option (List ℕ)) (moves : ℕ) (rest : List (List ℕ))
    → is_short moves ≡ true
    → moves_of desk (codes "moves" ∷ decimal moves ∷ rest)
    ≡ Ok (record { moves = moves; gone = desk }, rest)
unfolding moves_of
moves-read desk moves rest few = rw (count-read moves rest few) refl

home-read : (gone : Option (List ℕ)) (moves : ℕ) (rest : List (List ℕ))
    → IfSome gone (λ desk. name_fault desk ≡ Ok tt) → is_short moves ≡ true
    → home_said (form_for gone) (desk_pieces gone ++ codes "moves" ∷ decimal moves ∷ rest)
    ≡ Ok (record { moves = moves; gone = gone }, rest)
unfolding home_said
home-read None moves rest sound few = moves-read None moves rest few
home-read (Some desk) moves rest sound few =
    rw (
      name-read desk (codes "moves" ∷ decimal moves ∷ rest) sound,
      moves-read (Some desk) moves rest few,
    ) refl

-- a line of any form that says the home of its entry
entry-read : (form : LineForm) (entry : Entry) (words : List (List ℕ)) → IsWritable entry
    → home_said form words ≡ Ok (entry.home, state_pieces entry)
    → entry_of (form_name form ∷ entry.name ∷ words) ≡ Ok entry
unfolding entry_of hex_block_of
entry-read form entry words writable home =
    let sized = sizes entry writable.sized in
    rw (
      value_of-name form_names form (entry.name ∷ words) (form-told form),
      name-read entry.name words writable.name,
      home,
      hex_bytes_of-digits 16 entry.mark sized.mark writable.mark,
      state-read entry.state writable.made sized.count sized.last,
    ) refl

pub state-line-read : (entry : Entry) → IsWritable entry
    → entry_of (form_name (form_for entry.home.gone) ∷ entry.name
    ∷ desk_pieces entry.home.gone ++ moves_pieces entry)
    ≡ Ok entry
state-line-read entry writable =
    entry-read (form_for entry.home.gone) entry
    (desk_pieces entry.home.gone ++ moves_pieces entry) writable
    (home-read entry.home.gone entry.home.moves (state_pieces entry) writable.desk
    (sizes entry writable.sized).moves)

pub version-one-read : (entry : Entry) → IsWritable entry → entry.home ≡ first_home
    → entry_of (form_name VersionOne ∷ entry.name ∷ state_pieces entry) ≡ Ok entry
unfolding home_said
version-one-read entry writable unmoved =
    entry-read VersionOne entry (state_pieces entry) writable (rw unmoved refl)
