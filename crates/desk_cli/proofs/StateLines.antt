-- The lines of entries are read as these entries.
use Rattle.std.{proofs.{Common.{◌≡◌, ◌∙◌, ℕ, ◌+◌, ◌<◌, ◌≤◌, ◌&&◌, Bool, true, false, List, [], ◌∷◌, ◌++◌, Option, Some, None, IfSome, Ok, Err, length, drop, append_assoc, append-nil, refl, ap, subst, sym, arith, rules, suc, inl, inr}, lemmas.{Bool.{and_from, and_parts, eqb-true, leb-true, le-leb, lt-ltb, cases_Bool}, Str.{IsUtf8-nil, IsUtf8-append}}}, specs.{Prelude.{◌==◌, ◌||◌, nat_le, nat_lt, IsUtf8}, Int.is_in_range, List.{list_all, All}, Str.Lines.lines}}
use Rattle.text_scan.{specs.{LineFold.{lines_fold, text_fold, numbered_lines}, Word.{is_passed_over, says_nothing}, declared.fault_kind.FaultKind.TheVariants.Digit}, proofs.{PlainWords.plain-encoded, TextUtf8.utf8_of-whole}}
use Rattle.named_value.specs.Names.{IsPlainWord, is_plain}
use Rattle.printed_lines.specs.Line.{line_of, with_pieces}
use Rattle.line_buffer.{specs.LineLaw.{ArePieces, IsFirstLine}, proofs.PieceLines.{first_line, utf8_line}}
use Rattle.desk_memory.specs.{declared.answer.Answer.Answer, Entry.{Entry, first_home, last_in, with_entries, is_short, is_short_answer, is_short_line, is_short_number, is_replaced, with_entry}}
use Rattle.desk_database.proofs.TableRows.{answer-are, short-plain}
use Rattle.verifier_desk.specs.DeviceKey.{is_name_character, name_fault}
use Rattle.desk_cli.{specs.{declared.line_form.LineForm.{LineForm, TheVariants.{VersionOne, Here, Gone}}, ReadBack.{AreNotable, IsWritable, StatesReadBack, VersionOneReadsBack}, StateFile.{entry_of, goes_behind, goes_on, is_in_range as ranged, states_of, with_line}, StateText.{desk_pieces, form_for, form_name, last_pieces, moves_pieces, number_piece, state_pieces, state_line, text_by, version_one_line}}, proofs.{StatesBehind.{stand_behind, noted-behind}, StatesGoOn.{go_on, noted-goes-on}, StateWords.{sizes, state-line-read, version-one-read}}}

-- Entries as desks note them can be written, and each goes behind those before it and on from them.

-- each entry is one of which this holds
abbrev pub Each : (Entry → Type 0) → List Entry → Type 0
Each holds [] = Unit {0}
Each holds (entry ∷ entries) = holds entry × Each holds entries

pub each-of : (holds : Entry → Type 0) (entries : List Entry) → All holds entries
    → Each holds entries
each-of holds [] all = tt
each-of holds (entry ∷ entries) all = (
  all 0 entry (omega arith),
  each-of holds entries (λ k d below. all (suc k) d (omega (arith, below))),
)

noted-each : (holds : Entry → Type 0) (had : List Entry) (entry : Entry) → Each holds had
    → holds entry → Each holds (with_entry had entry)
noted-each holds [] entry each new = (new, tt)
noted-each holds (first ∷ later) entry each new =
    elim (cases_Bool (is_replaced first later entry)) [
      | inl same ↦ rw same (new, each.1)
      | inr other ↦ rw other (each.0, noted-each holds later entry each.1 new)
    ]

pub noted-all : (holds : Entry → Type 0) (had entries : List Entry) → Each holds had
    → Each holds entries → Each holds (with_entries had entries)
noted-all holds had [] each new = each
noted-all holds had (entry ∷ entries) each new =
    noted-all holds (with_entry had entry) entries (noted-each holds had entry each new.0) new.1

abbrev pub AreWritable : List Entry → Type 0
AreWritable entries = Each IsWritable entries

pub record StandWritten (entries : List Entry) : Type 0 where
  pub writable : AreWritable entries
  pub behind : stand_behind [] entries ≡ true
  pub order : go_on [] entries ≡ true

pub stand-noted : (had entries : List Entry) → StandWritten had → AreNotable had entries
    → StandWritten (with_entries had entries)
stand-noted had [] stand notable = stand
stand-noted had (entry ∷ entries) stand notable =
    stand-noted (with_entry had entry) entries
    (record {
      writable = noted-each IsWritable had entry stand.writable notable.0;
      behind = noted-behind had entry stand.behind notable.1;
      order = noted-goes-on had entry stand.order notable.2;
    })
    notable.3

-- the words are plain

number-plain : (number : Option ℕ) → is_short_number number ≡ true
    → IsPlainWord (number_piece number)
number-plain None is = (omega arith, refl)
number-plain (Some number) is = short-plain number is

last-are : (last : Option (ℕ × Answer)) → is_short_line last ≡ true → ArePieces (last_pieces last)
last-are None is = ((omega arith, refl), tt)
last-are (Some last) is =
    let parts = and_parts (is_short last.0) (is_short_answer last.1) is in
    (short-plain last.0 parts.0, answer-are last.1 parts.1)

-- a character of a name is plain
range-plain : (low high character : ℕ) → 33 ≤ low → high < 127
    → is_in_range low high character ≡ true → is_plain character ≡ true
range-plain low high character least most is =
    let both = and_parts (nat_le low character) (nat_le character high) is in
    let above = leb-true low character both.0 in
    let below = leb-true character high both.1 in
    and_from (nat_le 33 character) (nat_lt character 127)
    (le-leb 33 character (omega (arith, least, above)))
    (lt-ltb character 127 (omega (arith, most, below)))

name-character : (character : ℕ) → is_name_character character ≡ true
    → is_plain character ≡ true
name-character character is =
    by_class (is_in_range 48 57 character) (is_in_range 65 90 character)
    (is_in_range 97 122 character) (character == 95) refl refl refl refl is
  where
    by_class : (digit upper lower bar : Bool)
        → is_in_range 48 57 character ≡ digit → is_in_range 65 90 character ≡ upper
        → is_in_range 97 122 character ≡ lower → (character == 95) ≡ bar
        → (((digit || upper) || lower) || bar) ≡ true
        → is_plain character ≡ true
    by_class true upper lower bar is_digit is_upper is_lower is_bar is =
        range-plain 48 57 character (omega arith) (omega arith) is_digit
    by_class false true lower bar is_digit is_upper is_lower is_bar is =
        range-plain 65 90 character (omega arith) (omega arith) is_upper
    by_class false false true bar is_digit is_upper is_lower is_bar is =
        range-plain 97 122 character (omega arith) (omega arith) is_lower
    by_class false false false true is_digit is_upper is_lower is_bar is =
        rw (eqb-true character 95 is_bar) refl
    by_class false false false false is_digit is_upper is_lower is_bar is = absurd (cc is)

each-plain : (name : List ℕ) → list_all is_name_character name ≡ true
    → list_all is_plain name ≡ true
each-plain [] is = refl
each-plain (character ∷ name) is =
    let both = and_parts (is_name_character character) (list_all is_name_character name) is in
    and_from (is_plain character) (list_all is_plain name) (name-character character both.0)
    (each-plain name both.1)

name-characters : (name : List ℕ) (sound : Bool) → list_all is_name_character name ≡ sound
    → name_fault name ≡ Ok tt → list_all is_name_character name ≡ true
name-characters name true is passes = is
name-characters name false is passes =
    let refused : name_fault name ≡ Err Digit = rw is refl in absurd (cc (passes, refused))

name-some : (name : List ℕ) → name_fault name ≡ Ok tt → 0 < length name
name-some [] passes = absurd (cc passes)
name-some (character ∷ name) passes = omega arith

name-plain : (name : List ℕ) → name_fault name ≡ Ok tt → IsPlainWord name
name-plain name sound = (
  name-some name sound,
  each-plain name (name-characters name (list_all is_name_character name) refl sound),
)

form-plain : (form : LineForm) → IsPlainWord (form_name form)
form-plain = search rules

desk-are : (gone : Option (List ℕ)) (later : List (List ℕ))
    → IfSome gone (λ desk. name_fault desk ≡ Ok tt) → ArePieces later
    → ArePieces (desk_pieces gone ++ later)
desk-are None later sound are = are
desk-are (Some desk) later sound are = ((omega arith, refl), (name-plain desk sound, are))

state-are : (entry : Entry) → IsWritable entry → ArePieces (state_pieces entry)
state-are entry writable =
    let sized = sizes entry writable.sized in
    let last : ArePieces (drop 6 (state_pieces entry)) =
    ((omega arith, refl), last-are entry.state.last sized.last) in
    let outstanding : ArePieces (drop 4 (state_pieces entry)) =
    ((omega arith, refl), (number-plain entry.state.outstanding sized.outstanding, last)) in
    let count : ArePieces (drop 2 (state_pieces entry)) =
    ((omega arith, refl), (short-plain entry.state.count sized.count, outstanding)) in
    let mark = plain-encoded entry.mark writable.mark (omega (arith, sized.mark)) in
    ((omega arith, refl), (mark, count))

moves-are : (entry : Entry) → IsWritable entry → ArePieces (moves_pieces entry)
moves-are entry writable = (
  (omega arith, refl),
  (
    short-plain entry.home.moves (sizes entry writable.sized).moves,
    state-are entry writable,
  ),
)

-- lines that are read as their entries

record IsLineOf (line : List ℕ) (entry : Entry) : Type 0 where
  form : LineForm
  pieces : List (List ℕ)
  text : line ≡ line_of (form_name form) pieces
  are : ArePieces pieces
  told : entry_of (form_name form ∷ pieces) ≡ Ok entry

state-line-is : (entry : Entry) → IsWritable entry → IsLineOf (state_line entry) entry
state-line-is entry writable = record {
  form = form_for entry.home.gone;
  pieces = entry.name ∷ desk_pieces entry.home.gone ++ moves_pieces entry;
  text = refl;
  are = (
    name-plain entry.name writable.name,
    desk-are entry.home.gone (moves_pieces entry) writable.desk (moves-are entry writable),
  );
  told = state-line-read entry writable;
}

version-one-line-is : (entry : Entry) → IsWritable entry → entry.home ≡ first_home
    → IsLineOf (version_one_line entry) entry
version-one-line-is entry writable unmoved = record {
  form = VersionOne;
  pieces = entry.name ∷ state_pieces entry;
  text = refl;
  are = (name-plain entry.name writable.name, state-are entry writable);
  told = version-one-read entry writable unmoved;
}

-- one line, and all

abbrev line_text : {line : List ℕ} {entry : Entry} → IsLineOf line entry → List ℕ
line_text is = with_pieces (form_name is.form) is.pieces

first : {line : List ℕ} {entry : Entry} (is : IsLineOf line entry) (rest : List ℕ)
    → IsFirstLine (form_name is.form) is.pieces rest
first is rest = first_line (form_name is.form) is.pieces rest (form-plain is.form, is.are)

form-says : (form : LineForm) (pieces : List (List ℕ))
    → says_nothing (form_name form ∷ pieces) ≡ false
form-says VersionOne pieces = refl
form-says Here pieces = refl
form-says Gone pieces = refl

-- nothing is wrong with an entry behind these
abbrev is_in_order : List Entry → Entry → Bool
is_in_order before entry =
    ranged entry.state && goes_behind before entry && goes_on (last_in before entry.name) entry

-- nor with any of these
abbrev are_in_order : List Entry → List Entry → Bool
are_in_order before [] = true
are_in_order before (entry ∷ entries) =
    is_in_order before entry && are_in_order (before ++ entry ∷ []) entries

in-order : (before entries : List Entry) → AreWritable entries
    → stand_behind before entries ≡ true → go_on before entries ≡ true
    → are_in_order before entries ≡ true
in-order before [] writable behind go = refl
in-order before (entry ∷ entries) writable behind go =
    let stand = and_parts (goes_behind before entry)
    (stand_behind (before ++ entry ∷ []) entries) behind in
    let order = and_parts (goes_on (last_in before entry.name) entry)
    (go_on (before ++ entry ∷ []) entries) go in
    and_from (is_in_order before entry) (are_in_order (before ++ entry ∷ []) entries)
    (and_from (ranged entry.state && goes_behind before entry)
    (goes_on (last_in before entry.name) entry)
    (and_from (ranged entry.state) (goes_behind before entry) writable.0.range stand.0) order.0)
    (in-order (before ++ entry ∷ []) entries writable.1 stand.1 order.1)

line-taken : {line : List ℕ} (before : List Entry) (entry : Entry) (is : IsLineOf line entry)
    → is_in_order before entry ≡ true
    → with_line before (line_text is) ≡ Ok (before ++ entry ∷ [])
unfolding with_line
line-taken before entry is order =
    let all = and_parts (ranged entry.state && goes_behind before entry)
    (goes_on (last_in before entry.name) entry) order in
    let parts = and_parts (ranged entry.state) (goes_behind before entry) all.0 in
    rw ((first is []).words, is.told, parts.0, parts.1, all.1) refl

line-passed : {line : List ℕ} {entry : Entry} (is : IsLineOf line entry)
    → is_passed_over (line_text is) ≡ false
line-passed is = ap says_nothing (first is []).words ∙ form-says is.form is.pieces

next-state : (before next : List Entry) (number : ℕ) (line : List ℕ)
    (later : List (ℕ × List ℕ))
    → is_passed_over line ≡ false → with_line before line ≡ Ok next
    → lines_fold with_line before ((number, line) ∷ later) ≡ lines_fold with_line next later
unfolding lines_fold
next-state before next number line later says answer = rw says (rw answer refl)

abbrev AreLines : (Entry → List ℕ) → List Entry → Type 0
AreLines line entries = Each (λ entry. IsLineOf (line entry) entry) entries

lines-read : (line : Entry → List ℕ) (before entries : List Entry) (number : ℕ)
    → AreLines line entries → are_in_order before entries ≡ true
    → lines_fold with_line before (numbered_lines number (lines (text_by line entries)))
    ≡ Ok (before ++ entries)
unfolding lines_fold
lines-read line before [] number are order =
    ap (λ (entries : List Entry). Ok entries) (sym (append-nil before))
lines-read line before (entry ∷ entries) number are order =
    let rest : List ℕ = text_by line entries in
    let parts = and_parts (is_in_order before entry)
    (are_in_order (before ++ entry ∷ []) entries) order in
    ap (λ (all : List (List ℕ)). lines_fold with_line before (numbered_lines number all))
    (ap (λ (text : List ℕ). lines (text ++ rest)) are.0.text ∙ (first are.0 rest).line)
    ∙ next-state before (before ++ entry ∷ []) number (line_text are.0)
    (numbered_lines (number + 1) (lines rest)) (line-passed are.0)
    (line-taken before entry are.0 parts.0)
    ∙ lines-read line (before ++ entry ∷ []) entries (number + 1) are.1 parts.1
    ∙ ap (λ (all : List Entry). Ok all) (append_assoc before (entry ∷ []) entries)

text-utf8 : (line : Entry → List ℕ) (entries : List Entry) → AreLines line entries
    → IsUtf8 (text_by line entries)
text-utf8 line [] are = IsUtf8-nil
text-utf8 line (entry ∷ entries) are =
    IsUtf8-append (line entry) (text_by line entries)
    (subst IsUtf8 (sym are.0.text)
    (utf8_line (form_name are.0.form) are.0.pieces (form-plain are.0.form, are.0.are)))
    (text-utf8 line entries are.1)

text-read : (line : Entry → List ℕ) (entries : List Entry) → AreLines line entries
    → are_in_order [] entries ≡ true
    → states_of (text_by line entries) ≡ Ok entries
unfolding text_fold
text-read line entries are order =
    rw ((utf8_of-whole (text_by line entries)).1 (text-utf8 line entries are))
    (lines-read line [] entries 1 are order)

noted : (entries : List Entry) → AreNotable [] entries → StandWritten (with_entries [] entries)
noted entries notable = stand-noted [] entries (record {
  writable = tt;
  behind = refl;
  order = refl;
}) notable

stands-in-order : (entries : List Entry) → StandWritten entries → are_in_order [] entries ≡ true
stands-in-order entries stand = in-order [] entries stand.writable stand.behind stand.order

state-lines : (entries : List Entry) → AreWritable entries → AreLines state_line entries
state-lines [] writable = tt
state-lines (entry ∷ entries) writable =
    (state-line-is entry writable.0, state-lines entries writable.1)

pub read_back : StatesReadBack
read_back entries notable =
    let stand = noted entries notable in
    let all : List Entry = with_entries [] entries in
    text-read state_line all (state-lines all stand.writable) (stands-in-order all stand)

abbrev has_not_moved : Entry → Type 0
has_not_moved entry = entry.home ≡ first_home

version-one-lines : (entries : List Entry) → AreWritable entries → Each has_not_moved entries
    → AreLines version_one_line entries
version-one-lines [] writable unmoved = tt
version-one-lines (entry ∷ entries) writable unmoved = (
  version-one-line-is entry writable.0 unmoved.0,
  version-one-lines entries writable.1 unmoved.1,
)

pub version_one_read_back : VersionOneReadsBack
version_one_read_back entries notable unmoved =
    let stand = noted entries notable in
    let all : List Entry = with_entries [] entries in
    let none_moved = noted-all has_not_moved [] entries tt
    (each-of has_not_moved entries unmoved) in
    text-read version_one_line all (version-one-lines all stand.writable none_moved)
    (stands-in-order all stand)
