-- The entries of a text that `states` printed, or its first fault.
use Rattle.std.specs.{Prelude.{ℕ, ◌==◌, ◌&&◌, Bool, true, List, [], ◌∷◌, ◌++◌, length, if◌then◌else◌, nat_le, not, Option, Some, None, Result, Ok, Err, codes}, Str.bytes_eq}
use Rattle.text_scan.specs.{declared.{fault_at.FaultAt.FaultAt, fault_kind.FaultKind.{FaultKind, TheVariants.{Order, Range, Twice}}}, Decimal.decimal_of, LineFold.{text_lines, text_fold}, Reader.◌>>=◌, Word.{words_of, next_word, keyword_of, end_of, is_passed_over}, WordValue.{hex_block_of, number_of, value_of}}
use Rattle.desk_memory.specs.{declared.{answer.Answer.{Answer, TheVariants.Requested}, device_state.DeviceState.DeviceState}, AnswerReader.{answer_of, most_number}, Entry.{Entry, Home, first_home, last_in, owner_in, place_for}}
use Rattle.verifier_desk.specs.{DeviceKey.name_fault, DeviceReply.LAST_COUNT}
use Rattle.desk_cli.specs.{declared.line_form.LineForm.{LineForm, TheVariants.{VersionOne, Here, Gone}}, StateText.form_names}

-- a decimal of at most so much, or `none`
unfoldable pub number_in : ℕ → List ℕ → Result (Option ℕ) FaultKind
number_in most word =
    if bytes_eq word (codes "none") then Ok None
    else (do
      number ← decimal_of 0 most word
      Ok (Some number))

-- the outstanding request is one of those that were made
unfoldable pub outstanding_of : ℕ → List (List ℕ) → Result (Option ℕ × List (List ℕ)) FaultKind
outstanding_of count words = do
  rest ← keyword_of (codes "outstanding") words
  word ← next_word rest
  number ← number_in count word.0
  Ok (number, word.1)

-- the last number of a line with its answer, or `none`
unfoldable pub last_with :
    Option ℕ → List (List ℕ) → Result (Option (ℕ × Answer) × List (List ℕ)) FaultKind
last_with None words = Ok (None, words)
last_with (Some number) words = do
  answer ← answer_of words
  Ok (Some (number, answer.0), answer.1)

unfoldable pub last_of :
    List (List ℕ) → Result (Option (ℕ × Answer) × List (List ℕ)) FaultKind
last_of words = do
  rest ← keyword_of (codes "last") words
  word ← next_word rest
  number ← number_in most_number word.0
  last_with number word.1

unfoldable pub state_of : List (List ℕ) → Result (DeviceState × List (List ℕ)) FaultKind
state_of words = do
  rest ← keyword_of (codes "count") words
  count ← number_of 0 most_number rest
  outstanding ← outstanding_of count.0 count.1
  last ← last_of outstanding.1
  Ok (record { count = count.0; outstanding = outstanding.0; last = last.0 }, last.1)

-- the name of a device or of a desk
unfoldable pub name_of : List (List ℕ) → Result (List ℕ × List (List ℕ)) FaultKind
name_of words = do
  name ← next_word words
  sound ← name_fault name.0
  Ok name

unfoldable pub moves_of : Option (List ℕ) → List (List ℕ) → Result (Home × List (List ℕ)) FaultKind
moves_of gone words = do
  rest ← keyword_of (codes "moves") words
  moves ← number_of 0 most_number rest
  Ok (record { moves = moves.0; gone = gone }, moves.1)

-- what a line of a form says of its device's home
unfoldable pub home_said : LineForm → List (List ℕ) → Result (Home × List (List ℕ)) FaultKind
home_said VersionOne words = Ok (first_home, words)
home_said Here words = moves_of None words
home_said Gone words = do
  rest ← keyword_of (codes "to") words
  desk ← name_of rest
  moves_of (Some desk.0) desk.1

-- `state2 NAME moves M key H32 count N outstanding N|none last R ANSWER|none` of a device that is
-- here, `moved NAME to DESK moves M ..` of one that is gone, and `state NAME ..`, as version 1 had
-- it, of one that has not moved
unfoldable pub entry_of : List (List ℕ) → Result Entry FaultKind
entry_of words = do
  form ← value_of form_names words
  name ← name_of form.1
  home ← home_said form.0 name.1
  key ← keyword_of (codes "key") home.1
  mark ← hex_block_of 16 key
  state ← state_of mark.1
  end ← end_of state.1
  Ok (record { name = name.0; mark = mark.0; state = state.0; home = home.0 })

-- a key stands under this name or under none
abbrev pub is_owner : List ℕ → Option (List ℕ) → Bool
is_owner name None = true
is_owner name (Some owner) = bytes_eq owner name

-- an entry goes behind these: its device's last has another key, and its key no other name
abbrev pub goes_behind : List Entry → Entry → Bool
goes_behind entries entry =
    (place_for entries entry == length entries) && is_owner entry.name (owner_in entries entry.mark)

-- a request of the last answer is one of those that were made, and more can be made
abbrev pub is_answer_made : ℕ → Option (ℕ × Answer) → Bool
is_answer_made count (Some (number, Requested request)) = nat_le request count
is_answer_made count last = true

abbrev pub is_in_range : DeviceState → Bool
is_in_range state = is_answer_made state.count state.last && not (state.count == LAST_COUNT)

-- an entry goes on from its device's last before it: neither the count, nor the number of the last
-- line, nor that of moves falls
abbrev pub last_number : Option (ℕ × Answer) → ℕ
last_number None = 0
last_number (Some last) = last.0

abbrev pub goes_on_from : Entry → Entry → Bool
goes_on_from last entry =
    nat_le last.state.count entry.state.count
    && nat_le (last_number last.state.last) (last_number entry.state.last)
    && nat_le last.home.moves entry.home.moves

abbrev pub goes_on : Option Entry → Entry → Bool
goes_on None entry = true
goes_on (Some last) entry = goes_on_from last entry

-- what is wrong with an entry behind these
abbrev pub entry_fault : List Entry → Entry → Result Unit FaultKind
entry_fault entries entry =
    if not (is_in_range entry.state) then Err Range
    else if not (goes_behind entries entry) then Err Twice
    else if not (goes_on (last_in entries entry.name) entry) then Err Order
    else Ok tt

abbrev pub with_new_entry : List Entry → Entry → Result (List Entry) FaultKind
with_new_entry entries entry = do
  sound ← entry_fault entries entry
  Ok (entries ++ entry ∷ [])

unfoldable pub with_line : List Entry → List ℕ → Result (List Entry) FaultKind
with_line entries line = do
  entry ← entry_of (words_of line)
  with_new_entry entries entry

-- the entries in the order of the lines, or the first fault
abbrev pub states_of : List ℕ → Result (List Entry) FaultAt
states_of text = text_fold with_line [] text

-- the numbers of those lines that say something
abbrev pub said_numbers : List (ℕ × List ℕ) → List ℕ
said_numbers [] = []
said_numbers (line ∷ lines) =
    if is_passed_over line.1 then said_numbers lines else line.0 ∷ said_numbers lines

-- the entries, and the numbers of their lines
pub record NumberedEntries : Type 0 where
  pub entries : List Entry
  pub numbers : List ℕ

abbrev pub numbered_entries_of : List ℕ → Result NumberedEntries FaultAt
numbered_entries_of text = do
  entries ← states_of text
  Ok (record { entries = entries; numbers = said_numbers (text_lines text) })
