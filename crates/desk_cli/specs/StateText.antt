-- The entries of a memory as text: a line for each, the oldest first.
use Rattle.std.specs.{Prelude.{ℕ, ◌++◌, List, [], ◌∷◌, Option, Some, None, codes}, Fmt.decimal}
use Rattle.hex.specs.Hex.{encode_lower}
use Rattle.named_value.specs.Names.{Names}
use Rattle.printed_lines.specs.Line.{line_of}
use Rattle.desk_memory.specs.{declared.answer.Answer.Answer, AnswerReader.answer_words, Entry.Entry}
use Rattle.desk_cli.specs.{declared.line_form.LineForm.{LineForm, TheVariants.{VersionOne, Here, Gone}}}

-- the first word of a line, by which its form is known
abbrev pub form_name : LineForm → List ℕ
form_name VersionOne = codes "state"
form_name Here = codes "state2"
form_name Gone = codes "moved"

abbrev pub form_names : Names LineForm
form_names = record { values = VersionOne ∷ Here ∷ Gone ∷ []; name = form_name }

abbrev pub number_piece : Option ℕ → List ℕ
number_piece None = codes "none"
number_piece (Some number) = decimal number

-- the last number of a line, and its answer
abbrev pub last_pieces : Option (ℕ × Answer) → List (List ℕ)
last_pieces None = codes "none" ∷ []
last_pieces (Some last) = decimal last.0 ∷ answer_words last.1

-- what a line says of its entry's key and state
abbrev pub state_pieces : Entry → List (List ℕ)
state_pieces entry =
    codes "key" ∷ encode_lower entry.mark ∷ codes "count" ∷ decimal entry.state.count
    ∷ codes "outstanding" ∷ number_piece entry.state.outstanding
    ∷ codes "last" ∷ last_pieces entry.state.last

-- the form of the line of a device that is gone to a desk, or is here
abbrev pub form_for : Option (List ℕ) → LineForm
form_for None = Here
form_for (Some desk) = Gone

abbrev pub desk_pieces : Option (List ℕ) → List (List ℕ)
desk_pieces None = []
desk_pieces (Some desk) = codes "to" ∷ desk ∷ []

abbrev pub moves_pieces : Entry → List (List ℕ)
moves_pieces entry = codes "moves" ∷ decimal entry.home.moves ∷ state_pieces entry

abbrev pub state_line : Entry → List ℕ
state_line entry =
    line_of (form_name (form_for entry.home.gone))
    (entry.name ∷ desk_pieces entry.home.gone ++ moves_pieces entry)

-- a line as version 1 printed it, which says nothing of a home
abbrev pub version_one_line : Entry → List ℕ
version_one_line entry = line_of (form_name VersionOne) (entry.name ∷ state_pieces entry)

-- a line for each entry
abbrev pub text_by : (Entry → List ℕ) → List Entry → List ℕ
text_by line [] = []
text_by line (entry ∷ entries) = line entry ++ text_by line entries

abbrev pub states_text : List Entry → List ℕ
states_text entries = text_by state_line entries

-- the text that version 1 printed
abbrev pub version_one_text : List Entry → List ℕ
version_one_text entries = text_by version_one_line entries
