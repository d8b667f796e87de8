-- The two tables of a memory: that of devices has a row for each entry, at its place; that of the
-- desk has one row.
use Rattle.std.specs.Prelude.{ℕ, ◌+◌, pos, List, [], ◌∷◌, Option, Some, None, ◌≡◌, IsTrue}
use Rattle.sqlite_value.specs.{declared.value.Value.{Value, TheVariants.{Null, Int, Text, Blob}}, Order.Row}
use Rattle.desk_memory.specs.{declared.answer.Answer.Answer, AnswerReader.answer_text, Entry.{Entry, are_sized}}

abbrev pub number_value : Option ℕ → Value
number_value None = Null
number_value (Some number) = Int (pos number)

abbrev pub text_value : Option (List ℕ) → Value
text_value None = Null
text_value (Some text) = Text text

-- the last number of a line, and its answer
abbrev pub line_values : Option (ℕ × Answer) → Row
line_values None = Null ∷ Null ∷ []
line_values (Some last) = Int (pos last.0) ∷ Text (answer_text last.1) ∷ []

-- the place, which stands for the column that is its own number, and then the other columns
abbrev pub row_of : ℕ → Entry → Row
row_of place entry =
    Int (pos place) ∷ Null ∷ Text entry.name ∷ Blob entry.mark ∷ Int (pos entry.home.moves)
    ∷ text_value entry.home.gone ∷ Int (pos entry.state.count)
    ∷ number_value entry.state.outstanding ∷ line_values entry.state.last

-- the rows of these entries, the first at this place
abbrev pub rows_from : ℕ → List Entry → List Row
rows_from place [] = []
rows_from place (entry ∷ entries) = row_of place entry ∷ rows_from (place + 1) entries

-- the number of this format
abbrev pub format_version : ℕ
format_version = 2

-- the name of the desk that a memory belongs to, at place 0, and the number of its format
abbrev pub desk_row : List ℕ → Row
desk_row desk = Int (pos 0) ∷ Null ∷ Text desk ∷ Int (pos format_version) ∷ []

abbrev pub desk_rows : List ℕ → List Row
desk_rows desk = desk_row desk ∷ []

-- What the table says of the entries.

-- no two lists of entries of the code have the same rows
abbrev pub IsOfOneList : Type 0
IsOfOneList =
    (entries others : List Entry) → IsTrue (are_sized entries) → IsTrue (are_sized others)
    → rows_from 0 entries ≡ rows_from 0 others → entries ≡ others
