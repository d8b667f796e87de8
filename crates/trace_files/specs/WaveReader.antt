-- What a reader finds in a waveform of this form: the values of the wires at each time.
use Rattle.std.specs.{Prelude.{◌==◌, ◌+◌, ◌*◌, ℕ, List, [], ◌∷◌, length, map, take, drop, nat_le, Option, Some, None, if◌then◌else◌, codes}, Str.{bytes_eq, Lines.lines}, Option.option_map, Result.result_ok}
use Rattle.text_scan.specs.{Decimal.decimal_of, Word.words_of}
use Rattle.trace_files.specs.{declared.wire.Wire.Wire, Wire.{wires, wire_code}, WaveText.header}

-- the values of the wires in their order, from a time on; nothing where nothing drives one
pub record WavePoint : Type 0 where
  pub time : ℕ
  pub values : List (Option ℕ)

abbrev pub no_values : List (Option ℕ)
no_values = map (λ wire. None) wires

abbrev pub last_values : List WavePoint → List (Option ℕ)
last_values [] = no_values
last_values (point ∷ earlier) = point.values

-- the value at a time is the one that was told last; of points, the newest first
abbrev pub values_at : ℕ → List WavePoint → List (Option ℕ)
values_at time [] = no_values
values_at time (point ∷ earlier) =
    if nat_le point.time time then point.values else values_at time earlier

abbrev pub and_then : {A B : Type 0} → Option A → (A → Option B) → Option B
and_then None onward = None
and_then (Some value) onward = onward value

abbrev pub bit_in : ℕ → Option ℕ
bit_in digit = if digit == 48 then Some 0 else if digit == 49 then Some 1 else None

abbrev pub number_after : ℕ → List ℕ → Option ℕ
number_after number [] = Some number
number_after number (digit ∷ digits) =
    and_then (bit_in digit) (λ bit. number_after (2 * number + bit) digits)

-- `z` for nothing, else a number in binary
abbrev pub value_in : List ℕ → Option (Option ℕ)
value_in [] = None
value_in digits =
    if bytes_eq digits (codes "z") then Some None else option_map Some (number_after 0 digits)

-- the values with another one for the wire of this code
abbrev pub with_value : ℕ → Option ℕ → List Wire → List (Option ℕ) → Option (List (Option ℕ))
with_value code value (wire ∷ later) (old ∷ values) =
    if wire_code wire == code then Some (value ∷ values)
    else option_map (λ values. old ∷ values) (with_value code value later values)
with_value code value later values = None

-- a change is of the time that was told last
abbrev pub with_change : List ℕ → Option (Option ℕ) → List WavePoint → Option (List WavePoint)
with_change (code ∷ []) (Some value) (point ∷ earlier) =
    option_map (λ values. record point { values = values } ∷ earlier)
    (with_value code value wires point.values)
with_change code value points = None

-- `#` and a time: the values are those before it, until a change
abbrev pub with_time : Option ℕ → List WavePoint → Option (List WavePoint)
with_time None points = None
with_time (Some time) points =
    Some (record { time = time; values = last_values points } ∷ points)

-- a bit and its code; or what says nothing
abbrev pub after_word : List ℕ → List WavePoint → Option (List WavePoint)
after_word word points =
    if bytes_eq word (codes "$dumpvars") then Some points
    else if bytes_eq word (codes "$end") then Some points
    else if bytes_eq (take 1 word) (codes "#")
    then with_time (result_ok (decimal_of 0 4294967295 (drop 1 word))) points
    else with_change (drop 1 word) (value_in (take 1 word)) points

-- `b`, digits, and a code
abbrev pub after_pair : List ℕ → List ℕ → List WavePoint → Option (List WavePoint)
after_pair word code points =
    if bytes_eq (take 1 word) (codes "b") then with_change code (value_in (drop 1 word)) points
    else None

abbrev pub after_words : List (List ℕ) → List WavePoint → Option (List WavePoint)
after_words (word ∷ []) points = after_word word points
after_words (word ∷ code ∷ []) points = after_pair word code points
after_words words points = None

-- line after line
unfoldable pub points_after : List WavePoint → List (List ℕ) → Option (List WavePoint)
points_after points [] = Some points
points_after points (line ∷ later) =
    and_then (after_words (words_of line) points) (λ next. points_after next later)

-- the points of a waveform, the newest first, if it has this form
abbrev pub points_of : List ℕ → Option (List WavePoint)
points_of text =
    if bytes_eq (take (length header) text) header
    then points_after [] (lines (drop (length header) text))
    else None
