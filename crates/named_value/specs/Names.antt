-- Values that have names, by which texts have them.
use Rattle.std.specs.{Prelude.{◌≡◌, ℕ, List, [], ◌∷◌, length, max, find, Option, Some, ◌<◌, ◌&&◌, Bool, true, nat_le, nat_lt}, Str.bytes_eq, List.list_all}

-- Words of printed characters.

-- a printed character of ASCII that is no blank
abbrev pub is_plain : ℕ → Bool
is_plain character = nat_le 33 character && nat_lt character 127

-- some of them, and nothing else
abbrev pub IsPlainWord : List ℕ → Type 0
IsPlainWord word = (0 < length word) × (list_all is_plain word ≡ true)

-- all values of a type in order, and a name for each
pub record Names (Value : Type 0) : Type 0 where
  pub values : List Value
  pub name : Value → List ℕ

-- the value that has this name
abbrev pub value_named : {Value : Type 0} → Names Value → List ℕ → Option Value
value_named names word = find (λ value. bytes_eq word (names.name value)) names.values

-- the length of the longest name
abbrev pub longest_of : {Value : Type 0} → (Value → List ℕ) → List Value → ℕ
longest_of name [] = 0
longest_of name (value ∷ values) = max (length (name value)) (longest_of name values)

abbrev pub longest : {Value : Type 0} → Names Value → ℕ
longest names = longest_of names.name names.values

-- the list has each value, and no two have one name
abbrev pub AreApart : {Value : Type 0} → Names Value → Type 0
AreApart {Value} names = (value : Value) → value_named names (names.name value) ≡ Some value

-- each name is a word of a line
abbrev pub AreWords : {Value : Type 0} → Names Value → Type 0
AreWords {Value} names = (value : Value) → IsPlainWord (names.name value)
