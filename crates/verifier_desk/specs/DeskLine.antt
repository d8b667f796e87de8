-- What a line says at a desk with these devices.
use Rattle.std.specs.{Prelude.{ℕ, ◌||◌, Bool, List, [], ◌∷◌, length, if◌then◌else◌, nat_lt, Option, Some, Result, Ok, codes, None}, Str.bytes_eq}
use Rattle.text_scan.specs.{declared.fault_kind.FaultKind.FaultKind, Decimal.decimal_of, Word.words_of}
use Rattle.source_server.specs.HeldLine.{LONGEST_LINE}
use Rattle.verifier_desk.specs.{DeviceKey.{DeviceKey, key_named}, declared.desk_line.{SaidLine.SaidLine, OwnLine.OwnLine}}
use Rattle.verifier_desk.specs.declared.desk_line.SaidLine.TheVariants as said

-- What one device's line says.

-- its number, whether it gives a report or asks for a request, and its words behind the number
pub record DeviceLine : Type 0 where
  pub number : ℕ
  pub is_give : Bool
  pub words : List (List ℕ)

pub data DeskLine : Type 0 where
  TooLong : DeskLine
  -- it has no words
  Silent : DeskLine
  -- it is no line of a device
  Foreign : DeskLine
  Own : DeviceKey → DeviceLine → DeskLine

abbrev pub is_verb : List ℕ → Bool
is_verb word = bytes_eq word (codes "ask") || bytes_eq word (codes "give")

abbrev pub own_or_foreign :
    Option (List ℕ) → Result ℕ FaultKind → List ℕ → List ℕ → List (List ℕ) → DeskLine
own_or_foreign (Some key) (Ok number) verb name words =
    if is_verb verb
    then Own (record { name = name; key = key })
    (record { number = number; is_give = bytes_eq verb (codes "give"); words = words })
    else Foreign
own_or_foreign key number verb name words = Foreign

-- `ask NAME R ..` or `give NAME R ..`
abbrev pub desk_line_of_words : List DeviceKey → List (List ℕ) → DeskLine
desk_line_of_words devices [] = Silent
desk_line_of_words devices (verb ∷ name ∷ number ∷ words) =
    own_or_foreign (key_named name devices) (decimal_of 1 4294967295 number) verb name words
desk_line_of_words devices words = Foreign

abbrev pub desk_line_of : List DeviceKey → List ℕ → DeskLine
desk_line_of devices line =
    if nat_lt LONGEST_LINE (length line) then TooLong
    else desk_line_of_words devices (words_of line)

-- A line of a device as the code's value stands for it.

abbrev pub line_in : OwnLine → DeviceLine
line_in own =
    record { number = own.number; is_give = own.is_give; words = words_of own.rest.now }

-- what it says at a desk with these devices
abbrev pub own_or_none : Option (List ℕ) → OwnLine → DeskLine
own_or_none None own = Foreign
own_or_none (Some key) own = Own (record { name = own.name.now; key = key }) (line_in own)

abbrev pub said_at : List DeviceKey → SaidLine → DeskLine
said_at devices said.Silent = Silent
said_at devices said.Foreign = Foreign
said_at devices (said.Own own) = own_or_none (key_named own.name.now devices) own
