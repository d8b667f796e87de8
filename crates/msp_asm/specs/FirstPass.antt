-- The first pass: places and names. Lists of statements have the newest first.
use Rattle.std.specs.{Prelude.{◌+◌, ◌%◌, ◌==◌, ◌&&◌, ◌||◌, ℕ, zero, suc, ℤ, pos, negsuc, Bool, true, false, not, nat_le, nat_lt, List, [], ◌∷◌, if◌then◌else◌, Option, Some, None, is_some}, List.{list_all, list_any}, Option.option_or, Result.result_err, Map.update, Str.bytes_eq}
use Rattle.device_types.specs.Map.{program_region}
use Rattle.part_definitions.specs.Memory.{is_image_place}
use Rattle.text_scan.specs.{declared.{fault_at.FaultAt.FaultAt, fault_kind.FaultKind.{FaultKind, TheVariants.{Twice, Place, Overlap}}}, Reader.◌>>=◌}
use Rattle.asm_text.specs.{declared.{body.Body.{Body, TheVariants.{Empty, Instr as Instruction, Org, Word, Byte, Ascii, Equ}}, statement.Statement.Statement}}
use Rattle.msp_asm.specs.{Value.{Scope, value, known_value, address_of, word_of}, Statement.{size_of, is_of_words}}

-- the name that a body gives
abbrev pub constant_name : Body → Option (List ℕ)
constant_name (Equ name expr) = Some name
constant_name Empty = None
constant_name (Instruction mnemonic size first second) = None
constant_name (Org expr) = None
constant_name (Word exprs) = None
constant_name (Byte exprs) = None
constant_name (Ascii text) = None

-- the value that `.org` or `.equ` names, by the names of earlier lines
abbrev pub constant_value : Scope → Body → Option ℤ
constant_value scope (Org expr) = value scope expr
constant_value scope (Equ name expr) = value scope expr
constant_value scope Empty = None
constant_value scope (Instruction mnemonic size first second) = None
constant_value scope (Word exprs) = None
constant_value scope (Byte exprs) = None
constant_value scope (Ascii text) = None

-- names with another one
abbrev pub with_name : Option (List ℕ) → Option ℤ → (List ℕ → Option ℤ) → List ℕ → Option ℤ
with_name None value names = names
with_name (Some name) value names = update bytes_eq names name value

-- the names with those that a statement gives: a label's value is the place before its statement
abbrev pub names_after : Scope → Statement → List ℕ → Option ℤ
names_after scope statement =
    with_name (constant_name statement.body) (constant_value scope statement.body)
    (with_name statement.label (Some (pos scope.here)) scope.names)

-- a value as a place
abbrev pub place_of : Option ℤ → ℕ
place_of None = 0
place_of (Some (pos place)) = place
place_of (Some (negsuc n)) = 0

-- it names the next place
abbrev pub is_org : Body → Bool
is_org (Org expr) = true
is_org Empty = false
is_org (Instruction mnemonic size first second) = false
is_org (Word exprs) = false
is_org (Byte exprs) = false
is_org (Ascii text) = false
is_org (Equ name expr) = false

-- the place after a statement
abbrev pub place_after : Scope → Body → ℕ
place_after scope body =
    if is_org body then place_of (constant_value scope body)
    else scope.here + size_of body

-- a statement after those of a scope
abbrev pub next_scope : Scope → Statement → Scope
next_scope scope statement =
    record { names = names_after scope statement; here = place_after scope statement.body }

-- what a statement after these is read in: the names that they give, and the place after them,
-- which is the first of the program at first
unfoldable pub scope_after : List Statement → Scope
scope_after [] = record { names = λ name. None; here = program_region.first }
scope_after (statement ∷ earlier) = next_scope (scope_after earlier) statement

-- a name that has a value already
abbrev pub has_value : (List ℕ → Option ℤ) → Option (List ℕ) → Bool
has_value names None = false
has_value names (Some name) = is_some (names name)

-- both names are the same
abbrev pub are_same : Option (List ℕ) → Option (List ℕ) → Bool
are_same None other = false
are_same (Some name) None = false
are_same (Some name) (Some other) = bytes_eq name other

-- a name that the statement gives has a value, or it gives one name twice
abbrev pub gives_again : Scope → Statement → Bool
gives_again scope statement =
    has_value scope.names statement.label || has_value scope.names (constant_name statement.body)
    || are_same statement.label (constant_name statement.body)

-- the fault of the expression of `.org` or `.equ`
abbrev pub constant_fault : Scope → Body → Option FaultKind
constant_fault scope (Org expr) =
    result_err (known_value (value scope expr) >>= address_of)
constant_fault scope (Equ name expr) =
    result_err (known_value (value scope expr) >>= word_of)
constant_fault scope Empty = None
constant_fault scope (Instruction mnemonic size first second) = None
constant_fault scope (Word exprs) = None
constant_fault scope (Byte exprs) = None
constant_fault scope (Ascii text) = None

-- so many places from this one upwards
abbrev pub places_from : ℕ → ℕ → List ℕ
places_from first zero = []
places_from first (suc count) = first ∷ places_from (first + 1) count

-- a place among so many from the first upwards
abbrev pub is_among : ℕ → ℕ → ℕ → Bool
is_among first count place = nat_le first place && nat_lt place (first + count)

-- a statement places a byte there
abbrev pub places_byte : Scope → Body → ℕ → Bool
places_byte scope body place = is_among scope.here (size_of body) place

-- one of these statements places a byte there
unfoldable pub is_placed : List Statement → ℕ → Bool
is_placed [] place = false
is_placed (statement ∷ earlier) place =
    places_byte (scope_after earlier) statement.body place || is_placed earlier place

-- so many bytes from a place upwards cannot stand there: an image holds none there, or there is one
abbrev pub space_fault : (ℕ → Bool) → List ℕ → Option FaultKind
space_fault is_taken places =
    if not (list_all is_image_place places) then Some Place
    else if list_any is_taken places then Some Overlap
    else None

-- the fault of the places of a statement's bytes; instructions and words stand at even ones
abbrev pub place_fault : (ℕ → Bool) → Scope → Body → Option FaultKind
place_fault is_taken scope body =
    if is_of_words body && not (scope.here % 2 == 0) then Some Place
    else space_fault is_taken (places_from scope.here (size_of body))

-- the fault of a statement in the first pass
abbrev pub statement_fault : (ℕ → Bool) → Scope → Statement → Option FaultKind
statement_fault is_taken scope statement =
    if gives_again scope statement then Some Twice
    else option_or (constant_fault scope statement.body)
    (place_fault is_taken scope statement.body)

-- the same after these statements
abbrev pub first_pass_fault : List Statement → Statement → Option FaultKind
first_pass_fault earlier statement =
    statement_fault (is_placed earlier) (scope_after earlier) statement

-- a fault with its line
abbrev pub at_line : ℕ → Option FaultKind → Option FaultAt
at_line line None = None
at_line line (Some kind) = Some (record { line = line; kind = kind })

-- the fault of the first statement that has one
abbrev pub first_fault : (List Statement → Statement → Option FaultKind) → List Statement
    → Option FaultAt
first_fault fault [] = None
first_fault fault (statement ∷ earlier) =
    option_or (first_fault fault earlier) (at_line statement.line (fault earlier statement))
