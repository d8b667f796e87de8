-- The second pass: the bytes. Lists of statements have the newest first.
use Rattle.std.specs.{Prelude.{ℕ, List, [], ◌∷◌, reverse, if◌then◌else◌, Option, None, Result, Ok, Err}, Option.option_or, Result.result_err}
use Rattle.part_definitions.specs.Memory.{is_image_place}
use Rattle.mem_map.specs.Image.{byte_among}
use Rattle.text_scan.specs.{declared.{fault_at.FaultAt.FaultAt, fault_kind.FaultKind.FaultKind}, Reader.{value_or_fault, ◌>>=◌}}
use Rattle.asm_text.specs.{declared.statement.Statement.Statement, Source.source_of}
use Rattle.msp_asm.specs.{Value.Scope, Statement.bytes_of, FirstPass.{scope_after, first_fault, first_pass_fault}}

-- what a statement after these is read in: at the same place, with the names of all statements
abbrev pub scope_among : List Statement → List Statement → Scope
scope_among all earlier =
    record { names = (scope_after all).names; here = (scope_after earlier).here }

-- the fault of a statement after these in the second pass
abbrev pub second_pass_fault : List Statement → List Statement → Statement → Option FaultKind
second_pass_fault all earlier statement =
    result_err (bytes_of (scope_among all earlier) statement.body)

-- which of the bytes that a statement gives, if it has no fault
abbrev pub byte_from : ℕ → Result (List ℕ) FaultKind → ℕ → Option ℕ
byte_from first (Ok bytes) place = byte_among first bytes place
byte_from first (Err kind) place = None

-- the byte at a place is the one that the statement at that place gives
unfoldable pub byte_placed : List Statement → List Statement → ℕ → Option ℕ
byte_placed all [] place = None
byte_placed all (statement ∷ earlier) place =
    let scope = scope_among all earlier in
    option_or (byte_from scope.here (bytes_of scope statement.body) place)
    (byte_placed all earlier place)

-- the first fault of a source's statements: of the first pass, and then of the second
abbrev pub fault_of : List Statement → Option FaultAt
fault_of statements =
    let all = reverse statements in
    option_or (first_fault first_pass_fault all)
    (first_fault (second_pass_fault all) all)

-- the byte of the image at a place
abbrev pub byte_of_image : List Statement → ℕ → Option ℕ
byte_of_image statements place =
    if is_image_place place
    then byte_placed (reverse statements) (reverse statements) place
    else None

-- the bytes of the image by their places, or the first fault
abbrev pub image_of : List Statement → Result (ℕ → Option ℕ) FaultAt
image_of statements = value_or_fault (fault_of statements) (byte_of_image statements)

-- The image of a source.

-- the bytes of the image by their places, or the first fault: of the reading, and then of the
-- passes
abbrev pub source_image : List ℕ → Result (ℕ → Option ℕ) FaultAt
source_image text = do
  statements ← source_of text
  image_of statements
