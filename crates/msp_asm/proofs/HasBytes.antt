-- The bytes of each statement stand in the image.
use Rattle.std.{proofs.{Common.{◌≡◌, ◌∙◌, ◌<◌, ◌≤◌, ◌+◌, ◌++◌, ◌||◌, ℕ, ap, sym, subst, refl, List, [], ◌∷◌, length, reverse, true, Option, Some, None, Result, Ok, Err, IfOk, inl, inr, arith, if◌then◌else◌, suc, false, ◌&&◌, ◌==◌, ◌%◌, not, zero, Bool}, lemmas.{Bool.{and_parts, and_from, or_parts, not-true, not_from_false, Decides.{eqb_tells, nat_tests}}, List.{reverse-append, append_assoc}}}, specs.{Prelude.IsOkAnd, List.{flat_map, list_all, list_any}, Option.option_or, Result.result_err}}
use Rattle.part_definitions.specs.Memory.{is_image_place}
use Rattle.msp_decode.specs.{declared.instr.Instr.Instr, Completion.words_of, Law.AreReadAs}
use Rattle.text_scan.specs.{declared.{fault_kind.FaultKind.{FaultKind, TheVariants.{Twice, Place, Overlap}}, fault_at.FaultAt.FaultAt, text_fault.TextFault.TextFault}, Reader.{◌>>=◌, Reads, value_as, value_or_fault}}
use Rattle.asm_text.specs.declared.{body.Body.{Body, TheVariants.{Empty, Instr as Instruction, Org, Word, Byte, Ascii, Equ}}, statement.Statement.Statement}
use Rattle.msp_asm.{specs.{Value.Scope, Statement.{size_of, bytes_of, word_bytes, named_instruction, IsNamed, is_of_words}, FirstPass.{first_fault, first_pass_fault, is_placed, scope_after, at_line, is_among, places_from, gives_again, constant_fault, place_fault, space_fault}, SecondPass.{byte_from, byte_placed, byte_of_image, fault_of, image_of, scope_among, second_pass_fault, source_image}, HasBytes.{HasBytes, HasBytesOf, HasInstruction, HasInstructionOf, OfEachStatement}}, proofs.{StatementSize.bytes_have_their_size, LinesSoFar.{neither, no_fault_at}}}
use Rattle.mem_map.specs.{declared.image.Image.Image, Image.{byte_in, byte_among}}

-- The places of a statement without a fault are free.

-- a statement's places are free, and those of an image
pub record AreFree (is_taken : ℕ → Bool) (first count : ℕ) : Type 0 where
  pub placed : list_all is_image_place (places_from first count) ≡ true
  pub free : list_any is_taken (places_from first count) ≡ false

free_places : (in_image overlaps : Bool)
    → (if not in_image then Some Place else if overlaps then Some Overlap else None) ≡ None
    → (in_image ≡ true) × (overlaps ≡ false)
free_places true false none = (refl, refl)
free_places true true none = absurd cc
free_places false overlaps none = absurd cc

not_odd : (odd : Bool) (space : Option FaultKind) → (if odd then Some Place else space) ≡ None
    → space ≡ None
not_odd true space none = absurd cc
not_odd false space none = none

not_twice : (again : Bool) (constant place : Option FaultKind)
    → (if again then Some Twice else option_or constant place) ≡ None
    → place ≡ None
not_twice true constant place none = absurd cc
not_twice false constant place none = (neither constant place none).1

pub are_free : (earlier : List Statement) (s : Statement)
    → first_pass_fault earlier s ≡ None
    → AreFree (is_placed earlier) (scope_after earlier).here (size_of s.body)
are_free earlier s none =
    let scope : Scope = scope_after earlier in
    let places : List ℕ = places_from scope.here (size_of s.body) in
    let both = free_places (list_all is_image_place places)
    (list_any (is_placed earlier) places)
    (not_odd (is_of_words s.body && not (scope.here % 2 == 0))
    (space_fault (is_placed earlier) places)
    (not_twice (gives_again scope s) (constant_fault scope s.body)
    (place_fault (is_placed earlier) scope s.body) none)) in
    record { placed = both.0; free = both.1 }

pub all_among : (test : ℕ → Bool) (first count place : ℕ)
    → list_all test (places_from first count) ≡ true
    → first ≤ place
    → place < first + count
    → test place ≡ true
all_among test first zero place all from below = absurd (omega arith)
all_among test first (suc count) place all from below =
    let both = and_parts (test first) (list_all test (places_from (first + 1) count)) all in
    elim (eqb_tells place first) [
      | inl same ↦ ap test same.1 ∙ both.0
      | inr other ↦
          all_among test (first + 1) count place both.1 (omega (arith, other.1)) (omega arith)
    ]

none_all : (test : ℕ → Bool) (places : List ℕ) → list_any test places ≡ false
    → list_all (λ place. not (test place)) places ≡ true
none_all test [] none = refl
none_all test (place ∷ places) none =
    let both = or_parts (test place) (list_any test places) none in
    and_from (not (test place)) (list_all (λ p. not (test p)) places)
    (not_from_false (test place) both.0) (none_all test places both.1)

none_among : (test : ℕ → Bool) (first count place : ℕ)
    → list_any test (places_from first count) ≡ false
    → first ≤ place
    → place < first + count
    → test place ≡ false
none_among test first count place none from below =
    not-true (test place)
    (all_among (λ p. not (test p)) first count place (none_all test (places_from first count) none)
    from below)

among_from : (first count place : ℕ) → is_among first count place ≡ true → first ≤ place
among_from first count place among = grind (arith, nat_tests)

among_below : (first count place : ℕ) → is_among first count place ≡ true → place < first + count
among_below first count place among = grind (arith, nat_tests)

pub among_between : (first count place : ℕ) → first ≤ place → place < first + count
    → is_among first count place ≡ true
among_between first count place from below = grind (arith, nat_tests)

-- what is taken is none of the places that are free
pub apart : (is_taken : ℕ → Bool) (first count place : ℕ) (among : Bool)
    → list_any is_taken (places_from first count) ≡ false
    → is_taken place ≡ true
    → is_among first count place ≡ among
    → among ≡ false
apart is_taken first count place false free takes is = refl
apart is_taken first count place true free takes is =
    let not_taken : is_taken place ≡ false =
    none_among is_taken first count place free (among_from first count place is)
    (among_below first count place is) in
    absurd cc

-- A byte that is placed stays.

apart_more : (first count place : ℕ) → is_among first (suc count) place ≡ false
    → is_among (first + 1) count place ≡ false
apart_more first count place apart = grind (arith, nat_tests)

first_among : (first count place : ℕ) → place ≡ first → is_among first (suc count) place ≡ true
first_among first count place same = grind (arith, nat_tests)

-- bytes are at none of the other places
byte_among-apart : (first : ℕ) (bytes : List ℕ) (place : ℕ)
    → is_among first (length bytes) place ≡ false
    → byte_among first bytes place ≡ None
byte_among-apart first [] place other = refl
byte_among-apart first (byte ∷ bytes) place other =
    elim (eqb_tells place first) [
      | inl same ↦
          let among = first_among first (length bytes) place same.1 in absurd cc
      | inr differs ↦
          rw differs.0
          (byte_among-apart (first + 1) bytes place (apart_more first (length bytes) place other))
    ]

byte_from-apart : (answer : Result (List ℕ) FaultKind) (first count place : ℕ)
    → IfOk answer (λ bytes. length bytes ≡ count)
    → is_among first count place ≡ false
    → byte_from first answer place ≡ None
byte_from-apart (Ok bytes) first count place is other =
    byte_among-apart first bytes place (ap (λ n. is_among first n place) is ∙ other)
byte_from-apart (Err kind) first count place is other = refl

-- a byte that is placed stays, since the places of later statements are free
pub stays : (all later earlier : List Statement) (place : ℕ)
    → first_fault first_pass_fault (later ++ earlier) ≡ None
    → is_placed earlier place ≡ true
    → (is_placed (later ++ earlier) place ≡ true)
    × (byte_placed all (later ++ earlier) place ≡ byte_placed all earlier place)
unfolding is_placed byte_placed
stays all [] earlier place none is_taken = (is_taken, refl)
stays all (s ∷ later) earlier place none is_taken =
    let before : List Statement = later ++ earlier in
    let scope : Scope = scope_after before in
    let count : ℕ = size_of s.body in
    let so_far = stays all later earlier place
    (neither (first_fault first_pass_fault before)
    (at_line s.line (first_pass_fault before s)) none).0 is_taken in
    let free = are_free before s (no_fault_at first_pass_fault [] before s none) in
    let other : is_among scope.here count place ≡ false =
    apart (is_placed before) scope.here count place (is_among scope.here count place)
    free.free so_far.0 refl in (
      ap (λ among. among || is_placed before place) other ∙ so_far.0,
      ap (λ byte. option_or byte (byte_placed all before place))
          (byte_from-apart (bytes_of (scope_among all before) s.body) scope.here count place
          (bytes_have_their_size (scope_among all before) s.body) other)
          ∙ so_far.1,
    )

byte_among-next : (first byte : ℕ) (bytes : List ℕ) (place : ℕ) → first + 1 ≤ place
    → byte_among first (byte ∷ bytes) place ≡ byte_among (first + 1) bytes place
byte_among-next first byte bytes place after =
    elim (eqb_tells place first) [
      | inl same ↦ absurd (omega (arith, same.1))
      | inr other ↦ rw other.0 refl
    ]

byte_among-first : (first byte : ℕ) (bytes : List ℕ)
    → byte_among first (byte ∷ bytes) first ≡ Some byte
byte_among-first first byte bytes =
    elim (eqb_tells first first) [
      | inl same ↦ rw same.0 refl
      | inr other ↦ absurd (other.1 refl)
    ]

-- bytes that an image has at their places stand in it
has_bytes : (image other : ℕ → Option ℕ) (first : ℕ) (bytes : List ℕ)
    → ((place : ℕ) → first ≤ place → place < first + length bytes
    → image place ≡ option_or (byte_among first bytes place) (other place))
    → HasBytes image first bytes
has_bytes image other first [] gives = tt
has_bytes image other first (byte ∷ bytes) gives = (
  gives first (omega arith) (omega arith)
      ∙ ap (λ value. option_or value (other first)) (byte_among-first first byte bytes),
  has_bytes image other (first + 1) bytes (λ place from below.
      gives place (omega arith) (omega arith)
      ∙ ap (λ value. option_or value (other place)) (byte_among-next first byte bytes place from)),
)

-- the bytes of a statement among others
stand_among : (all later earlier : List Statement) (s : Statement)
    (image : ℕ → Option ℕ) (answer : Result (List ℕ) FaultKind)
    → bytes_of (scope_among all earlier) s.body ≡ answer
    → result_err answer ≡ None
    → first_fault first_pass_fault (later ++ s ∷ earlier) ≡ None
    → ((place : ℕ) → is_image_place place ≡ true
    → image place ≡ byte_placed all (later ++ s ∷ earlier) place)
    → IsOkAnd answer (HasBytes image (scope_after earlier).here)
unfolding is_placed byte_placed
stand_among all later earlier s image (Err kind) is sound none gives = absurd cc
stand_among all later earlier s image (Ok bytes) is sound none gives =
    let here : ℕ = (scope_after earlier).here in
    let count : ℕ = size_of s.body in
    let size : length bytes ≡ count =
    subst (λ (answer : Result (List ℕ) FaultKind). IfOk answer (λ value. length value ≡ count)) is
    (bytes_have_their_size (scope_among all earlier) s.body) in
    let free = are_free earlier s (no_fault_at first_pass_fault later earlier s none) in
    has_bytes image (byte_placed all earlier) here bytes (λ place from below.
    let within : place < here + count = omega (arith, below, size) in
    let is_taken : is_placed (s ∷ earlier) place ≡ true =
    ap (λ among. among || is_placed earlier place) (among_between here count place from within)
    in
    gives place (all_among is_image_place here count place free.placed from within)
    ∙ (stays all later (s ∷ earlier) place none is_taken).1
    ∙ ap (λ value. option_or (byte_from here value place) (byte_placed all earlier place)) is)

-- an image that was made, and nothing was at fault
both : (fault : Option FaultAt) (bytes image : ℕ → Option ℕ) → value_or_fault fault bytes ≡ Ok image
    → (fault ≡ None) × (bytes ≡ image)
both None bytes image is = (refl, cc)
both (Some fault) bytes image is = absurd cc

-- statements with the newest first
cut : (before after : List Statement) (s : Statement)
    → reverse (before ++ s ∷ after) ≡ reverse after ++ s ∷ reverse before
cut before after s =
    reverse-append before (s ∷ after)
    ∙ ap (λ prefix. prefix ++ reverse before) (reverse-append (s ∷ []) after)
    ∙ append_assoc (reverse after) (s ∷ []) (reverse before)

pub statements_stand : (text : List ℕ) (image : ℕ → Option ℕ) → source_image text ≡ Ok image
    → OfEachStatement (HasBytesOf image) text
statements_stand text image is before after s answer =
    let statements : List Statement = before ++ s ∷ after in
    let all : List Statement = reverse statements in
    let earlier : List Statement = reverse before in
    let later : List Statement = reverse after in
    let whole = both (fault_of statements) (byte_of_image statements) image
    (ap (λ value. value >>= image_of) (sym answer) ∙ is) in
    let sound = neither (first_fault first_pass_fault all)
    (first_fault (second_pass_fault all) all) whole.0 in
    stand_among all later earlier s image (bytes_of (scope_among all earlier) s.body) refl
    (no_fault_at (second_pass_fault all) later earlier s
    (ap (first_fault (second_pass_fault all)) (sym (cut before after s)) ∙ sound.1))
    (ap (first_fault first_pass_fault) (sym (cut before after s)) ∙ sound.0)
    (λ place is_placed.
    ap (λ (bytes : ℕ → Option ℕ). bytes place) (sym whole.1)
    ∙ ap (λ test. if test then byte_placed all all place else None) is_placed
    ∙ ap (λ lines. byte_placed all lines place) (cut before after s))

-- an instruction whose bytes stand, and whose words are read as it
named_stands : (image : ℕ → Option ℕ) (place : ℕ) (result : Result Instr FaultKind)
    → ((it : Instr) → result ≡ Ok it → AreReadAs (words_of it) it)
    → IsOkAnd (result >>= (λ it. Ok (flat_map word_bytes (words_of it)))) (HasBytes image place)
    → IsOkAnd result (HasInstruction image place)
named_stands image place (Ok it) are_read stands =
    record { bytes = stands; read = are_read it refl }
named_stands image place (Err kind) are_read stands = stands

instruction_stands : (image : ℕ → Option ℕ) (scope : Scope) (body : Body)
    → ((it : Instr) → IsNamed scope body it → AreReadAs (words_of it) it)
    → HasBytesOf image scope body
    → HasInstructionOf image scope body
instruction_stands image scope (Instruction mnemonic size first second) are_read stands =
    named_stands image scope.here (named_instruction scope mnemonic size first second)
    are_read stands
instruction_stands image scope Empty are_read stands = tt
instruction_stands image scope (Org expr) are_read stands = tt
instruction_stands image scope (Word exprs) are_read stands = tt
instruction_stands image scope (Byte exprs) are_read stands = tt
instruction_stands image scope (Ascii text) are_read stands = tt
instruction_stands image scope (Equ name expr) are_read stands = tt

pub instructions_stand : ((scope : Scope) (body : Body) (it : Instr) → IsNamed scope body it
    → AreReadAs (words_of it) it)
    → (text : List ℕ) (image : ℕ → Option ℕ)
    → source_image text ≡ Ok image
    → OfEachStatement (HasInstructionOf image) text
instructions_stand are_read text image is before after s answer =
    let scope : Scope = scope_among (reverse (before ++ s ∷ after)) (reverse before) in
    instruction_stands image scope s.body (are_read scope s.body)
    (statements_stand text image is before after s answer)

-- what holds of each statement in the image of a source, holds in the one that was made
pub of_image : (Holds : (ℕ → Option ℕ) → Scope → Body → Type 0) (text : List ℕ)
    (result : Result Image TextFault)
    → Reads (value_as byte_in result) (source_image text)
    → ((image : ℕ → Option ℕ) → source_image text ≡ Ok image
    → OfEachStatement (Holds image) text)
    → IfOk result (λ image. OfEachStatement (Holds (byte_in image)) text)
of_image Holds text (Ok image) reads holds = holds (byte_in image) reads
of_image Holds text (Err fault) reads holds = tt
