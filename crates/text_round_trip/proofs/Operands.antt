-- Operands between commas.
use Rattle.std.{proofs.{Common.{◌≡◌, ◌∙◌, ap, sym, refl, ◌<◌, arith, Bool, true, false, not, List, [], ◌∷◌, ◌++◌, append-nil, length, get_or, Result, Ok}, lemmas.{Bool.and_parts, List.{Sums.AllPass-from_list_all, Splits.{slice_split_none, slice_split_at}}}}, specs.{Prelude.{map, All}, List.{list_all, slice_split}}}
use borrow.Author.Tests.{not-true}
use Rattle.text_scan.specs.{declared.fault_kind.FaultKind.FaultKind, Reader.◌>>=◌}
use Rattle.asm_text.specs.{declared.{operand.Operand.Operand, token.Token.{Token, TheVariants.Comma}}, Operand.{is_comma, parts_of, operand_of, operands_of, all_of}}
use Rattle.text_round_trip.proofs.Words.{begins_with_colon}

-- tokens between commas
abbrev pub has_no_comma : List Token → Bool
has_no_comma tokens = list_all (λ token. not (is_comma token)) tokens

-- parts with commas between them
unfoldable pub joint_tokens : List Token → List (List Token) → List Token
joint_tokens first [] = first
joint_tokens first (next ∷ rest) = first ++ Comma ∷ joint_tokens next rest

none-comma : (tokens : List Token) → has_no_comma tokens ≡ true
    → All (λ token. is_comma token ≡ false) tokens
none-comma tokens all k d below =
    not-true (is_comma (get_or tokens k d))
    (AllPass-from_list_all (λ token. not (is_comma token)) tokens all k d below)

pub split-joint : (first : List Token) (rest : List (List Token)) → has_no_comma first ≡ true
    → list_all has_no_comma rest ≡ true
    → slice_split is_comma (joint_tokens first rest) ≡ first ∷ rest
unfolding joint_tokens
split-joint first [] alone all = slice_split_none is_comma first (none-comma first alone)
split-joint first (next ∷ rest) alone all =
    let parts = and_parts (has_no_comma next) (list_all has_no_comma rest) all in
    slice_split_at is_comma first Comma (joint_tokens next rest) (none-comma first alone) refl
    ∙ ap (λ (answer : List (List Token)). first ∷ answer) (split-joint next rest parts.0 parts.1)

parts-some : (tokens : List Token) → 0 < length tokens
    → parts_of tokens ≡ slice_split is_comma tokens
parts-some [] some = absurd (omega arith)
parts-some (token ∷ tokens) some = refl

length-joint : (first : List Token) (rest : List (List Token)) → 0 < length first
    → 0 < length (joint_tokens first rest)
unfolding joint_tokens
length-joint [] rest some = absurd (omega arith)
length-joint (token ∷ first) [] some = omega arith
length-joint (token ∷ first) (next ∷ rest) some = omega arith

all-ok : {Value Fault : Type 0} (values : List Value)
    → all_of {Value = Value} {Fault = Fault} (map Ok values) ≡ Ok values
all-ok [] = refl
all-ok {Value} {Fault} (value ∷ values) =
    ap (λ (list : Result (List Value) Fault). list >>= (λ all. Ok (value ∷ all))) (all-ok values)

-- operands are read part by part
pub joint-read : (first : List Token) (rest : List (List Token)) (operands : List Operand)
    → 0 < length first → has_no_comma first ≡ true → list_all has_no_comma rest ≡ true
    → map operand_of (first ∷ rest) ≡ map Ok operands
    → operands_of (joint_tokens first rest) ≡ Ok operands
joint-read first rest operands some alone all each =
    ap (λ (parts : List (List Token)). all_of (map operand_of parts))
    (parts-some (joint_tokens first rest) (length-joint first rest some)
    ∙ split-joint first rest alone all)
    ∙ ap all_of each ∙ all-ok operands

-- what tokens are read as, and how they stand beside others
pub record IsOperandOf (tokens : List Token) (operand : Operand) : Type 0 where
  pub some : 0 < length tokens
  pub alone : has_no_comma tokens ≡ true
  pub read : operand_of tokens ≡ Ok operand
  pub begins : (rest : List Token) → begins_with_colon (tokens ++ rest) ≡ false

pub no_colon-first : {tokens : List Token} {operand : Operand} → IsOperandOf tokens operand
    → begins_with_colon tokens ≡ false
no_colon-first {tokens = tokens} is =
    ap begins_with_colon (sym (append-nil tokens)) ∙ is.begins []

-- one operand alone, and two
pub one-read : {tokens : List Token} {operand : Operand} → IsOperandOf tokens operand
    → operands_of tokens ≡ Ok (operand ∷ [])
unfolding joint_tokens
one-read {tokens = tokens} {operand = operand} is =
    joint-read tokens [] (operand ∷ []) is.some is.alone refl
    (ap (λ (first : Result Operand FaultKind). first ∷ []) is.read)

pub two-read : {first second : List Token} {one two : Operand} → IsOperandOf first one
    → IsOperandOf second two → operands_of (first ++ Comma ∷ second) ≡ Ok (one ∷ two ∷ [])
unfolding joint_tokens
two-read {first = first} {second = second} {one = one} {two = two} is next =
    joint-read first (second ∷ []) (one ∷ two ∷ []) is.some is.alone (rw next.alone refl)
    (rw (is.read, next.read) refl)
