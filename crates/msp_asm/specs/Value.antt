-- The value of an expression.
use Rattle.std.specs.{Prelude.{◌+ℤ◌, ◌-◌, ℕ, ℤ, pos, negsuc, neg_ℤ, Bool, nat_le, nat_lt, List, [], ◌∷◌, if◌then◌else◌, Option, Some, None, Result, Ok, Err}, Ordering.nat_cmp, Cmp.Lexicographic.slice_cmp, BTreeMap.get_by}
use Rattle.text_scan.specs.{declared.fault_kind.FaultKind.{FaultKind, TheVariants.{Undefined, Range}}, Reader.◌>>=◌}
use Rattle.asm_text.specs.{declared.term.Term.{Term, TheVariants.{Number, Name, Here}}, Expr.SignedTerm}
use Rattle.msp_asm.specs.declared.{scope.Scope.Scope as ScopeOf, names.Names.Names}

-- what an expression is read in: the values of names, and the address of the statement's first byte
pub record Scope : Type 0 where
  pub names : List ℕ → Option ℤ
  pub here : ℕ

-- the value of a term; a name may have none
abbrev pub term_value : Scope → Term → Option ℤ
term_value scope (Number n) = Some (pos n)
term_value scope (Name name) = scope.names name
term_value scope Here = Some (pos scope.here)

-- a value with its sign turned, where it is subtracted
abbrev pub with_sign : Bool → ℤ → ℤ
with_sign is_subtracted value = if is_subtracted then neg_ℤ value else value

-- one term more
abbrev pub with_term : Bool → Option ℤ → Option ℤ → Option ℤ
with_term is_subtracted None rest = None
with_term is_subtracted (Some value) None = None
with_term is_subtracted (Some value) (Some rest) = Some (with_sign is_subtracted value +ℤ rest)

-- the value of an expression, which it has where each of its names has one
abbrev pub value : Scope → List SignedTerm → Option ℤ
value scope [] = Some (pos 0)
value scope (term ∷ terms) = with_term term.0 (term_value scope term.1) (value scope terms)

-- the value, or the fault that there is none
abbrev pub known_value : Option ℤ → Result ℤ FaultKind
known_value None = Err Undefined
known_value (Some value) = Ok value

-- a value from -least to most, modulo a number above both
abbrev pub value_in_range : ℕ → ℕ → ℕ → ℤ → Result ℕ FaultKind
value_in_range least most base (pos n) = if nat_le n most then Ok n else Err Range
value_in_range least most base (negsuc n) = if nat_lt n least then Ok (base - 1 - n) else Err Range

-- the ranges of expressions: addresses, words, bytes, and immediates of byte instructions, which
-- are placed as words
abbrev pub address_of : ℤ → Result ℕ FaultKind
address_of value = value_in_range 0 65535 65536 value

abbrev pub word_of : ℤ → Result ℕ FaultKind
word_of value = value_in_range 32768 65535 65536 value

abbrev pub byte_of : ℤ → Result ℕ FaultKind
byte_of value = value_in_range 128 255 256 value

abbrev pub byte_immediate_of : ℤ → Result ℕ FaultKind
byte_immediate_of value = value_in_range 128 255 65536 value

-- what a function gives of each item, or its first fault
abbrev pub each : {A B : Type 0} → (A → Result B FaultKind) → List A → Result (List B) FaultKind
each f [] = Ok []
each f (item ∷ items) = do
  first ← f item
  rest ← each f items
  Ok (first ∷ rest)

-- What an expression of the program is read in.

-- The names of a source as a function.

-- the value of a name, if it has one
abbrev pub value_in : Names → List ℕ → Option ℤ
value_in names name = get_by (λ k. slice_cmp nat_cmp name k.now) names.values

abbrev pub scope_in : ScopeOf → Scope
scope_in scope = record { names = value_in scope.names.now; here = scope.here }
