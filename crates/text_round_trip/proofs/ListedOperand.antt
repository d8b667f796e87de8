-- The operands of a listing, read again.
use Rattle.std.{proofs.{Common.{◌≡◌, ap, refl, ℕ, ◌<◌, arith, Bool, true, false, List, [], ◌∷◌, ℤ, pos, negsuc, Some, Ok}, lemmas.Bool.{le-leb, false≢true}, Math.IntN.+ℤ_idr}, specs.Prelude.codes}
use Rattle.hex.specs.Hex.{encode_with}
use Rattle.word_arith.specs.declared.size.Size.{Size}
use Rattle.msp_decode.specs.{declared.{reg.Reg.{Reg, TheVariants.{R2, R3}}, constant.Gen.Gen, source.Source.Source, dest.Dest.Dest}, Completion.source_form, Spelling.{has_form, takes_result}}
use Rattle.msp_decode.specs.declared.constant.Gen.TheVariants as gen
use Rattle.msp_decode.specs.declared.source.Source.TheVariants as source
use Rattle.msp_decode.specs.declared.dest.Dest.TheVariants as dest
use Rattle.asm_text.specs.{declared.{operand.Operand.{Operand, TheVariants.{Reg as RegOperand, Imm, Abs, Indexed, Indirect, IndirectInc}}, token.Token.{Token, TheVariants.{Number, Register, Hash, Ampersand, At, Plus, Minus, Open, Close}}}, Expr.SignedTerm, Operand.terms_of, Statement.{is_source, is_modified, is_destination}}
use Rattle.asm_text.specs.declared.term.Term.TheVariants as terms
use Rattle.msp_asm.specs.{Operand.{expr_in, source_of, dest_of}, Value.{Scope, value as value_of}, ItemText.{word_text, indexed_text, constant_text, source_text, dest_text}}
use Rattle.text_round_trip.{specs.Listing.source_again, proofs.{Falls.{FallsInto, falls-then, falls-apart, falls-into, hash-falls, ampersand-falls, at-falls, plus-falls, minus-falls, open-falls, close-falls}, Numerals.{number-falls, word_text-number}, Operands.IsOperandOf, Words.register-falls}}

-- the expression of a number
abbrev pub number_expr : ℕ → List SignedTerm
number_expr number = (false, terms.Number number) ∷ []

-- indexed by R2 is absolute
abbrev indexed_tokens : Reg → ℕ → List Token
indexed_tokens R2 index = Ampersand ∷ Number index ∷ []
indexed_tokens register index = Number index ∷ Open ∷ Register register ∷ Close ∷ []

abbrev indexed_operand : Reg → ℕ → Operand
indexed_operand R2 index = Abs (number_expr index)
indexed_operand register index = Indexed (number_expr index) register

pub word-falls : (word : ℕ) → word < 65536 → FallsInto (word_text word) (Number word ∷ [])
word-falls word below = number-falls (word_text word) word (word_text-number word below)

indexed-falls : (register : Reg) (index : ℕ) → index < 65536
    → FallsInto (indexed_text register index) (indexed_tokens register index)
unfolding encode_with
indexed-falls R2 index below = falls-then ampersand-falls (word-falls index below)
indexed-falls register index below =
    falls-apart (word-falls index below) refl
    (falls-then open-falls (falls-apart (register-falls register) refl (falls-into close-falls)))

-- a constant is a number, of which 1 is subtracted for -1
abbrev constant_number : Gen → ℕ
constant_number gen.Zero = 0
constant_number gen.One = 1
constant_number gen.Two = 2
constant_number gen.Four = 4
constant_number gen.Eight = 8
constant_number gen.MinusOne = 1

abbrev is_negative : Gen → Bool
is_negative gen.MinusOne = true
is_negative constant = false

abbrev constant_tokens : Gen → List Token
constant_tokens gen.MinusOne = Hash ∷ Minus ∷ Number 1 ∷ []
constant_tokens constant = Hash ∷ Number (constant_number constant) ∷ []

constant-falls : (constant : Gen)
    → FallsInto (constant_text constant) (constant_tokens constant)
constant-falls gen.Zero = falls-then hash-falls (number-falls (codes "0") 0 refl)
constant-falls gen.One = falls-then hash-falls (number-falls (codes "1") 1 refl)
constant-falls gen.Two = falls-then hash-falls (number-falls (codes "2") 2 refl)
constant-falls gen.Four = falls-then hash-falls (number-falls (codes "4") 4 refl)
constant-falls gen.Eight = falls-then hash-falls (number-falls (codes "8") 8 refl)
constant-falls gen.MinusOne =
    falls-then hash-falls (falls-then minus-falls (number-falls (codes "1") 1 refl))

abbrev pub source_tokens : Source → List Token
source_tokens (source.Reg register) = Register register ∷ []
source_tokens (source.Indexed register index) = indexed_tokens register index
source_tokens (source.Indirect register) = At ∷ Register register ∷ []
source_tokens (source.IndirectInc register) = At ∷ Register register ∷ Plus ∷ []
source_tokens (source.Immediate word) = Hash ∷ Number word ∷ []
source_tokens (source.Constant constant) = constant_tokens constant

abbrev pub source_operand : Source → Operand
source_operand (source.Reg register) = RegOperand register
source_operand (source.Indexed register index) = indexed_operand register index
source_operand (source.Indirect register) = Indirect register
source_operand (source.IndirectInc register) = IndirectInc register
source_operand (source.Immediate word) = Imm (number_expr word)
source_operand (source.Constant constant) =
    Imm ((is_negative constant, terms.Number (constant_number constant)) ∷ [])

abbrev pub dest_tokens : Dest → List Token
dest_tokens (dest.Reg register) = Register register ∷ []
dest_tokens (dest.Indexed register index) = indexed_tokens register index

abbrev pub dest_operand : Dest → Operand
dest_operand (dest.Reg register) = RegOperand register
dest_operand (dest.Indexed register index) = indexed_operand register index

-- the extension word is a word
abbrev pub FitsSource : Source → Type 0
FitsSource (source.Indexed register index) = index < 65536
FitsSource (source.Immediate word) = word < 65536
FitsSource source = Unit {0}

abbrev pub FitsDest : Dest → Type 0
FitsDest (dest.Reg register) = Unit {0}
FitsDest (dest.Indexed register index) = index < 65536

pub source-falls : (source : Source) → FitsSource source
    → FallsInto (source_text source) (source_tokens source)
source-falls (source.Reg register) fits = register-falls register
source-falls (source.Indexed register index) fits = indexed-falls register index fits
source-falls (source.Indirect register) fits = falls-then at-falls (register-falls register)
source-falls (source.IndirectInc register) fits =
    falls-then at-falls (falls-apart (register-falls register) refl (falls-into plus-falls))
source-falls (source.Immediate word) fits = falls-then hash-falls (word-falls word fits)
source-falls (source.Constant constant) fits = constant-falls constant

pub dest-falls : (dest : Dest) → FitsDest dest
    → FallsInto (dest_text dest) (dest_tokens dest)
dest-falls (dest.Reg register) fits = register-falls register
dest-falls (dest.Indexed register index) fits = indexed-falls register index fits

indexed-read : (register : Reg) (index : ℕ)
    → IsOperandOf (indexed_tokens register index) (indexed_operand register index)
unfolding terms_of
indexed-read R2 index =
    record { some = omega arith; alone = refl; read = refl; begins = λ rest. refl }
indexed-read register index =
    record { some = omega arith; alone = refl; read = refl; begins = λ rest. refl }

constant-read : (constant : Gen)
    → IsOperandOf (constant_tokens constant) (source_operand (source.Constant constant))
unfolding terms_of
constant-read gen.MinusOne =
    record { some = omega arith; alone = refl; read = refl; begins = λ rest. refl }
constant-read constant =
    record { some = omega arith; alone = refl; read = refl; begins = λ rest. refl }

pub source-read : (source : Source) → IsOperandOf (source_tokens source) (source_operand source)
unfolding terms_of
source-read (source.Reg register) =
    record { some = omega arith; alone = refl; read = refl; begins = λ rest. refl }
source-read (source.Indexed register index) = indexed-read register index
source-read (source.Indirect register) =
    record { some = omega arith; alone = refl; read = refl; begins = λ rest. refl }
source-read (source.IndirectInc register) =
    record { some = omega arith; alone = refl; read = refl; begins = λ rest. refl }
source-read (source.Immediate word) =
    record { some = omega arith; alone = refl; read = refl; begins = λ rest. refl }
source-read (source.Constant constant) = constant-read constant

pub dest-read : (dest : Dest) → IsOperandOf (dest_tokens dest) (dest_operand dest)
dest-read (dest.Reg register) =
    record { some = omega arith; alone = refl; read = refl; begins = λ rest. refl }
dest-read (dest.Indexed register index) = indexed-read register index

-- the forms that a legal source and a destination have
pub source-form : (source : Source) → has_form (source_form source) ≡ true
    → is_source (source_operand source) ≡ true
source-form (source.Indexed R3 index) form = absurd (false≢true form)
source-form (source.Indirect register) form = form
source-form (source.IndirectInc register) form = form
source-form source form = refl

pub source-modified : (source : Source) → has_form (source_form source) ≡ true
    → takes_result (source_form source) ≡ true → is_modified (source_operand source) ≡ true
source-modified (source.Reg register) form takes = form
source-modified (source.Indexed R2 index) form takes = refl
source-modified (source.Indexed R3 index) form takes = absurd (false≢true form)
source-modified (source.Indexed register index) form takes = refl
source-modified (source.Indirect register) form takes = form
source-modified (source.IndirectInc register) form takes = form
source-modified (source.Immediate word) form takes = absurd (false≢true takes)
source-modified (source.Constant constant) form takes = absurd (false≢true takes)

pub dest-form : (dest : Dest) → is_destination (dest_operand dest) ≡ true
dest-form (dest.Reg register) = refl
dest-form (dest.Indexed R2 index) = refl
dest-form (dest.Indexed register index) = refl

-- the value of a number
pub number-value : (scope : Scope) (number : ℕ)
    → value_of scope (number_expr number) ≡ Some (pos number)
number-value scope number = ap (λ (n : ℤ). Some n) (+ℤ_idr (pos number))

-- a source of a listing as the assembler reads it
pub record IsSourceAgain (scope : Scope) (size : Size) (at : ℕ) (source : Source) : Type 0 where
  pub value : ℤ
  pub valued : value_of scope (expr_in (Some (source_operand source))) ≡ Some value
  pub read : source_of size at (Some (source_operand source)) value ≡ source_again size source

indexed-again : (scope : Scope) (size : Size) (at : ℕ) (register : Reg) (index : ℕ)
    → index < 65536 → has_form (source_form (source.Indexed register index)) ≡ true
    → IsSourceAgain scope size at (source.Indexed register index)
indexed-again scope size at R2 index fits form = record {
  value = pos index;
  valued = number-value scope index;
  read = rw (le-leb index 65535 (omega arith)) refl;
}
indexed-again scope size at R3 index fits form = absurd (false≢true form)
indexed-again scope size at register index fits form = record {
  value = pos index;
  valued = number-value scope index;
  read = rw (le-leb index 65535 (omega arith)) refl;
}

register-again : (scope : Scope) (size : Size) (at : ℕ) (register : Reg)
    → has_form (source_form (source.Reg register)) ≡ true
    → IsSourceAgain scope size at (source.Reg register)
register-again scope size at R3 form = absurd (false≢true form)
register-again scope size at register form =
    record { value = pos 0; valued = refl; read = refl }

constant-again : (scope : Scope) (size : Size) (at : ℕ) (constant : Gen)
    → IsSourceAgain scope size at (source.Constant constant)
constant-again scope size at gen.MinusOne = record { value = negsuc 0; valued = refl; read = refl }
constant-again scope size at constant =
    record { value = pos (constant_number constant); valued = refl; read = refl }

pub source-again : (scope : Scope) (size : Size) (at : ℕ) (source : Source) → FitsSource source
    → has_form (source_form source) ≡ true → IsSourceAgain scope size at source
source-again scope size at (source.Reg register) fits form =
    register-again scope size at register form
source-again scope size at (source.Indexed register index) fits form =
    indexed-again scope size at register index fits form
source-again scope size at (source.Indirect register) fits form =
    record { value = pos 0; valued = refl; read = rw form refl }
source-again scope size at (source.IndirectInc register) fits form =
    record { value = pos 0; valued = refl; read = rw form refl }
source-again scope size at (source.Immediate word) fits form =
    record { value = pos word; valued = number-value scope word; read = refl }
source-again scope size at (source.Constant constant) fits form =
    constant-again scope size at constant

-- a destination of a listing as the assembler reads it
pub record IsDestAgain (scope : Scope) (at : ℕ) (dest : Dest) : Type 0 where
  pub value : ℤ
  pub valued : value_of scope (expr_in (Some (dest_operand dest))) ≡ Some value
  pub read : dest_of at (Some (dest_operand dest)) value ≡ Ok dest

pub dest-again : (scope : Scope) (at : ℕ) (dest : Dest) → FitsDest dest
    → IsDestAgain scope at dest
dest-again scope at (dest.Reg register) fits =
    record { value = pos 0; valued = refl; read = refl }
dest-again scope at (dest.Indexed R2 index) fits = record {
  value = pos index;
  valued = number-value scope index;
  read = rw (le-leb index 65535 (omega arith)) refl;
}
dest-again scope at (dest.Indexed register index) fits = record {
  value = pos index;
  valued = number-value scope index;
  read = rw (le-leb index 65535 (omega arith)) refl;
}
