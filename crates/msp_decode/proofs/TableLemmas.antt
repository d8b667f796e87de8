-- Each table of fields and its reading undo each other.
use Rattle.std.{proofs.{Common.{◌≡◌, ℕ, ◌<◌, ◌≤◌, ℤ, refl, arith}, lemmas.{Int.ints, Bool.Decides.nat_tests}}, specs.Prelude.IsTrue}
use Rattle.word_arith.specs.{declared.{size.Size.Size, op2.Op2.Op2}}
use Rattle.msp_decode.specs.{declared.{reg.Reg.Reg, one.One.One, cond.Cond.Cond, source_form.SourceForm.{SourceForm, TheVariants.{Register, Indexed, Indirect, IndirectInc, Immediate, Constant}}, dest_form.DestForm.DestForm}, Table.{reg_number, op2_number, one_number, cond_number, size_number, source_mode, source_register, dest_mode, dest_register, offset_number}, Field.{reg_of, op2_of, one_of, cond_of, size_of_bit, source_of, dest_of, offset_of}, Spelling.{has_form, has_range}}

pub reg_of-reg_number : (x : Reg) → reg_of (reg_number x) ≡ x
reg_of-reg_number x = grind (arith, nat_tests)

pub reg_number-lt : (x : Reg) → reg_number x < 16
reg_number-lt x = grind arith

pub reg_number-reg_of : (n : ℕ) → n < 16 → reg_number (reg_of n) ≡ n
reg_number-reg_of n fits = grind (arith, nat_tests)

pub op2_of-op2_number : (x : Op2) → op2_of (op2_number x) ≡ x
op2_of-op2_number x = grind (arith, nat_tests)

pub op2_number-lt : (x : Op2) → op2_number x < 16
op2_number-lt x = grind arith

pub op2_number-le : (x : Op2) → 4 ≤ op2_number x
op2_number-le x = grind arith

pub op2_number-op2_of : (n : ℕ) → 4 ≤ n → n < 16 → op2_number (op2_of n) ≡ n
op2_number-op2_of n least fits = grind (arith, nat_tests)

pub one_of-one_number : (x : One) → one_of (one_number x) ≡ x
one_of-one_number x = grind (arith, nat_tests)

pub one_number-lt : (x : One) → one_number x < 6
one_number-lt x = grind arith

pub one_number-one_of : (n : ℕ) → n < 6 → one_number (one_of n) ≡ n
one_number-one_of n fits = grind (arith, nat_tests)

pub cond_of-cond_number : (x : Cond) → cond_of (cond_number x) ≡ x
cond_of-cond_number x = grind (arith, nat_tests)

pub cond_number-lt : (x : Cond) → cond_number x < 8
cond_number-lt x = grind arith

pub cond_number-cond_of : (n : ℕ) → n < 8 → cond_number (cond_of n) ≡ n
cond_number-cond_of n fits = grind (arith, nat_tests)

pub size_of_bit-size_number : (x : Size) → size_of_bit (size_number x) ≡ x
size_of_bit-size_number x = grind (arith, nat_tests)

pub size_number-lt : (x : Size) → size_number x < 2
size_number-lt x = grind arith

pub size_number-size_of_bit : (n : ℕ) → n < 2 → size_number (size_of_bit n) ≡ n
size_number-size_of_bit n fits = grind (arith, nat_tests)

pub source_mode-lt : (s : SourceForm) → source_mode s < 4
source_mode-lt s = grind arith

pub source_register-lt : (s : SourceForm) → source_register s < 16
source_register-lt s = grind (arith, reg_number-lt)

-- a source that has a form is read back from its fields
pub source_of-fields : (s : SourceForm) → IsTrue (has_form s)
    → source_of (source_mode s) (source_register s) ≡ s
source_of-fields (Register r) is_formed = grind (arith, nat_tests, reg_of-reg_number)
source_of-fields (Indexed r) is_formed = grind (arith, nat_tests, reg_of-reg_number)
source_of-fields (Indirect r) is_formed = grind (arith, nat_tests, reg_of-reg_number)
source_of-fields (IndirectInc r) is_formed = grind (arith, nat_tests, reg_of-reg_number)
source_of-fields Immediate is_formed = refl
source_of-fields (Constant g) is_formed = grind arith

pub source_mode-source_of : (mode n : ℕ) → mode < 4 → source_mode (source_of mode n) ≡ mode
source_mode-source_of mode n mode_fits = grind (arith, nat_tests)

pub source_register-source_of : (mode n : ℕ) → n < 16 → source_register (source_of mode n) ≡ n
source_register-source_of mode n fits = grind (arith, nat_tests, reg_number-reg_of)

pub has_form-source_of : (mode n : ℕ) → mode < 4 → n < 16 → IsTrue (has_form (source_of mode n))
has_form-source_of mode n mode_fits fits = grind (arith, nat_tests, reg_number-reg_of)

pub dest_mode-lt : (d : DestForm) → dest_mode d < 2
dest_mode-lt d = grind arith

pub dest_register-lt : (d : DestForm) → dest_register d < 16
dest_register-lt d = grind (arith, reg_number-lt)

pub dest_of-fields : (d : DestForm) → dest_of (dest_mode d) (dest_register d) ≡ d
dest_of-fields d = grind (arith, nat_tests, reg_of-reg_number)

pub dest_mode-dest_of : (mode n : ℕ) → mode < 2 → dest_mode (dest_of mode n) ≡ mode
dest_mode-dest_of mode n mode_fits = grind (arith, nat_tests)

pub dest_register-dest_of : (mode n : ℕ) → n < 16 → dest_register (dest_of mode n) ≡ n
dest_register-dest_of mode n fits = grind (arith, nat_tests, reg_number-reg_of)

pub offset_number-lt : (z : ℤ) → IsTrue (has_range z) → offset_number z < 1024
offset_number-lt z fits = grind (arith, nat_tests)

pub offset_of-offset_number : (z : ℤ) → IsTrue (has_range z) → offset_of (offset_number z) ≡ z
offset_of-offset_number z fits = grind (arith, nat_tests, ints)

pub offset_number-offset_of : (n : ℕ) → n < 1024 → offset_number (offset_of n) ≡ n
offset_number-offset_of n fits = grind (arith, nat_tests, ints)

pub has_range-offset_of : (n : ℕ) → n < 1024 → IsTrue (has_range (offset_of n))
has_range-offset_of n fits = grind (arith, nat_tests, ints)
