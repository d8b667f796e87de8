-- Operations of two operands: result and flags, one line an operation.
use Rattle.std.specs.Prelude.{ℕ, Bool, true, false, not, ◌&&◌, ◌==◌, bit_and, bit_or, bit_xor}
use Rattle.word_arith.specs.{declared.{size.Size.Size, flags.Flags.Flags, op2.Op2.{Op2, TheVariants.{Mov, Add, Addc, Subc, Sub, Cmp, Dadd, Bit, Bic, Bis, Xor, And}}}, Number.{low_part, inverse, is_negative, Word16}, Flags.result_flags, Sum.sum_of, Decimal.decimal_sum}

-- a result whose carry says that it is not 0
abbrev pub test_of : Size → ℕ → Bool → ℕ × Flags
test_of size outcome overflow = (outcome, result_flags size outcome (not (outcome == 0)) overflow)

-- the decimal sum; C is its last decimal carry, and V is left
abbrev pub dadd_of : Size → ℕ → ℕ → Flags → ℕ × Flags
dadd_of size src dst flags =
    let sum : ℕ × Bool = decimal_sum size src dst flags.c in
    (sum.0, result_flags size sum.0 sum.1 flags.v)

-- result and flags for operands of the size
abbrev pub alu_of : Op2 → Size → ℕ → ℕ → Flags → ℕ × Flags
alu_of Mov size src dst flags = (src, flags)
alu_of Add size src dst flags = sum_of size dst src false
alu_of Addc size src dst flags = sum_of size dst src flags.c
alu_of Subc size src dst flags = sum_of size dst (inverse size src) flags.c
alu_of Sub size src dst flags = sum_of size dst (inverse size src) true
alu_of Cmp size src dst flags = sum_of size dst (inverse size src) true
alu_of Dadd size src dst flags = dadd_of size src dst flags
alu_of Bit size src dst flags = test_of size (bit_and dst src) false
alu_of Bic size src dst flags = (bit_and dst (inverse size src), flags)
alu_of Bis size src dst flags = (bit_or dst src, flags)
alu_of Xor size src dst flags =
    test_of size (bit_xor dst src) (is_negative size src && is_negative size dst)
alu_of And size src dst flags = test_of size (bit_and dst src) false

-- result and flags for words, of which a byte operation takes the low bytes
unfoldable pub alu_result : Op2 → Size → Word16 → Word16 → Flags → ℕ × Flags
alu_result op size src dst flags = alu_of op size (low_part size src) (low_part size dst) flags
