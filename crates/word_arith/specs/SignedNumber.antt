-- Operands as signed numbers, and what the flags of a sum and of a comparison say of them.
use Rattle.std.specs.Prelude.{◌≡◌, ◌↔◌, ◌<◌, ◌≤◌, ◌+ℤ◌, ◌-ℤ◌, ◌<ℤ◌, ℕ, ℤ, pos, Bool, IsTrue, IsFalse, if◌then◌else◌}
use Rattle.word_arith.specs.{declared.{size.Size.Size, flags.Flags.Flags, op2.Op2.TheVariants.Cmp}, Number.{modulus, is_negative, bit_of, alike}, Sum.sum_of, Op2.alu_of}

-- the number that an operand stands for in two's complement
abbrev pub signed_value : Size → ℕ → ℤ
signed_value size operand =
    if is_negative size operand then pos operand -ℤ pos (modulus size) else pos operand

-- V is clear exactly where the result stands for the sum of the signed operands and the carry
abbrev pub OverflowIsSigned : Type 0
OverflowIsSigned =
    (size : Size) (left right : ℕ) (carry : Bool)
    → left < modulus size
    → right < modulus size
    → IsFalse ((sum_of size left right carry).1.v)
    ↔ (signed_value size (sum_of size left right carry).0 ≡
    signed_value size left +ℤ signed_value size right +ℤ pos (bit_of carry))

-- after CMP, Z says that the operands are equal, C that the destination is not below the source,
-- and unlike N and V that it is below the source as a signed number
abbrev pub ComparisonOrders : Type 0
ComparisonOrders =
    (size : Size) (src dst : ℕ) (before : Flags)
    → src < modulus size
    → dst < modulus size
    → (IsTrue (alu_of Cmp size src dst before).1.z ↔ (dst ≡ src))
    × (IsTrue (alu_of Cmp size src dst before).1.c ↔ (src ≤ dst))
    × (IsFalse (alike (alu_of Cmp size src dst before).1.n (alu_of Cmp size src dst before).1.v)
    ↔ (signed_value size dst <ℤ signed_value size src))
