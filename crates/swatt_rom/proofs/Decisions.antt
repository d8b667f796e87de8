-- What a call decides, and the counter of its request.
use Rattle.std.{proofs.Common.{◌≡◌, ◌+◌, ◌*◌, ◌∷◌, [], ℕ, false, not, List, length, ap, sym, arith}, specs.{Prelude.{nat_le, if◌then◌else◌, slice_index}, Str.bytes_eq}}
use Rattle.part_definitions.specs.{Metadata.{counter_in, token_in, little_endian}, Request.{request_decision, right_token}}

pub token_differs : (digest : List ℕ → List ℕ) (key metadata kept : List ℕ)
    → bytes_eq (token_in metadata) (right_token digest key metadata) ≡ false
    → 3 ≡ request_decision digest key metadata kept
token_differs digest key metadata kept differs =
    ap (λ same. if not same then 3
    else if nat_le (little_endian (counter_in metadata)) (little_endian kept) then 2 else 1)
    (sym differs)

-- the number of four bytes
pub little_endian_four : (bytes : List ℕ) → length bytes ≡ 4
    → little_endian bytes ≡ slice_index bytes 0 + 256 * slice_index bytes 1
    + 65536 * (slice_index bytes 2 + 256 * slice_index bytes 3)
little_endian_four [] size = absurd (omega (arith, size))
little_endian_four (a ∷ []) size = absurd (omega (arith, size))
little_endian_four (a ∷ b ∷ []) size = absurd (omega (arith, size))
little_endian_four (a ∷ b ∷ c ∷ []) size = absurd (omega (arith, size))
little_endian_four (a ∷ b ∷ c ∷ d ∷ []) size = omega arith
little_endian_four (a ∷ b ∷ c ∷ d ∷ e ∷ rest) size = absurd (omega (arith, size))
