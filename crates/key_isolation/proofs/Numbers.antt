-- Numbers in memories that are equal outside the secrets.
use Rattle.std.proofs.{Common.{◌≡◌, ℕ, ◌+◌, ◌*◌, ◌/◌, ◌<◌, true, false, refl, arith}, lemmas.Bool.Decides.nat_tests}
use Rattle.word_arith.specs.{declared.size.Size.{Size, TheVariants.{Byte, Word}}}
use Rattle.device_types.specs.{declared.access.Access.TheVariants.Read, Map.{lies_in, key_region, stack_region, ER_MIN, ER_MAX, OR_MIN, OR_MAX}}
use Rattle.part_definitions.specs.{Memory.{number_from, number_at}, Metadata.bounds_in}
use Rattle.device_trace.specs.Blank.{touches_secrets, is_secret, SameOutside}

-- the bytes of an access that touches no secret
byte_off : (place : ℕ) → touches_secrets (Read place Byte) ≡ false → is_secret place ≡ false
byte_off place off = grind (arith, nat_tests)

low_byte_off : (place : ℕ) → touches_secrets (Read place Word) ≡ false
    → is_secret (place / 2 * 2) ≡ false
low_byte_off place off = grind (arith, nat_tests)

high_byte_off : (place : ℕ) → touches_secrets (Read place Word) ≡ false
    → is_secret (place / 2 * 2 + 1) ≡ false
high_byte_off place off = grind (arith, nat_tests)

pub number_at-outside : (left right : ℕ → ℕ) → SameOutside left right → (place : ℕ) (size : Size)
    → touches_secrets (Read place size) ≡ false
    → number_at left place size ≡ number_at right place size
number_at-outside left right same place Byte off = same place (byte_off place off)
number_at-outside left right same place Word off =
    λ i. same (place / 2 * 2) (low_byte_off place off) i
    + 256 * same (place / 2 * 2 + 1) (high_byte_off place off) i

number_from-outside : (left right : ℕ → ℕ) → SameOutside left right → (place : ℕ)
    → is_secret place ≡ false → is_secret (place + 1) ≡ false
    → number_from Word left place ≡ number_from Word right place
number_from-outside left right same place low high =
    λ i. same place low i + 256 * same (place + 1) high i

-- the metadata is no secret
pub bounds_in-outside : (left right : ℕ → ℕ) → SameOutside left right
    → bounds_in left ≡ bounds_in right
bounds_in-outside left right same =
    λ i. record {
      er_min = number_from-outside left right same ER_MIN refl refl i;
      er_max = number_from-outside left right same ER_MAX refl refl i;
      or_min = number_from-outside left right same OR_MIN refl refl i;
      or_max = number_from-outside left right same OR_MAX refl refl i;
    }

-- the words of the key read as 0
key_place : (i : ℕ) → i < 32 → lies_in key_region ((0x6A00 + 2 * i) / 2 * 2 / 2 * 2) ≡ true
key_place i within = grind (arith, nat_tests)

key_place_next : (i : ℕ) → i < 32 → lies_in key_region ((0x6A00 + 2 * i) / 2 * 2 / 2 * 2 + 1) ≡ true
key_place_next i within = grind (arith, nat_tests)

pub key_word-zero : (bytes : ℕ → ℕ)
    → ((place : ℕ) → lies_in key_region place ≡ true → bytes place ≡ 0)
    → (i : ℕ) → i < 32 → number_at bytes ((0x6A00 + 2 * i) / 2 * 2) Word ≡ 0
key_word-zero bytes zero_key i within =
    let low : ℕ = (0x6A00 + 2 * i) / 2 * 2 / 2 * 2 in
    λ j. zero_key low (key_place i within) j + 256 * zero_key (low + 1) (key_place_next i within) j

-- and so do those of the kept counter
kept_place : (i : ℕ) → i < 2 → lies_in stack_region ((0x4060 + 2 * i) / 2 * 2 / 2 * 2) ≡ true
kept_place i within = grind (arith, nat_tests)

kept_place_next : (i : ℕ) → i < 2
    → lies_in stack_region ((0x4060 + 2 * i) / 2 * 2 / 2 * 2 + 1) ≡ true
kept_place_next i within = grind (arith, nat_tests)

pub kept_word-zero : (bytes : ℕ → ℕ)
    → ((place : ℕ) → lies_in stack_region place ≡ true → bytes place ≡ 0)
    → (i : ℕ) → i < 2 → number_at bytes ((0x4060 + 2 * i) / 2 * 2) Word ≡ 0
kept_word-zero bytes zero_stack i within =
    let low : ℕ = (0x4060 + 2 * i) / 2 * 2 / 2 * 2 in
    λ j. zero_stack low (kept_place i within) j
    + 256 * zero_stack (low + 1) (kept_place_next i within) j
