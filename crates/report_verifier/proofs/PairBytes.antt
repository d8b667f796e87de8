-- The pair of two messages with one HMAC is of bytes.
use Rattle.std.{proofs.{Common.{◌<◌, ◌-◌, ◌++◌, ℕ, List, Bool, true, false, length, replicate, arith}, lemmas.{Nat.xor_of_8, List.Elements.{All-append, All-map, All-replicate, All-weaker}}}, specs.{Prelude.{nat_lt, bit_xor, if◌then◌else◌}, Str.bytes_eq}}
use Rattle.part_definitions.specs.Hmac.{block_of, key_block, with_mask, inner_input, inner_digest, outer_input}
use Rattle.report_verifier.specs.Collision.{AreBytes, GivesBytes, colliding_pair}

abbrev pub IsByte : ℕ → Type 0
IsByte number = number < 256

-- both lists of a pair
abbrev pub ArePairBytes : List ℕ × List ℕ → Type 0
ArePairBytes pair = AreBytes pair.0 × AreBytes pair.1

-- two lists behind one prefix
pub pair-bytes : (prefix first second : List ℕ)
    → AreBytes prefix × AreBytes first × AreBytes second
    → ArePairBytes (prefix ++ first, prefix ++ second)
pair-bytes prefix first second are = (
  All-append IsByte prefix first are.0 are.1,
  All-append IsByte prefix second are.0 are.2,
)

one-masked : (mask : ℕ) → mask < 256 → (byte : ℕ) → IsByte byte → IsByte (bit_xor byte mask)
one-masked mask fits byte is = xor_of_8 byte mask is fits

masked : (mask : ℕ) → mask < 256 → (bytes : List ℕ) → AreBytes bytes
    → AreBytes (with_mask mask bytes)
masked mask fits bytes are =
    All-map IsByte (λ byte. bit_xor byte mask) bytes
    (All-weaker IsByte (λ byte. IsByte (bit_xor byte mask)) (one-masked mask fits) bytes are)

block : (bytes : List ℕ) → AreBytes bytes → AreBytes (block_of bytes)
block bytes are =
    All-append IsByte bytes (replicate (64 - length bytes) 0) are
    (All-replicate IsByte (64 - length bytes) 0 (omega arith))

key_block-bytes : (digest : List ℕ → List ℕ) (key : List ℕ) → GivesBytes digest → AreBytes key
    → AreBytes (key_block digest key)
key_block-bytes digest key gives are = block _ (by_length (nat_lt 64 (length key)))
  where
    by_length : (is_long : Bool) → AreBytes (if is_long then digest key else key)
    by_length true = gives key
    by_length false = are

-- behind either pad
padded : (digest : List ℕ → List ℕ) (key : List ℕ) (mask : ℕ) (message : List ℕ)
    → GivesBytes digest → AreBytes key → mask < 256 → AreBytes message
    → AreBytes (with_mask mask (key_block digest key) ++ message)
padded digest key mask message gives are fits message_are =
    All-append IsByte (with_mask mask (key_block digest key)) message
    (masked mask fits (key_block digest key) (key_block-bytes digest key gives are)) message_are

pub colliding_pair-bytes : (digest : List ℕ → List ℕ) (key left right : List ℕ)
    → GivesBytes digest → AreBytes key → AreBytes left → AreBytes right
    → ArePairBytes (colliding_pair digest key left right)
colliding_pair-bytes digest key left right gives are left_are right_are =
    by_test (bytes_eq (inner_digest digest key left) (inner_digest digest key right))
  where
    by_test : (same : Bool)
        → ArePairBytes (if same
        then (inner_input digest key left, inner_input digest key right)
        else (
          outer_input digest key (inner_digest digest key left),
          outer_input digest key (inner_digest digest key right),
        ))
    by_test true = (
      padded digest key 0x36 left gives are (omega arith) left_are,
      padded digest key 0x36 right gives are (omega arith) right_are,
    )
    by_test false = (
      padded digest key 0x5C _ gives are (omega arith) (gives _),
      padded digest key 0x5C _ gives are (omega arith) (gives _),
    )
