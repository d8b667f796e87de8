-- Bytes that are placed one after the other.
use Rattle.std.{proofs.{Common.{◌≡◌, ◌<◌, ◌+◌, ℕ, suc, length, drop, get_or, drop-cons, add-one, ap, cond, eqb, List, [], ◌∷◌, Option, Some, None, refl, arith, inl, inr}, lemmas.Bool.Decides.eqb_tells}, specs.Option.option_or}
use Rattle.mem_map.specs.Image.{byte_among}

-- there is none below the first
pub byte_among-below : (first : ℕ) (bytes : List ℕ) (place : ℕ) → place < first
    → byte_among first bytes place ≡ None
byte_among-below first [] place below = refl
byte_among-below first (byte ∷ bytes) place below =
    elim (eqb_tells place first) [
      | inl same ↦ absurd (omega (arith, same.1))
      | inr other ↦ rw other.0 (byte_among-below (first + 1) bytes place (omega arith))
    ]

one_byte : (first byte : ℕ) (bytes : List ℕ) (place : ℕ) (before : Option ℕ)
    → option_or (byte_among (first + 1) bytes place) (cond (eqb place first) (Some byte) before)
    ≡ option_or (byte_among first (byte ∷ bytes) place) before
one_byte first byte bytes place before =
    elim (eqb_tells place first) [
      | inl same ↦
          let none = byte_among-below (first + 1) bytes place (omega (arith, same.1)) in
          rw (same.0, none) refl
      | inr other ↦ rw other.0 refl
    ]

-- one byte, and then those after it
pub byte_among-more : (bytes : List ℕ) (i first place : ℕ) (before : Option ℕ) → i < length bytes
    → option_or (byte_among (first + 1) (drop (i + 1) bytes) place)
    (cond (eqb place first) (Some (get_or bytes i 0)) before)
    ≡ option_or (byte_among first (drop i bytes) place) before
byte_among-more bytes i first place before within =
    let next : drop (i + 1) bytes ≡ drop (suc i) bytes = ap (λ (k : ℕ). drop k bytes) (add-one i) in
    rw (next, drop-cons bytes i 0 within) (one_byte first (get_or bytes i 0) (drop (suc i) bytes)
    place before)
