-- Which places the runs of an image cover.
use Rattle.std.{proofs.{Common.{◌≡◌, ◌∙◌, ◌≤◌, ◌<◌, ◌+◌, ◌-◌, ◌%◌, ◌⊎◌, ℕ, zero, suc, Bool, true, false, eqb, List, [], ◌∷◌, length, Option, Some, None, refl, ap, arith, inl, inr}, lemmas.Bool.{and_from, cases_lt, Decides.eqb_tells}}, specs.Prelude.{is_none, IsSome, ◌||◌}}
use Rattle.hex.specs.Hex.{IsBytes}
use Rattle.part_definitions.specs.Memory.{is_image_place}
use Rattle.mem_map.specs.{Image.byte_among, ImagePlace.IsImage}
use Rattle.hex_loader.specs.{HexImage.are_image_places, HexText.{is_record_start, run_after, byte_run, record_bytes}}

-- a byte among those of a run is the image's
pub run-sound : (image : ℕ → Option ℕ) (first most place byte : ℕ)
    → byte_among first (byte_run image first most) place ≡ Some byte → image place ≡ Some byte
run-sound image first zero place byte finds = absurd cc
run-sound image first (suc most) place byte finds =
    elim (image first) as (λ o. image first ≡ o
    → byte_among first (run_after o (byte_run image (first + 1) most)) place ≡ Some byte
    → image place ≡ Some byte) [
      | None ↦ λ is among. absurd cc
      | Some here ↦ λ is among.
          elim (eqb_tells place first) [
            | inl same ↦ ap image same.1 ∙ is ∙ rw same.0 at among
            | inr other ↦ run-sound image (first + 1) most place byte (rw other.0 at among)
          ]
    ] refl finds

-- bytes cover their places
pub byte_among-some : (first : ℕ) (bytes : List ℕ) (place : ℕ) → first ≤ place
    → place < first + length bytes → IsSome (byte_among first bytes place)
byte_among-some first [] place from to = absurd (omega (arith, from, to))
byte_among-some first (byte ∷ bytes) place from to =
    elim (eqb_tells place first) [
      | inl same ↦ rw same.0 refl
      | inr other ↦ rw other.0 (byte_among-some (first + 1) bytes place
          (omega (arith, from, other.1)) (omega (arith, to)))
    ]

-- a run ends where it may go no further, or where there is no byte
run-ends : (image : ℕ → Option ℕ) (first most : ℕ)
    → (length (byte_run image first most) ≡ most)
    ⊎ (image (first + length (byte_run image first most))
    ≡ None)
run-ends image first zero = inl refl
run-ends image first (suc most) =
    let rest : List ℕ = byte_run image (first + 1) most in
    elim (image first) as (λ o. image first ≡ o
    → (length (run_after o rest) ≡ suc most) ⊎ (image (first + length (run_after o rest))
    ≡ None)) [
      | None ↦ λ is.
          let here : first + 0 ≡ first = omega arith in
          inr (ap image here ∙ is)
      | Some byte ↦ λ is.
          elim (run-ends image (first + 1) most) [
            | inl full ↦ inl (ap suc full)
            | inr none ↦
                let next : first + suc (length rest) ≡ first + 1 + length rest = omega arith in
                inr (ap image next ∙ none)
          ]
    ] refl

run-some : (image : ℕ → Option ℕ) (first most byte : ℕ) → 0 < most → image first ≡ Some byte
    → 0 < length (byte_run image first most)
run-some image first zero byte some has = absurd (omega (arith, some))
run-some image first (suc most) byte some has = rw has (omega arith)

-- a record begins at or before each byte, and covers it
pub record IsCovered (image : ℕ → Option ℕ) (place : ℕ) : Type 0 where
  pub first : ℕ
  pub from : first ≤ place
  pub begun : is_record_start image first ≡ true
  pub to : place < first + length (record_bytes image first)

here : (image : ℕ → Option ℕ) (place byte : ℕ) → image place ≡ Some byte
    → is_record_start image place ≡ true → IsCovered image place
here image place byte has begins =
    let some : 0 < 16 - place % 16 = omega arith in
    let long = run-some image place (16 - place % 16) byte some has in
    record { first = place; from = omega arith; begun = begins; to = omega (arith, long) }

not_begun : (aligns : Bool) (before : Option ℕ) → (aligns || is_none before) ≡ false
    → (aligns ≡ false) × ((byte : ℕ) × (before ≡ Some byte))
not_begun true before h = absurd cc
not_begun false None h = absurd cc
not_begun false (Some byte) h = (refl, (byte, refl))

goes_on : (image : ℕ → Option ℕ) (place byte : ℕ) → image (suc place) ≡ Some byte
    → eqb (suc place % 16) 0 ≡ false → IsCovered image place → IsCovered image (suc place)
goes_on image place byte has inside before =
    let count : ℕ = length (record_bytes image before.first) in
    elim (cases_lt (suc place) (before.first + count)) [
      | inl within ↦ record {
        first = before.first;
        from = omega (arith, before.from);
        begun = before.begun;
        to = within;
      }
      | inr past ↦
          let same : suc place ≡ before.first + count = omega (arith, past, before.to) in
          elim (run-ends image before.first (16 - before.first % 16)) [
            | inl full ↦
                let aligns : suc place % 16 ≡ 0 = omega (arith, same, full) in
                absurd (cc (ap (λ (n : ℕ). eqb n 0) aligns))
            | inr none ↦ absurd cc
          ]
    ]

pub is_covered : (image : ℕ → Option ℕ) (place byte : ℕ) → image place ≡ Some byte
    → IsCovered image place
is_covered image zero byte has = here image 0 byte has (rw has refl)
is_covered image (suc place) byte has =
    elim (is_record_start image (suc place)) as (λ b. is_record_start image (suc place) ≡ b
    → IsCovered image (suc place)) [
      | true ↦ λ begins. here image (suc place) byte has begins
      | false ↦ λ begins.
          let inside = not_begun (eqb (suc place % 16) 0) (image (suc place - 1))
          (rw has at begins) in
          let back : place ≡ suc place - 1 = omega arith in
          goes_on image place byte has inside.0 (is_covered image place inside.1.0
          (ap image back ∙ inside.1.1))
    ] refl

-- a run of an image: its length, its bytes, its places
pub run-short : (image : ℕ → Option ℕ) (first most : ℕ) → length (byte_run image first most) ≤ most
run-short image first zero = omega arith
run-short image first (suc most) =
    elim (image first) as (λ o. length (run_after o (byte_run image (first + 1) most)) ≤ suc most) [
      | None ↦ omega arith
      | Some byte ↦ omega (arith, run-short image (first + 1) most)
    ]

pub run-bytes : (image : ℕ → Option ℕ) → IsImage image → (first most : ℕ)
    → IsBytes (byte_run image first most)
run-bytes image is first zero = λ i. omega arith
run-bytes image is first (suc most) =
    elim (image first) as (λ o. image first ≡ o
    → IsBytes (run_after o (byte_run image (first + 1) most))) [
      | None ↦ λ none i. omega arith
      | Some byte ↦ λ has. cons byte (byte_run image (first + 1) most) (is first byte has).1
          (run-bytes image is (first + 1) most)
    ] refl
  where
    cons : (byte : ℕ) (bytes : List ℕ) → byte < 256 → IsBytes bytes → IsBytes (byte ∷ bytes)
    cons byte bytes small fits zero = small
    cons byte bytes small fits (suc i) = fits i

pub run-places : (image : ℕ → Option ℕ) → IsImage image → (first most : ℕ)
    → are_image_places first (byte_run image first most) ≡ true
run-places image is first zero = refl
run-places image is first (suc most) =
    elim (image first) as (λ o. image first ≡ o
    → are_image_places first (run_after o (byte_run image (first + 1) most)) ≡ true) [
      | None ↦ λ none. refl
      | Some byte ↦ λ has. and_from (is_image_place first)
          (are_image_places (first + 1) (byte_run image (first + 1) most)) (is first byte has).0
          (run-places image is (first + 1) most)
    ] refl
