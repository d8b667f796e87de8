-- One byte more, where an image may hold it.
use Rattle.std.{proofs.{Common.{◌≡◌, ◌<◌, ◌+◌, ℕ, length, drop, get_or, sym, ap, ◌∙◌, Bool, true, cond, eqb, ◌&&◌, IsTrue, List, Option, Some, refl, inl, inr, arith}, Math.Bool.and-false, lemmas.Bool.Decides.eqb_tells}, specs.Option.option_or}
use Rattle.part_definitions.specs.Memory.{is_image_place}
use Rattle.mem_map.{specs.Image.{byte_among, byte_in}, proofs.PlacedBytes.byte_among-more}
use Rattle.msp_asm.proofs.image_writer.place_bytes.Goals as goal

place_test : (first place : ℕ) → IsTrue (is_image_place place)
    → (is_image_place first && eqb place first) ≡ eqb place first
place_test first place is =
    elim (eqb_tells place first) [
      | inl same ↦
          let in_image : is_image_place first ≡ true = ap is_image_place (sym same.1) ∙ is in
          rw in_image refl
      | inr other ↦ rw other.0 (and-false (is_image_place first))
    ]

placed-more : (bytes : List ℕ) (i first place : ℕ) (before : Option ℕ) → i < length bytes
    → IsTrue (is_image_place place)
    → option_or (byte_among (first + 1) (drop (i + 1) bytes) place)
    (cond (is_image_place first && eqb place first) (Some (get_or bytes i 0)) before)
    ≡ option_or (byte_among first (drop i bytes) place) before
placed-more bytes i first place before within is =
    ap (λ (b : Bool). option_or (byte_among (first + 1) (drop (i + 1) bytes) place)
    (cond b (Some (get_or bytes i 0)) before)) (place_test first place is)
    ∙ byte_among-more bytes i first place before within

pub loop-byte-preserved : goal.loop-byte-preserved
loop-byte-preserved c =
    let at = c.loop-byte in
    let bytes = c.args.bytes.now in
    record {
      at = omega (arith, at.invariant.at);
      bytes = λ place is.
          rw (c.place_byte.ensures place)
          (placed-more bytes at.byte-index at.place place (byte_in at.image place)
          c.loop-byte-test.true is
          ∙ at.invariant.bytes place is);
    }
