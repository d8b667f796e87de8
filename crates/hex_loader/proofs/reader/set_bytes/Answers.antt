-- Places that bytes are placed at, one after the other.
use Rattle.std.{proofs.Common.{◌≡◌, ◌<◌, ◌+◌, ℕ, suc, length, drop, drop-cons, add-one, sym, ap, ◌∙◌, Bool, true, false, List, refl, arith}, specs.Prelude.◌&&◌}
use Rattle.part_definitions.specs.Memory.{is_image_place}
use Rattle.hex_loader.specs.HexImage.{are_image_places}
use Rattle.mem_map.{specs.Image.byte_in, proofs.PlacedBytes.byte_among-more}
use Rattle.hex_loader.proofs.reader.set_bytes.Goals as goal

and_true : (a b : Bool) → a ≡ true → (a && b) ≡ b
and_true true b h = refl
and_true false b h = absurd cc

-- one place that an image may hold, and then those after it
are_image_places-more : (bytes : List ℕ) (i place : ℕ) → i < length bytes
    → is_image_place place ≡ true
    → are_image_places place (drop i bytes) ≡ are_image_places (place + 1) (drop (i + 1) bytes)
are_image_places-more bytes i place within takes =
    let at_hand = ap (are_image_places place) (drop-cons bytes i 0 within) in
    let next : drop (suc i) bytes ≡ drop (i + 1) bytes = ap (λ (k : ℕ). drop k bytes)
    (sym (add-one i)) in
    at_hand ∙ and_true (is_image_place place) (are_image_places (place + 1) (drop (suc i) bytes))
    takes
    ∙ ap (are_image_places (place + 1)) next

pub loop-byte-preserved : goal.loop-byte-preserved
loop-byte-preserved c =
    let at = c.loop-byte in
    let bytes = c.args.bytes.now in
    let within = c.loop-byte-test.true in
    let takes : is_image_place at.place ≡ true = sym c.set_byte.ensures.taken
    ∙ c.if-not-set_byte.false in
    record {
      place = omega (arith, at.invariant.place);
      taken = at.invariant.taken ∙ are_image_places-more bytes at.byte-index at.place within takes;
      bytes = λ place.
          rw (c.set_byte.ensures.bytes place, c.if-not-set_byte.false)
          (byte_among-more bytes at.byte-index at.place place (byte_in at.image place) within
          ∙ at.invariant.bytes place);
    }
