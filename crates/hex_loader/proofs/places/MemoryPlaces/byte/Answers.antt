-- The byte of a memory at a place.
use Rattle.std.{proofs.Common.{◌≡◌, ◌+◌, ◌-◌, ℕ, suc, zero, Bool, true, false, List, Some, None, cond, refl, arith, ◌∙◌, Option, ap, sym}, specs.Prelude.{◌&&◌, ◌||◌, nat_le, slice_get}}
use Rattle.device_types.specs.Map.{lies_in, ram_region}
use Rattle.part_definitions.specs.Memory.{PowerOn, ShownFlags, MemoryWrite, byte_at, bytes_from, is_program, is_image_place}
use Rattle.hex_loader.specs.MemoryImage.{image_of}
use Rattle.hex_loader.proofs.places.MemoryPlaces.byte.Goals as goal

either : (a ram program : Bool) → (a && ((ram && ram) || (program && program))) ≡ true
    → (ram || program) ≡ true
either true true program h = refl
either true false program h = and_self program h
  where
    and_self : (b : Bool) → (b && b) ≡ true → b ≡ true
    and_self true h = refl
    and_self false h = h
either false ram program h = absurd cc

choice : (b : Bool) (byte : ℕ) → b ≡ true → Some byte ≡ cond b (Some byte) None
choice true byte h = refl
choice false byte h = absurd cc

-- the span of one place is the byte there
span-one : (start : PowerOn) (flags : ShownFlags) (writes : List MemoryWrite) (place : ℕ)
    (bytes : List ℕ)
    → (nat_le place place && ((lies_in ram_region place && lies_in ram_region place) ||
    (is_program place && is_program place))) ≡ true
    → bytes ≡ bytes_from (byte_at start flags writes) place (place + 1 - place)
    → slice_get bytes 0 ≡ image_of start flags writes place
span-one start flags writes place bytes within is =
    let one : place + 1 - place ≡ suc zero = omega arith in
    let holds = either (nat_le place place) (lies_in ram_region place) (is_program place) within in
    rw (is, one) (choice (is_image_place place) (byte_at start flags writes place) holds)

pub returns : goal.returns
returns c = λ image shows.
    let span = c.in_ok-span.ensures in
    c.copied.ensures ∙ c.first.ensures.value
    ∙ span-one shows.start shows.flags shows.writes c.args.place c.in_ok-span.field-0.now
    (span.within.0 refl)
    (span.bytes shows.start shows.flags shows.writes shows.stands)
    ∙ ap (λ (bytes : ℕ → Option ℕ). bytes c.args.place) (sym shows.shown)
