-- Where a valid executable region lies.
use Rattle.std.{proofs.{Common.{◌≡◌, ℕ, ◌+◌, ◌*◌, ◌/◌, ◌%◌, ◌^◌, ◌<◌, ◌≤◌, true, false, ◌⊎◌, inl, inr, arith}, lemmas.Bool.{and_parts, and_from, leb-true, le-leb, eq-eqb, Decides.nat_tests}}, specs.Prelude.{◌==◌, nat_le}}
use Rattle.device_types.{specs.{declared.bounds.Bounds.Bounds, Bounds.{are_valid, executable_region}, Map.{lies_in, metadata_region}}, proofs.ValidRange.are_valid-ranges}
use Rattle.part_definitions.specs.MonitorRule.{in_rom}

-- an address of RAM or of the program is neither 0 nor in the ROM
open_pc : (pc : ℕ) → ((0x200 ≤ pc) × (pc ≤ 0x21FF)) ⊎ (0xC000 ≤ pc) → (in_rom pc ≡ false) × (0 < pc)
open_pc pc (inl ram) = let low = ram.0 in let high =
    ram.1 in (grind (arith, nat_tests), omega arith)
open_pc pc (inr program) = (grind (arith, nat_tests), omega (arith, program))

within_region : (first last pc : ℕ) → last + 1 ≤ 0xFFDF
    → lies_in (record { first = first; last = (last + 1) % 2 ^ 16 }) pc ≡ true
    → (first ≤ pc) × (pc ≤ last + 1)
within_region first last pc fits within =
    let parts = and_parts (nat_le first pc) (nat_le pc ((last + 1) % 2 ^ 16)) within in
    let above : pc ≤ (last + 1) % 2 ^ 16 = leb-true pc ((last + 1) % 2 ^ 16) parts.1 in
    (leb-true first pc parts.0, omega (arith, fits, above))

pub inside-open : (bounds : Bounds) (pc : ℕ) → are_valid bounds ≡ true
    → lies_in (executable_region bounds) pc ≡ true → (in_rom pc ≡ false) × (0 < pc)
inside-open bounds pc valid within =
    let range = (are_valid-ranges metadata_region bounds valid).executable in
    let place = within_region bounds.er_min bounds.er_max pc range.fits within in
    elim range.place [
      | inl ram ↦ open_pc pc (inl (omega (arith, ram.0, place.0), omega (arith, ram.1, place.1)))
      | inr program ↦ open_pc pc (inr (omega (arith, program.0, place.0)))
    ]

pub min-inside : (bounds : Bounds) → are_valid bounds ≡ true
    → lies_in (executable_region bounds) bounds.er_min ≡ true
min-inside bounds valid =
    let range = (are_valid-ranges metadata_region bounds valid).executable in
    and_from (nat_le bounds.er_min bounds.er_min)
    (nat_le bounds.er_min ((bounds.er_max + 1) % 2 ^ 16))
    (le-leb bounds.er_min bounds.er_min (omega arith))
    (le-leb bounds.er_min ((bounds.er_max + 1) % 2 ^ 16)
    (omega (arith, range.ordered, range.fits)))

-- ERmin is even, so a fetch there is at its own place
even_place : (place : ℕ) → place % 2 ≡ 0 → (place / 2 * 2 == place) ≡ true
even_place place even = eq-eqb (place / 2 * 2) place (omega arith)

pub min-even : (bounds : Bounds) → are_valid bounds ≡ true
    → (bounds.er_min / 2 * 2 == bounds.er_min) ≡ true
min-even bounds valid =
    even_place bounds.er_min (are_valid-ranges metadata_region bounds valid).executable.first_even
