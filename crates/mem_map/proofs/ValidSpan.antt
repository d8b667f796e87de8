-- The bytes of a valid region are a span.
use Rattle.std.proofs.{Common.{◌≡◌, ◌+◌, ◌≤◌, ℕ, true, inl, inr, arith}, lemmas.Bool.Decides.nat_tests}
use Rattle.device_types.{specs.declared.region.Region.Region, proofs.ValidRange.IsValidRange}
use Rattle.mem_map.specs.Span.{is_span}

span-ram :
    (first last : ℕ)
    → 0x0200 ≤ first
    → first ≤ last
    → last + 1 ≤ 0x21FF
    → is_span first (last + 1) ≡ true
span-ram first last low in_order high = grind (arith, nat_tests)

span-program :
    (first last : ℕ)
    → 0xC000 ≤ first
    → first ≤ last
    → last + 1 ≤ 0xFFDF
    → is_span first (last + 1) ≡ true
span-program first last low in_order high = grind (arith, nat_tests)

pub span-valid : {metadata : Region} (first last : ℕ) → IsValidRange metadata first last
    → is_span first (last + 1) ≡ true
span-valid first last range =
    elim range.place [
      | inl ram ↦ span-ram first last ram.0 range.ordered ram.1
      | inr program ↦ span-program first last program.0 range.ordered program.1
    ]
