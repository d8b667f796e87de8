-- Spans of addresses and words.
use Rattle.std.{proofs.{Common.{arith, ◌≡◌, ◌+◌, ◌%◌, ℕ}, lemmas.Bool.Decides.nat_tests}, specs.Prelude.{◌&&◌, ◌||◌, ◌==◌, nat_le, nat_lt, not}}
use Rattle.device_types.specs.{Bounds.is_valid_region, Map.metadata_region}

pub meets_word : (first last place : ℕ)
    → (nat_le first last && nat_le place last && nat_le first (place + 1))
    ≡ ((nat_le first place && nat_le place last)
    || (nat_le first (place + 1) && nat_le (place + 1) last))
meets_word first last place = grind (arith, nat_tests)

pub holds_word : (first last place : ℕ)
    → (nat_le first place && nat_lt place last)
    ≡ ((nat_le first place && nat_le place last)
    && (nat_le first (place + 1) && nat_le (place + 1) last))
holds_word first last place = grind (arith, nat_tests)

pub valid_region : (first last : ℕ)
    → (first % 2 == 0 && last % 2 == 0 && nat_le first last
    && ((nat_lt 0x21F first && nat_lt last 0x240) || (nat_lt 0x28F first && nat_lt last 0x2200)
    || (nat_le 0xC000 first && nat_lt last 0xFFE0)))
    ≡ is_valid_region metadata_region first last
valid_region first last = grind (arith, nat_tests)

pub apart : (er_min er_max or_min or_max : ℕ)
    → not (nat_le er_min (or_max + 1) && nat_le or_min (er_max + 1))
    ≡ (nat_lt (er_max + 1) or_min || nat_lt (or_max + 1) er_min)
apart er_min er_max or_min or_max = grind (arith, nat_tests)
