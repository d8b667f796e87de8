-- How many bytes valid regions have together with the metadata.
use Rattle.std.proofs.Common.{◌≡◌, ◌+◌, ◌-◌, ◌≤◌, ◌<◌, ◌⊎◌, ℕ, true, inl, inr, refl, arith}
use Rattle.device_types.{specs.declared.{bounds.Bounds.Bounds, region.Region.Region, version.Version.{Version, TheVariants.{One, Two}}}, proofs.ValidRange.{IsValidRange, AreValidRanges, are_valid-ranges}}
use Rattle.report_verifier.specs.Validity.{metadata_of, metadata_len, are_valid_for}

-- metadata that begin at 0240 and end below the program
record IsMetadata (metadata : Region) : Type 0 where
  first : metadata.first ≡ 0x240
  long : 0x269 ≤ metadata.last
  short : metadata.last ≤ 0x28F

-- in RAM a region lies beside MAC and metadata
ram-size :
    (metadata : Region) (first last : ℕ)
    → IsMetadata metadata
    → first ≤ last
    → (0x200 ≤ first) × (last + 1 ≤ 0x21FF)
    → (last + 1 < 0x200) ⊎ (0x21F < first)
    → (last + 1 < metadata.first) ⊎ (metadata.last < first)
    → last + 2 - first ≤ 0x21FF - metadata.last
ram-size metadata first last is in_order ram (inl mac) off =
    absurd (omega (arith, ram.0, mac, in_order))
ram-size metadata first last is in_order ram (inr mac) (inl off) =
    omega (arith, mac, off, is.first, is.short)
ram-size metadata first last is in_order ram (inr mac) (inr off) = omega (arith, off, ram.1)

-- in RAM, of so many bytes, or in the program
abbrev IsSized : Region → ℕ → ℕ → Type 0
IsSized metadata first last =
    (last + 2 - first ≤ 0x21FF - metadata.last) ⊎ ((0xC000 ≤ first) × (last + 1 ≤ 0xFFDF))

range-sized : (metadata : Region) (first last : ℕ) → IsMetadata metadata
    → IsValidRange metadata first last → IsSized metadata first last
range-sized metadata first last is range =
    elim range.place [
      | inl ram ↦
          inl (ram-size metadata first last is range.ordered ram range.off_mac range.off_metadata)
      | inr program ↦ inr program
    ]

-- two regions with no byte in common
both-fit :
    (metadata : Region) (er_min er_max or_min or_max : ℕ)
    → IsMetadata metadata
    → IsSized metadata er_min er_max
    → IsSized metadata or_min or_max
    → (er_max + 1 < or_min) ⊎ (or_max + 1 < er_min)
    → (metadata.last + 1 - metadata.first) + (er_max + 2 - er_min) + (or_max + 2 - or_min) ≤ 24480
both-fit metadata er_min er_max or_min or_max is (inl er) (inl or) apart =
    omega (arith, er, or, is.first, is.long, is.short)
both-fit metadata er_min er_max or_min or_max is (inl er) (inr or) apart =
    omega (arith, er, or.0, or.1, is.first, is.long, is.short)
both-fit metadata er_min er_max or_min or_max is (inr er) (inl or) apart =
    omega (arith, er.0, er.1, or, is.first, is.long, is.short)
both-fit metadata er_min er_max or_min or_max is (inr er) (inr or) (inl below) =
    omega (arith, er.0, er.1, or.0, or.1, below, is.first, is.long, is.short)
both-fit metadata er_min er_max or_min or_max is (inr er) (inr or) (inr above) =
    omega (arith, er.0, er.1, or.0, or.1, above, is.first, is.long, is.short)

is-metadata : (version : Version) → IsMetadata (metadata_of version)
is-metadata One = record { first = refl; long = omega arith; short = omega arith }
is-metadata Two = record { first = refl; long = omega arith; short = omega arith }

pub valid-fit : (version : Version) (bounds : Bounds) → are_valid_for version bounds ≡ true
    → metadata_len version + (bounds.er_max + 2 - bounds.er_min)
    + (bounds.or_max + 2 - bounds.or_min) ≤ 24480
valid-fit version bounds valid =
    let metadata : Region = metadata_of version in
    let ranges : AreValidRanges metadata bounds = are_valid-ranges metadata bounds valid in
    let is : IsMetadata metadata = is-metadata version in
    both-fit metadata bounds.er_min bounds.er_max bounds.or_min bounds.or_max is
    (range-sized metadata bounds.er_min bounds.er_max is ranges.executable)
    (range-sized metadata bounds.or_min bounds.or_max is ranges.output) ranges.apart
