use Rattle.std.proofs.Common.{◌≡◌, ◌+◌, ◌-◌, ◌++◌, ℕ, Option, length}
use Rattle.hex_loader.specs.HexText.{byte_run, record_bytes}
use Rattle.hex_loader.proofs.places.record_bytes.Given as goal

abbrev pub invariant-loop-offset : goal.invariant-loop-offset
invariant-loop-offset g l =
    (length l.data.items ≡ l.offset)
    × ((image : ℕ → Option ℕ) → g.P.Places.shows l.bytes image
    → l.data.items ++ byte_run image (l.place + l.offset) (l.offset-end - l.offset)
    ≡ record_bytes image l.place)
