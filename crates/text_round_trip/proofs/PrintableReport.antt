-- The report of a play whose memory holds bytes can be printed.
use Rattle.std.{proofs.{Common.{◌≡◌, ℕ, zero, suc, ◌+◌, ◌-◌, ◌*◌, ◌<◌, Bool, true, false, Some, None, IfSome, length, refl, arith}, lemmas.Bool.eq-eqb}, specs.Prelude.{◌^◌, if◌then◌else◌, IsTrue}}
use Rattle.hex.specs.Hex.{IsBytes}
use Rattle.device_types.specs.{declared.{bounds.Bounds.Bounds, version.Version.TheVariants.Two}, Bounds.{are_valid, AreWords}, Map.{metadata_region, mac_region}}
use Rattle.part_definitions.{specs.{Memory.bytes_from, Metadata.{bounds_in, counter_bytes, little_endian}, Region.output_bytes}, proofs.BytesFrom.length-bytes_from}
use Rattle.device_trace.specs.{Logs.{Logs, logged_byte, logged_bounds}, Start.Start, Text.report_of}
use Rattle.report_text.specs.{ReadBack.{IsBlock, IsPrintable}, ReportFile.output_fits}

abbrev HoldsBytes : (ℕ → ℕ) → Type 0
HoldsBytes bytes = (place : ℕ) → bytes place < 256

are_bytes : (bytes : ℕ → ℕ) (place count : ℕ) → HoldsBytes bytes
    → IsBytes (bytes_from bytes place count)
are_bytes bytes place zero small i = omega arith
are_bytes bytes place (suc count) small zero = small place
are_bytes bytes place (suc count) small (suc i) = are_bytes bytes (place + 1) count small i

block : (bytes : ℕ → ℕ) (place : ℕ) → HoldsBytes bytes → IsBlock (bytes_from bytes place 32)
block bytes place small =
    record { size = length-bytes_from bytes place 32; fits = are_bytes bytes place 32 small }

word : (bytes : ℕ → ℕ) (place : ℕ) → HoldsBytes bytes
    → bytes place + 256 * bytes (place + 1) < 2 ^ 16
word bytes place small = omega (arith, small place, small (place + 1))

words : (bytes : ℕ → ℕ) → HoldsBytes bytes → AreWords (bounds_in bytes)
words bytes small = record {
  er_min = word bytes 0x260 small;
  er_max = word bytes 0x262 small;
  or_min = word bytes 0x264 small;
  or_max = word bytes 0x266 small;
}

output-bytes : (bytes : ℕ → ℕ) (bounds : Bounds) (valid : Bool) → HoldsBytes bytes
    → IfSome (if valid then Some (output_bytes bytes bounds) else None) IsBytes
output-bytes bytes bounds true small =
    are_bytes bytes bounds.or_min (bounds.or_max + 2 - bounds.or_min) small
output-bytes bytes bounds false small = tt

output-fits : (bytes : ℕ → ℕ) (bounds : Bounds) (valid : Bool) → are_valid bounds ≡ valid
    → IsTrue (output_fits Two bounds (if valid then Some (output_bytes bytes bounds) else None))
output-fits bytes bounds true is =
    rw (
      is,
      eq-eqb (length (output_bytes bytes bounds)) (bounds.or_max + 2 - bounds.or_min)
          (length-bytes_from bytes bounds.or_min (bounds.or_max + 2 - bounds.or_min)),
    ) refl
output-fits bytes bounds false is = rw is refl

counter-fits : (bytes : ℕ → ℕ) → HoldsBytes bytes → little_endian (counter_bytes bytes) < 2 ^ 32
counter-fits bytes small =
    omega (arith, small 0x26C, small 0x26D, small 0x26E, small 0x26F)

pub printable-report : (start : Start) (logs : Logs) (step : ℕ)
    → HoldsBytes (logged_byte start logs) → step < 2 ^ 32
    → IsPrintable (report_of start logs step)
printable-report start logs step small within =
    let bytes : ℕ → ℕ = logged_byte start logs in
    let bounds : Bounds = logged_bounds start logs in
    record {
      request = counter-fits bytes small;
      step = within;
      chal = block bytes metadata_region.first small;
      bounds = words bytes small;
      output = output-bytes bytes bounds (are_valid bounds) small;
      fits = output-fits bytes bounds (are_valid bounds) refl;
      mac = block bytes mac_region.first small;
    }
