-- What an accepted report rests on: the bytes that it is expected to be of, and those of the
-- device, which is of version 2.
use Rattle.std.specs.Prelude.{◌++◌, ◌+◌, ◌-◌, ◌≤◌, ℕ, List, Option, length}
use Rattle.device_types.specs.{declared.bounds.Bounds.Bounds, Report.ReportFields}
use Rattle.part_definitions.specs.{Hmac.hmac, Region.{metadata_bytes, rest_bytes}}
use Rattle.report_verifier.specs.{declared.expect.Expect.Expect, Expectation.{expected_metadata, expected_rest, report_output}}

-- the key of the challenge that is expected
abbrev pub expected_key : (List ℕ → List ℕ) → List ℕ → Expect → List ℕ
expected_key digest key expect = hmac digest key expect.chal

-- expected metadata, the image's code, and the output that the report tells
abbrev pub expected_bytes :
    (List ℕ → List ℕ) → List ℕ → (ℕ → Option ℕ) → Expect → ReportFields → List ℕ
expected_bytes digest key image expect report =
    expected_metadata digest key expect report ++ expected_rest image expect report.output

-- a device's own metadata, code and output
abbrev pub own_bytes : (ℕ → ℕ) → List ℕ
own_bytes bytes = metadata_bytes bytes ++ rest_bytes bytes

-- an output is no longer than its region
abbrev pub OutputFits : Bounds → Option (List ℕ) → Type 0
OutputFits bounds output = length (report_output output) ≤ bounds.or_max + 2 - bounds.or_min
