-- What an accept means for a device whose memory has these bytes.
use Rattle.std.specs.Prelude.{◌≡◌, ℕ, List, Option, Some, IsTrue}
use Rattle.device_types.specs.{declared.version.Version.TheVariants.Two, Bounds.are_valid, Report.ReportFields}
use Rattle.part_definitions.specs.{Attestation.attestation_tag, Metadata.bounds_in, Region.{metadata_bytes, challenge_bytes, rest_bytes, bytes_between, output_bytes}}
use Rattle.report_verifier.specs.{declared.{verdict.Verdict.TheVariants.Accept, expect.Expect.Expect, flag_kind.FlagKind.{FlagKind, TheVariants.{Exec, Aux, Plain}}}, Expectation.{expected_metadata, image_code}, Validity.are_valid_for, Verdict.verdict}

-- a report of a device: it tells what stands in memory, and its MAC is the tag of that under the
-- device key
pub record IsOfMemory (digest : List ℕ → List ℕ) (key : List ℕ) (bytes : ℕ → ℕ)
    (report : ReportFields) : Type 0 where
  pub version : report.version ≡ Two
  pub chal : report.chal ≡ challenge_bytes bytes
  pub bounds : report.bounds ≡ bounds_in bytes
  pub output : IsTrue (are_valid report.bounds)
      → report.output ≡ Some (output_bytes bytes report.bounds)
  pub mac : report.mac ≡ attestation_tag digest key (metadata_bytes bytes) (rest_bytes bytes)

-- it is accepted by a verifier that has the device key
pub record IsAccepted (digest : List ℕ → List ℕ) (key : List ℕ) (image : ℕ → Option ℕ)
    (expect : Expect) (bytes : ℕ → ℕ) (report : ReportFields) : Type 0 where
  pub valid : IsTrue (are_valid_for expect.version expect.bounds)
  pub of_memory : IsOfMemory digest key bytes report
  pub accepted : verdict digest key image (Some expect) report ≡ Accept

-- the flag that is asked for is 1
abbrev pub HasFlag : FlagKind → ReportFields → Type 0
HasFlag Exec report = IsTrue report.exec
HasFlag Aux report = IsTrue report.aux
HasFlag Plain report = Unit {0}

-- what stands in memory is what was expected
pub record StandsAsExpected (digest : List ℕ → List ℕ) (key : List ℕ) (image : ℕ → Option ℕ)
    (expect : Expect) (report : ReportFields) (bytes : ℕ → ℕ) : Type 0 where
  -- the metadata are the expected challenge, bounds, counter and token, and the flags as the report
  -- tells them
  pub metadata : metadata_bytes bytes ≡ expected_metadata digest key expect report
  pub flag : HasFlag expect.flag report
  -- the code is the image's
  pub code :
      bytes_between bytes expect.bounds.er_min expect.bounds.er_max
      ≡ image_code image expect.bounds
  -- the output is the report's
  pub output : Some (output_bytes bytes expect.bounds) ≡ report.output
