-- The verdict on a report: the first that holds.
use Rattle.std.specs.{Prelude.{◌==◌, ◌&&◌, ℕ, Bool, true, false, List, Option, Some, None, not, if◌then◌else◌, [], ◌∷◌, codes}, Str.bytes_eq}
use Rattle.device_types.specs.{declared.{bounds.Bounds.Bounds, version.Version.{Version, TheVariants.{One, Two}}}, Report.ReportFields}
use Rattle.report_verifier.specs.{declared.{verdict.Verdict.{Verdict, TheVariants.{Accept, NoChallenge, VersionDiffers, ChalDiffers, CountDiffers, BoundsDiffer, ExecZero, AuxZero, MacDiffers}}, expect.Expect.Expect, flag_kind.FlagKind.{FlagKind, TheVariants.{Exec, Aux}}}, Expectation.expected_mac}
use Rattle.named_value.specs.Names.{Names}

abbrev pub same_version : Version → Version → Bool
same_version One One = true
same_version Two Two = true
same_version left right = false

abbrev pub same_bounds : Bounds → Bounds → Bool
same_bounds left right =
    (left.er_min == right.er_min) && (left.er_max == right.er_max)
    && (left.or_min == right.or_min) && (left.or_max == right.or_max)

-- a flag is asked for, and is 0
abbrev pub lacks_exec : FlagKind → Bool → Bool
lacks_exec Exec exec = not exec
lacks_exec flag exec = false

abbrev pub lacks_aux : FlagKind → Bool → Bool
lacks_aux Aux aux = not aux
lacks_aux flag aux = false

-- a report against what is expected; in version 1 both counters are 0, and EXEC is asked for
abbrev pub verdict_on :
    (List ℕ → List ℕ) → List ℕ → (ℕ → Option ℕ) → Expect → ReportFields → Verdict
verdict_on digest key image expect report =
    if not (same_version expect.version report.version) then VersionDiffers
    else if not (bytes_eq expect.chal report.chal) then ChalDiffers
    else if not (expect.count == report.count) then CountDiffers
    else if not (same_bounds expect.bounds report.bounds) then BoundsDiffer
    else if lacks_exec expect.flag report.exec then ExecZero
    else if lacks_aux expect.flag report.aux then AuxZero
    else if not (bytes_eq (expected_mac digest key image expect report) report.mac)
    then MacDiffers
    else Accept

-- without a challenge nothing is expected
abbrev pub verdict :
    (List ℕ → List ℕ) → List ℕ → (ℕ → Option ℕ) → Option Expect → ReportFields → Verdict
verdict digest key image None report = NoChallenge
verdict digest key image (Some expect) report = verdict_on digest key image expect report

-- The names of verdicts.

abbrev pub verdict_name : Verdict → List ℕ
verdict_name Accept = codes "accept"
verdict_name NoChallenge = codes "no-challenge"
verdict_name VersionDiffers = codes "version-differs"
verdict_name ChalDiffers = codes "chal-differs"
verdict_name CountDiffers = codes "count-differs"
verdict_name BoundsDiffer = codes "bounds-differ"
verdict_name ExecZero = codes "exec-zero"
verdict_name AuxZero = codes "aux-zero"
verdict_name MacDiffers = codes "mac-differs"

abbrev pub verdict_names : Names Verdict
verdict_names = record {
  values =
      Accept ∷ NoChallenge ∷ VersionDiffers ∷ ChalDiffers ∷ CountDiffers ∷ BoundsDiffer ∷ ExecZero
      ∷ AuxZero ∷ MacDiffers ∷ [];
  name = verdict_name;
}
