-- What the laws of the device say of a play.
use Rattle.std.specs.Prelude.{◌≡◌, All, ◌<◌, ◌++◌, length}
use Rattle.device_types.specs.{Address.Bytes, Report.ReportFields}
use Rattle.part_definitions.specs.{Hmac.Digest, TrustedFlag.aux}
use Rattle.device_trace.specs.{Report.{EachMoment, EachReport, AuxMeansTrustedRun, ExecMeansWholeRun}, Trace.{Play, trace}, Start.Start}
use Rattle.trace_facts.specs.Naming.{NamesNeitherA1NorK3, RunsRomInCall}
use Rattle.key_isolation.specs.Keyless.{LooksKeyless}
use Rattle.mac_coverage.specs.{Coverage.{MacCoversLastCall, Gives32Bytes, attested_after, call_length}, AttestedBytes.{AttestedBytes, tag_of}}
use Rattle.proof_of_execution.specs.WholeCall.{ExecAfterCallMeansWholeRun}
use Rattle.trusted_execution.specs.TrustedCall.{AuxAfterCallMeansTrustedRun}
use Rattle.request_freshness.specs.Freshness.{TellsNewCounter}
use Rattle.device_core.specs.KeptCounter.{KeepsCounter}

-- at each moment the play looks as it does without the key, but for the words that calls release
abbrev pub KeepsKeyHidden : Start → Play → Type 0
KeepsKeyHidden start play = EachMoment play (LooksKeyless start)

-- at a moment of a play of a device with this key, which is the play up to it
pub record IsLawfulMoment (digest : Digest) (key : Bytes) (start : Start) (play : Play)
    : Type 0 where
  -- what a call wrote to the MAC, finished or not, is of its region throughout the call
  pub call : MacCoversLastCall digest key start play
  -- EXEC 1 behind a call, whatever it decides, comes with a whole run, and AUX 1 with a trusted one
  pub whole_run : ExecAfterCallMeansWholeRun start play
  pub trusted_run : start.second_flag ≡ aux → AuxAfterCallMeansTrustedRun start play
  -- the kept counter never falls, and each request that is attested has a greater counter
  pub counter : KeepsCounter digest key start play

-- of a device with this key
pub record ObeysLaws (digest : Digest) (key : Bytes) (start : Start) (play : Play) : Type 0 where
  pub moments : EachMoment play (IsLawfulMoment digest key start)
  -- each report tells a counter greater than that of each earlier report
  pub fresh : EachReport start play (TellsNewCounter start)
  -- no step is refused for A1 or K3, and each that is made in the ROM is one of a call
  pub rules : All NamesNeitherA1NorK3 (trace start play)
  pub rom : All RunsRomInCall (trace start play)

-- What a report tells of the moment at which it is made.

-- a report that the last step of a play makes, of a device with this key
pub record IsLawfulReport (digest : Digest) (key : Bytes) (start : Start) (report : ReportFields)
    (play : Play) : Type 0 where
  -- its MAC is the tag of what stands in memory from the end of the first step of its call on
  pub contents : AttestedBytes
  pub throughout : (later earlier : Play)
      → play ≡ later ++ earlier → length later < call_length start play
      → attested_after start earlier ≡ contents
  pub tag : Gives32Bytes digest → report.mac ≡ tag_of digest key contents
  -- EXEC 1 comes with a whole run, and AUX 1 with a trusted one
  pub whole_run : ExecMeansWholeRun start report play
  pub trusted_run : start.second_flag ≡ aux → AuxMeansTrustedRun start report play
