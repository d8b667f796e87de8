-- What AUX says after a call.
use Rattle.std.specs.Prelude.{◌≡◌, ℕ, IsTrue, Some, Bool, map}
use Rattle.device_trace.specs.{Logs.{aux_of, logged_bounds, Logs}, Trace.{Play, logs_after, trace}, Start.Start, Text.last_decision, RegionRun.TrustedRun, Blank.blank_seen}
use Rattle.part_definitions.specs.TrustedFlag.{aux}

-- where the last step finishes a call, whatever it decides, AUX 1 after it means a trusted run
abbrev pub AuxAfterCallMeansTrustedRun : Start → Play → Type 0
AuxAfterCallMeansTrustedRun start play =
    (decision : ℕ) → last_decision start play ≡ Some decision
    → IsTrue (aux_of start (logs_after start play))
    → TrustedRun (logged_bounds start (logs_after start play)) (trace start play)

-- The second flag over all records of a play, as the device keeps it.

-- the secrets are blanked
abbrev pub aux_seen : Logs → Bool
aux_seen logs = aux (map blank_seen logs.records)
