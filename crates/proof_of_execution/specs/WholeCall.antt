-- What EXEC says after a call.
use Rattle.std.specs.Prelude.{◌≡◌, ℕ, IsTrue, Some}
use Rattle.device_trace.specs.{Logs.{exec_of, logged_bounds}, Trace.{Play, logs_after, trace}, Start.Start, Text.last_decision, RegionRun.WholeRun}

-- where the last step finishes a call, whatever it decides, EXEC 1 after it means a whole run
abbrev pub ExecAfterCallMeansWholeRun : Start → Play → Type 0
ExecAfterCallMeansWholeRun start play =
    (decision : ℕ) → last_decision start play ≡ Some decision
    → IsTrue (exec_of (logs_after start play))
    → WholeRun (logged_bounds start (logs_after start play)) (trace start play)
