-- Closed plays at which the law is computed.
use Rattle.std.specs.Prelude.{Bool, [], ◌∷◌, Option, Some, None}
use Rattle.device_types.specs.{declared.event.Event.TheVariants.Rx, Report.ReportFields}
use Rattle.device_trace.specs.{Example.quiet_steps, Trace.Play}

-- the region is called and then attested, with no event
abbrev pub quiet_play : Play
quiet_play = quiet_steps 145 []

-- the same, where a byte arrives while the region runs
abbrev pub play_with_byte : Play
play_with_byte = quiet_steps 142 ((Rx 0x55 ∷ []) ∷ quiet_steps 11 [])

-- EXEC in a report
abbrev pub reported_exec : Option ReportFields → Option Bool
reported_exec None = None
reported_exec (Some report) = Some report.exec
