-- The progress is sound after every play.
use Rattle.std.{proofs.{Common.{◌≡◌, Bool, [], ◌∷◌, None, true, false, sym, ◌∙◌}, lemmas.List.Elements.{All-nil, All-cons}}, specs.Prelude.All}
use Rattle.part_definitions.specs.{FirstRule.first_rule, MonitorRule.in_rom}
use Rattle.device_types.specs.{ExecFlag.last_pc, declared.{bus_record.BusRecord.BusRecord, kind.Kind.{Kind, TheVariants.Rom}}}
use Rattle.device_trace.specs.{Trace.{Play, logs_after, trace}, Logs.{Logs, vector_of, step_progress, with_events}, Signals.{step_kind, signals_at, signals_of}, Start.Start, Step.{record_of, next_record}, Progress.{Progress, Held, Runs, InCall, next_pc_of}}
use Rattle.trace_facts.{proofs.{Sound.{IsSound, IsWithin, progress_within-right, next_progress-sound}, BreaksNoRule.first_rule-none, EachPlay.{HoldsAfter, logs_after-kept}}, specs.Naming.RunsRomInCall}

-- of the logs of a play
abbrev pub LogsAreSound : Logs → Type 0
LogsAreSound logs = HoldsAfter IsSound logs

pub within_unrefused : (start : Start) (logs : Logs) (reset : Bool)
    → LogsAreSound logs
    → first_rule (last_pc logs.records) (signals_of start logs reset) ≡ None
    → IsWithin (step_kind logs) (step_progress logs (step_kind logs))
unfolding signals_at
within_unrefused start logs reset sound none =
    progress_within-right logs.progress (vector_of logs) (last_pc logs.records) sound
    (first_rule-none (last_pc logs.records) (signals_of start logs reset) none).atomicity.a2

pub logs_after-sound : (start : Start) (play : Play)
    → LogsAreSound (logs_after start play)
logs_after-sound =
    logs_after-kept IsSound (record {
      held = λ last. tt;
      goes_on = λ start logs reset sound none access value.
          next_progress-sound (step_kind logs) _ access value
          (within_unrefused start logs reset sound none);
    })

-- what holds of each record, since the progress before it is sound
pub each_record : (Holds : BusRecord → Type 0) (start : Start)
    → ((logs : Logs) (reset : Bool) → LogsAreSound logs → Holds (record_of start logs reset))
    → (play : Play) → All Holds (trace start play)
unfolding trace next_record with_events
each_record Holds start holds [] = All-nil Holds
each_record Holds start holds (events ∷ play) =
    All-cons Holds (next_record start (logs_after start play) events) (trace start play)
    (holds (with_events (logs_after start play) events) _ (logs_after-sound start play))
    (each_record Holds start holds play)

-- The ROM's code is run in calls alone.

within_rom : (kind : Kind) (progress : Progress) → IsWithin kind progress
    → in_rom (next_pc_of progress) ≡ true → kind ≡ Rom
within_rom kind Held within inside = absurd (cc)
within_rom kind (Runs cpu) within inside =
    let clash : true ≡ false = sym inside ∙ within in
    absurd (cc)
within_rom kind (InCall regs words) within inside = within

record_of-in_call : (start : Start) (logs : Logs) (reset : Bool) → LogsAreSound logs
    → RunsRomInCall (record_of start logs reset)
unfolding record_of signals_at
record_of-in_call start logs reset sound none inside =
    within_rom (step_kind logs) (step_progress logs (step_kind logs))
    (within_unrefused start logs reset sound none) inside

pub trace-in_call : (start : Start) (play : Play)
    → All RunsRomInCall (trace start play)
trace-in_call start = each_record RunsRomInCall start (record_of-in_call start)
