-- The step at a place, and where it leads.
use Rattle.std.{proofs.{Common.{◌≡◌, ℕ, suc, length, refl, ◌<◌, ◌∙◌, true, None, ap}, lemmas.Bool.{cond-true, lt-ltb}}, specs.Prelude.nat_lt}
use Rattle.device_types.specs.declared.{bus_record.BusRecord.BusRecord, kind.Kind.TheVariants.Boot}
use Rattle.device_trace.specs.{Progress.{level_after, access_of, kind_of, progress_within}, Logs.{Logs, progress_after, vector_of, with_events, with_record}, Signals.signals_at, Step.{access_recorded, next_record, record_of}, Trace.{logs_after, trace}}
use Rattle.debug_session.specs.{Place.{Run, logs_at, step_at, no_step, play_to, sight_at, step_sight}, Request.most_steps, Sight.StepSight}
use Rattle.device_core.{specs.Silence.is_silent, proofs.Idle.silent-parts}
use Rattle.device_play.proofs.GoesOn.{silent-lines}
use Rattle.debug_walk.specs.Passing.{IsSilent}

-- the logs after the events of its step
abbrev pub heard_at : Run → ℕ → Logs
heard_at run place = with_events (logs_at run place) (run.events_at place)

pub step-kind : (run : Run) (place : ℕ)
    → (step_at run place).kind
    ≡ kind_of (logs_at run place).progress (vector_of (heard_at run place))
unfolding step_at next_record record_of signals_at with_events
step-kind run place = refl

pub step-progress : (run : Run) (place : ℕ)
    → let entry : BusRecord = step_at run place in
    (logs_at run (suc place)).progress
    ≡ progress_after entry.reset entry.kind
    (progress_within (logs_at run place).progress entry.kind (vector_of (heard_at run place)))
    entry.cpu entry.value
unfolding step_at logs_at logs_after with_record with_events
step-progress run place = refl

pub step-cpu : (run : Run) (place : ℕ)
    → let entry : BusRecord = step_at run place in
    entry.cpu
    ≡ access_recorded entry.reset
    (access_of run.start (length (logs_at run place).released_words) entry.kind
    (progress_within (logs_at run place).progress entry.kind (vector_of (heard_at run place))))
unfolding step_at next_record record_of signals_at with_events
step-cpu run place = refl

pub step-level : (run : Run) (place : ℕ)
    → (logs_at run (suc place)).level
    ≡ level_after (logs_at run place).progress (logs_at run (suc place)).progress
    (logs_at run place).level
unfolding step_at logs_at logs_after with_record with_events
step-level run place = refl

-- at first comes a boot
pub first-kind : (run : Run) → (step_at run 0).kind ≡ Boot
unfolding step_at next_record record_of signals_at with_events logs_at logs_after
first-kind run = refl

-- Steps that nobody is told of.

-- what is seen of the step at a place
pub next-there : (run : Run) (place : ℕ) → place < most_steps
    → (sight_at run place).next ≡ step_sight run place
unfolding sight_at
next-there run place before =
    cond-true (nat_lt place most_steps) (step_sight run place) no_step
    (lt-ltb place most_steps before)

rule-silent : (run : Run) (place : ℕ)
    → is_silent run.start (play_to run (suc place)) ≡ true
    → (step_at run place).reset ≡ None
unfolding trace step_at logs_at
rule-silent run place silent = (silent-parts run.start (play_to run (suc place)) silent).1

pub silent-there : (run : Run) (place : ℕ) → place < most_steps
    → is_silent run.start (play_to run (suc place)) ≡ true
    → IsSilent run place
unfolding step_sight
silent-there run place before silent =
    let next = next-there run place before in
    record {
      unrefused = ap (λ (step : StepSight). step.refused) next ∙ rule-silent run place silent;
      lines = ap (λ (step : StepSight). step.lines) next
          ∙ silent-lines run.start (run.events_at place) (play_to run place) silent;
    }
