-- A walk that went to where a debugger stops.
use Rattle.std.specs.Prelude.{◌≡◌, ◌≤◌, ◌⊎◌, ◌++◌, ℕ, codes, Option, Some, None, Result, IfOk, OnErr, OnOk, ◌&&◌, ◌||◌, Bool, false, nat_le, not}
use Rattle.device_types.specs.declared.rule.Rule.{Rule}
use Rattle.debug_session.specs.{Request.most_steps, declared.{command.Way.TheVariants.Ahead, stop.Stop.{Stop, TheVariants.Refused}}, Going.Standing, Place.{Run, view_of}, Session.lines_to, Cause.{Step, in_range, refusal_or, stop_of}}
use Rattle.debug_link.specs.{Console.console, Packet.packets_of, Writing.{HasPut, PacketSink, PutsPackets}, declared.answer_fault.AnswerFault.AnswerFault}
use Rattle.debug_walk.specs.{Copies.IsAt, Walk.{IsFresh, Walks, place_of}, declared.{walk.Walk.Walk, stretch.Stretch.Stretch}}
use Rattle.hmac_core.specs.Hash.{Hash}
use Rattle.printed_lines.specs.Line.{reset_line}
use Rattle.outside_edge.specs.{Sink.TakesPrefix, declared.sink.Sink.Ghosts as SinkGhosts}
use Rattle.device_debug.specs.declared.seek.Seek.{Seek}

-- a walk that stands at this place of a run, and may go on there, or is at the end
pub record StandsAt {D : Type 0} (hash : Hash D) (run : Run)
    (place : ℕ) (walk : Walk D) : Type 0 where
  pub walks : Walks hash run walk
  pub place_is : place_of walk ≡ place
  pub within : place ≤ most_steps
  pub settled : IsFresh run walk ⊎ (place ≡ most_steps)

-- it stands where a debugger goes to, and for that reason
pub record HasArrived {D : Type 0} (hash : Hash D) (run : Run)
    (now : Standing) (walk : Walk D) (stop : Stop) : Type 0 where
  pub stands : StandsAt hash run now.place walk
  pub stop_is : stop ≡ now.stop

-- it went on from a place, and the lines of the steps between were put, or a prefix of them
pub record GoesOn {D W : Type 0} (hash : Hash D) (w : SinkGhosts W)
    (old new : PacketSink W) (run : Run) (place : ℕ) (now : Standing)
    (result : Result (Walk D × Stop) AnswerFault) : Type 0 where
  pub arrived : IfOk result (λ end. HasArrived hash run now end.0 end.1)
  pub put : OnOk result (HasPut w old new (lines_to (view_of run) Ahead place now))
  pub prefix : OnErr result (TakesPrefix w.stands old.sink new.sink
      (packets_of (lines_to (view_of run) Ahead place now)))

-- where a step is refused it is told of, and a walk stands at the boundary before it
abbrev pub StopsBefore : {D W : Type 0} → Hash D → SinkGhosts W → PacketSink W → PacketSink W
    → Run → ℕ → Option (ℕ × Rule) → Result (Option (Walk D × Stop)) AnswerFault → Type 0
StopsBefore hash w old new run step None result =
    (new ≡ old) × IfOk result (λ stopped. stopped ≡ None)
StopsBefore {D} hash w old new run step (Some refused) result =
    PutsPackets w old new (console (codes "stops before " ++ reset_line step refused.1)) result
    × IfOk result (λ stopped. (walk : Walk D)
    × IsAt hash run refused.0 walk × (stopped ≡ Some (walk, Refused refused.1)))

-- What a walk looks for.

abbrev pub step_where : Option ℕ → ℕ → ℕ → Option Step
step_where None first end = None
step_where (Some highest) first end = Some (record { highest = highest; first = first; end = end })

-- the step that it looks for, or none
abbrev pub step_in : Seek → Option Step
step_in seek = step_where seek.highest seek.first seek.end

-- a stretch is such a step, where PC is this behind or before it
abbrev pub steps_by : Option Step → Stretch → ℕ → Bool
steps_by None stretch pc = false
steps_by (Some step) stretch pc =
    (stretch.boots || (stretch.begins && nat_le stretch.level step.highest))
    && not (in_range step pc)

-- why a device that goes back stops before a stretch, at a place with this PC
abbrev pub cause_before : Option Step → Stretch → Bool → ℕ → Option Stop
cause_before step stretch plain pc =
    stop_of stretch.last_hit plain (steps_by step stretch pc) (refusal_or stretch.refused None)
