-- A step, and back, and on again.
use Rattle.std.specs.Prelude.{◌≡◌, ◌<◌, ◌≤◌, ◌⊎◌, ◌-◌, ℕ, true, false, List, length, if◌then◌else◌}
use Rattle.debug_session.specs.{Request.most_steps, declared.{command.Way.TheVariants.Ahead, stop.Stop.TheVariants.{Plain, Stepped}}, Cause.{begins_within, behind, boots, is_plain}, Going.{Standing, where_to}, Session.{Session, first_session, reply}, Sight.View, Stops.Stops}
use Rattle.debug_session.specs.declared.command.Going.TheVariants as going
use Rattle.debug_link.specs.Conversation.{Input, conversation}

-- the session behind what came, a place being that of an interrupt
abbrev pub session_after : View → List (Input ℕ) → Session
session_after view inputs = (conversation (reply view) first_session inputs).session

-- where a session may stand: at place 1, at a boundary behind it or at the last place
pub record MayStandAt (view : View) (place : ℕ) : Type 0 where
  pub behind_boot : 1 ≤ place
  pub within : place ≤ most_steps
  pub settled : (place ≡ 1) ⊎ ((view place).boundary ≡ true) ⊎ (place ≡ most_steps)

-- a step from a boundary ended here, for no other cause, with a boot, or with an instruction that
-- left no handler: behind the RETI of the handler in which the step was made the level is below
-- that of this instruction, and a step back leads to before the handler
pub record HasStepped (view : View) (place : ℕ) (now : Standing) : Type 0 where
  pub from : (view place).boundary ≡ true
  pub stop : now.stop ≡ Stepped
  pub left_none : (boots (behind view now.place) ≡ true)
      ⊎ (begins_within (view now.place).level (behind view now.place) ≡ true)

-- back from there, a debugger stands where this instruction began, and not before the place that
-- the step came from: just there, where the step was of one instruction. The cause is a breakpoint
-- or the number of steps, else the step; and a step leads from there to the same place again, for
-- the same cause
pub record IsTakenBack (view : View) (stops : Stops) (place : ℕ) (now back : Standing)
    : Type 0 where
  pub settled : (view back.place).boundary ≡ true
  pub none_since : (at : ℕ) → back.place < at → at < now.place → (view at).boundary ≡ false
  pub not_before : place ≤ back.place
  pub before_now : back.place < now.place
  pub told : back.stop
      ≡ (if is_plain stops (view back.place) (back.place - length (behind view back.place))
      back.place then Plain else Stepped)
  pub again : where_to view stops Ahead going.Step back.place ≡ now
