-- Which events the timer stands for.
use Rattle.std.specs.Prelude.{◌≡◌, ◌==◌, List, ◌-◌, ℕ, zero, suc, ◌∷◌, min, if◌then◌else◌}
use Rattle.device_peripherals.specs.{Register.HoldsWrites, declared.timer.Timer.Timer}
use Rattle.part_definitions.specs.Timer.{TimerEvent, TIMER_CONTROL, TIMER_COMPARE, timer_writes, timer_count, timer_flag, steps_of_count, Tick, timer_runs, timer_compare}

-- the timer is as these events, newest first, left it
pub record TimerStandsFor (timer : Timer) (events : List TimerEvent) : Type 0 where
  pub same_control : HoldsWrites TIMER_CONTROL timer.control (timer_writes events)
  pub same_compare : HoldsWrites TIMER_COMPARE timer.compare (timer_writes events)
  pub same_count : timer.count ≡ timer_count events
  pub same_fresh : timer.fresh ≡ (steps_of_count events == 0)
  pub same_flag : timer.flag ≡ timer_flag events

-- Steps that end one after the other.

-- so many steps end
abbrev pub with_ticks : ℕ → List TimerEvent → List TimerEvent
with_ticks zero events = events
with_ticks (suc steps) events = Tick ∷ with_ticks steps events

-- how many steps, of so many at most, end before the count of a timer that runs comes to 0 again:
-- it goes on by 1 a step up to TCMP
abbrev pub ticks_before_zero : ℕ → List TimerEvent → ℕ
ticks_before_zero most events =
    if timer_runs events then min most (timer_compare events - timer_count events) else most
