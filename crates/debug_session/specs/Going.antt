-- Where a debugger goes to: the first place ahead that has a cause to stop, or the last one before.
use Rattle.std.specs.Prelude.{ℕ, ◌-◌, ◌==◌, ◌&&◌, ◌||◌, zero, suc, Bool, Option, Some, None, if◌then◌else◌, max, min, nat_le}
use Rattle.debug_session.specs.{Request.most_steps, declared.{command.{Going.{Going, TheVariants.{On, Step as OneStep, Range}}, Way.{Way, TheVariants.{Ahead, Back}}}, stop.Stop.{Stop, TheVariants.{Begin, End, Interrupted}}}, Cause.{Seek, Step, cause}, Sight.View, Stops.Stops}

-- a place, and why a debugger stands there
pub record Standing : Type 0 where
  pub place : ℕ
  pub stop : Stop

abbrev pub standing_at : ℕ → Option Stop → Standing → Standing
standing_at place (Some stop) other = record { place = place; stop = stop }
standing_at place None other = other

-- of so many places behind one the first with a cause; else the last of them
abbrev pub first_stop : (ℕ → Option Stop) → ℕ → ℕ → Standing
first_stop cause place zero = record { place = place; stop = End }
first_stop cause place (suc left) =
    standing_at (suc place) (cause (suc place)) (first_stop cause (suc place) left)

-- of the places before one, from 1 on, the last with a cause; else place 1
abbrev pub last_stop : (ℕ → Option Stop) → ℕ → Standing
last_stop cause zero = record { place = 1; stop = Begin }
last_stop cause (suc zero) = record { place = 1; stop = Begin }
last_stop cause (suc (suc before)) =
    standing_at (suc before) (cause (suc before)) (last_stop cause (suc before))

-- a step leads to this level or below
abbrev pub step_of : Going → ℕ → Option Step
step_of On level = None
step_of OneStep level = Some (record { highest = level; first = 0; end = 0 })
step_of (Range first end) level = Some (record { highest = level; first = first; end = end })

-- forwards up to the last place of all, and back from where one stands
abbrev pub last_of : Way → ℕ → ℕ
last_of Ahead place = most_steps
last_of Back place = place

abbrev pub seek_of : View → Way → Going → ℕ → Seek
seek_of view way going place =
    record { way = way; last = last_of way place; step = step_of going (view place).level }

abbrev pub stop_on : Way → (ℕ → Option Stop) → ℕ → Standing
stop_on Ahead cause place = first_stop cause place (most_steps - place)
stop_on Back cause place = last_stop cause place

abbrev pub where_to : View → Stops → Way → Going → ℕ → Standing
where_to view stops way going place =
    stop_on way (cause view stops (seek_of view way going place)) place

-- An interrupt at a place on the way ends the way there: at a boundary, or where it began.
abbrev pub lies_between : ℕ → ℕ → ℕ → Bool
lies_between one other place = nat_le (min one other) place && nat_le place (max one other)

abbrev pub interrupted : View → ℕ → Option ℕ → Standing → Standing
interrupted view from None now = now
interrupted view from (Some place) now =
    if lies_between from now.place place && ((view place).boundary || (place == from))
    then record { place = place; stop = Interrupted }
    else now
