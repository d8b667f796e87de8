-- Going forwards.
use Rattle.std.specs.Prelude.{ℕ, zero, suc, Option, Some, None, is_some, nat_lt, if◌then◌else◌, ◌≡◌, ◌<◌, ◌≤◌}
use Rattle.device_types.specs.declared.rule.Rule.{Rule}
use Rattle.debug_session.specs.{Request.most_steps, declared.{command.Way.TheVariants.{Ahead, Back}, stop.Stop.Stop}, Cause.{Seek, Step, refusal_or}, Sight.View}

abbrev pub seek_ahead : Option Step → Seek
seek_ahead step = record { way = Ahead; last = most_steps; step = step }

abbrev pub place_past : ℕ → ℕ → Option ℕ
place_past from place = if nat_lt from place then Some place else None

-- the last boundary up to a place, if no step since was refused and it lies behind another place:
-- before a refusal at this place a debugger that comes from the other one stops there
abbrev pub last_boundary : View → ℕ → ℕ → Option ℕ
last_boundary view from zero = None
last_boundary view from (suc before) =
    if (view (suc before)).boundary then place_past from (suc before)
    else if is_some (view before).next.refused then None
    else last_boundary view from before

-- that boundary, and the rule, if the step there is refused by one that is told
abbrev pub both_of : Option ℕ → Option Rule → Option (ℕ × Rule)
both_of (Some at) (Some rule) = Some (at, rule)
both_of at rule = None

abbrev pub refused_at : View → ℕ → ℕ → Option (ℕ × Rule)
refused_at view from step =
    both_of (last_boundary view from step) (refusal_or (view step).next.refused None)

-- Going back by pieces of the way.

abbrev pub seek_back : Option Step → ℕ → Seek
seek_back step from = record { way = Back; last = from; step = step }

-- a cause to stop with its place, if there is one
abbrev pub stop_with_place : ℕ → Option Stop → Option (ℕ × Stop)
stop_with_place place None = None
stop_with_place place (Some stop) = Some (place, stop)

-- of the places behind one and up to another this is the last with a cause, where there is one
abbrev pub IsLastBehind : (ℕ → Option Stop) → ℕ → ℕ → Option (ℕ × Stop) → Type 0
IsLastBehind cause begin end None = (place : ℕ) → begin < place → place ≤ end → cause place ≡ None
IsLastBehind cause begin end (Some found) =
    (begin < found.0) × (found.0 ≤ end) × (cause found.0 ≡ Some found.1)
    × ((place : ℕ) → found.0 < place → place ≤ end → cause place ≡ None)
