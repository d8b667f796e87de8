-- Why a debugger stops at a place: for what is there, for what lies between it and where it came
-- from, and for what lies ahead.
use Rattle.std.specs.Prelude.{ℕ, ◌==◌, ◌&&◌, ◌||◌, ◌-◌, ◌++◌, Bool, true, false, zero, suc, List, [], ◌∷◌, Option, Some, None, length, nat_le, nat_lt, not, if◌then◌else◌}
use Rattle.device_types.specs.{declared.rule.Rule.{Rule, TheVariants.X0}, Kind.{is_boot, is_cpu, is_rom}, Map.ROM_ENTRY}
use Rattle.part_definitions.specs.CpuRegister.{is_asleep, pc_of}
use Rattle.debug_session.specs.{Stops.{Stops, has_breakpoint}, Watched.{first_hit, last_hit}, declared.{stop.Stop.{Stop, TheVariants.{Plain, Stepped, Watched, Refused}}, watch.{Hit.Hit, Watch.Watch}, command.Way.{Way, TheVariants.{Ahead, Back}}}, Sight.{Sight, View}}

-- where a step stops, too: it leads over instructions of this level at most, to a PC that is not in
-- a range, from the first address to before the end
pub record Step : Type 0 where
  pub highest : ℕ
  pub first : ℕ
  pub end : ℕ

-- what is looked for on this way, by steps before this place alone: a step too, or none
pub record Seek : Type 0 where
  pub way : Way
  pub last : ℕ
  pub step : Option Step

-- what is read of the steps since the boundary before a place
abbrev pub behind : View → ℕ → List Sight
behind view zero = []
behind view (suc before) =
    (if (view before).boundary then [] else behind view before) ++ view before ∷ []

-- and of so many steps from a place on, up to the next boundary
abbrev pub ahead : View → ℕ → ℕ → List Sight
ahead view place zero = []
ahead view place (suc steps) =
    view place ∷ (if (view (suc place)).boundary then [] else ahead view (suc place) steps)

abbrev pub hits : List Watch → List Sight → List Hit
hits watches [] = []
hits watches (sight ∷ sights) = sight.next.hits watches ++ hits watches sights

-- on the way back the last one is met first
abbrev pub hit_on : Way → List Hit → Option Hit
hit_on Ahead made = first_hit made
hit_on Back made = last_hit None made

-- the rule by which one of the steps is refused; the script's reset stops nothing
abbrev pub told_rule : Rule → Option Rule
told_rule X0 = None
told_rule rule = Some rule

abbrev pub refusal_or : Option Rule → Option Rule → Option Rule
refusal_or (Some rule) later = told_rule rule
refusal_or None later = later

abbrev pub refusal : List Sight → Option Rule
refusal [] = None
refusal (sight ∷ sights) = refusal_or sight.next.refused (refusal sights)

-- a boot ends here
abbrev pub boots : List Sight → Bool
boots [] = false
boots (sight ∷ []) = is_boot sight.next.kind
boots (sight ∷ sights) = boots sights

-- an instruction begins, or a call of the ROM, which is one instruction here, of no higher level
abbrev pub begins_within : ℕ → List Sight → Bool
begins_within highest [] = false
begins_within highest (sight ∷ sights) =
    sight.boundary && (is_cpu sight.next.kind || is_rom sight.next.kind)
    && nat_le sight.level highest

abbrev pub in_range : Step → ℕ → Bool
in_range step pc = nat_le step.first pc && nat_lt pc step.end

abbrev pub steps_over : Option Step → Sight → List Sight → Bool
steps_over None here between = false
steps_over (Some step) here between =
    (boots between || begins_within step.highest between)
    && not (in_range step (pc_of here.registers))

-- at a boundary: the processor doesn't sleep, or a call of the ROM begins
abbrev pub is_awake : Sight → Bool
is_awake here = not (is_asleep here.registers) || (pc_of here.registers == ROM_ENTRY)

abbrev pub is_broken_at : Stops → Sight → Bool
is_broken_at stops here = is_awake here && has_breakpoint stops (pc_of here.registers)

-- the first boundary that is not before so many steps
abbrev pub is_due : Option ℕ → ℕ → ℕ → Bool
is_due None earlier place = false
is_due (Some number) earlier place = nat_lt earlier number && nat_le number place

abbrev pub is_plain : Stops → Sight → ℕ → ℕ → Bool
is_plain stops here earlier place =
    is_broken_at stops here || is_due stops.until earlier place

-- a watch goes before breakpoint and until, these before a step, and that before a refusal
abbrev pub stop_of : Option Hit → Bool → Bool → Option Rule → Option Stop
stop_of (Some hit) plain stepped rule = Some (Watched hit)
stop_of None true stepped rule = Some Plain
stop_of None false true rule = Some Stepped
stop_of None false false (Some rule) = Some (Refused rule)
stop_of None false false None = None

-- at a place: what lies between it and where one came from, and behind and ahead of it
abbrev pub sights_between : Way → List Sight → List Sight → List Sight
sights_between Ahead before after = before
sights_between Back before after = after

abbrev pub cause_here : Stops → Seek → ℕ → Sight → List Sight → List Sight → Option Stop
cause_here stops seek place here before after =
    if here.boundary
    then stop_of (hit_on seek.way (hits stops.watches (sights_between seek.way before after)))
    (is_plain stops here (place - length before) place)
    (steps_over seek.step here (sights_between seek.way before after))
    (refusal after)
    else None

abbrev pub cause : View → Stops → Seek → ℕ → Option Stop
cause view stops seek place =
    cause_here stops seek place (view place) (behind view place)
    (ahead view place (seek.last - place))
