-- A device on its way through the places of a run, and what is kept of the steps since a boundary.
use Rattle.std.specs.{Prelude.{◌≡◌, ◌<◌, ◌⊎◌, ◌&&◌, ◌-◌, ℕ, suc, Bool, true, List, [], ◌∷◌, Option, None, length, nat_le, if◌then◌else◌}, Option.option_or}
use Rattle.device_types.specs.{declared.rule.Rule.Rule, TraceFlag.Flag}
use Rattle.debug_session.specs.{declared.{command.Way.TheVariants.{Ahead, Back}, seen_accesses.SeenAccesses.SeenAccesses, watch.Watch.Watch}, Cause.{begins_within, behind, boots, hit_on, hits, is_due}, Place.{Run, aux_at, differs, exec_at, sight_at, step_at, view_of}, Sight.Sight, Stops.Stops, Watched.seen_accesses}
use Rattle.debug_walk.specs.{Stretch.{stretch_from, stretch_of_last, stretch_with}, declared.{stretch.Stretch.Stretch, walk.Walk.Walk}}
use Rattle.device_core.specs.{Device.steps_made, declared.live.Live.Live}
use Rattle.device_play.specs.Midway.{IsMidway}
use Rattle.execution_flags.specs.{RunFlag.flag_of_run, declared.{run_flag.RunFlag.RunFlag, aux_flag.AuxConditions.AuxConditions}}
use Rattle.hmac_core.specs.Hash.{Hash}
use Rattle.part_definitions.specs.TrustedFlag.{aux}
use Rattle.play_script.specs.declared.playback.Playback.{Playback}

-- the second flag of its device
abbrev pub AuxFlag : Type 0
AuxFlag = RunFlag AuxConditions

abbrev pub second_flag : Flag AuxFlag
second_flag = flag_of_run aux

-- the place where it stands
abbrev pub place_of : {D : Type 0} → Walk D → ℕ
place_of walk = steps_made walk.live

-- this holds of each run in whose middle a device is, and its place
abbrev pub OfMidway :
    {D : Type 0} → Hash D → Live D AuxFlag → (Run → ℕ → Type 0) → Type 0
OfMidway hash live holds =
    (run : Run) (playback : Playback)
    → IsMidway hash second_flag run.start run.events_at live playback
    → holds run (steps_made live)

-- its device is in the middle of a run
abbrev pub Walks : {D : Type 0} → Hash D → Run → Walk D → Type 0
Walks hash run walk = IsMidway hash second_flag run.start run.events_at walk.live walk.playback

-- this holds of each run that it walks through, and its place
abbrev pub OfWalk :
    {D : Type 0} → Hash D → Walk D → (Run → ℕ → Type 0) → Type 0
OfWalk hash walk holds = (run : Run) → Walks hash run walk → holds run (place_of walk)

-- the rule by which the first of them is refused that is, the script's reset too
abbrev pub first_refused : List Sight → Option Rule
first_refused [] = None
first_refused (sight ∷ sights) = option_or sight.next.refused (first_refused sights)

-- what is kept is that of all the steps since the last boundary
pub record IsStretch (watches : List Watch) (run : Run) (place : ℕ) (stretch : Stretch)
    : Type 0 where
  pub begin : stretch.place ≡ place - length (behind (view_of run) place)
  pub begins : (highest : ℕ) → (stretch.begins && nat_le stretch.level highest)
      ≡ begins_within highest (behind (view_of run) place)
  pub boot : stretch.boots ≡ boots (behind (view_of run) place)
  pub first : stretch.first_hit ≡ hit_on Ahead (hits watches (behind (view_of run) place))
  pub last : stretch.last_hit ≡ hit_on Back (hits watches (behind (view_of run) place))
  pub refused : stretch.refused ≡ first_refused (behind (view_of run) place)

-- the stretch to which the step at a place belongs, where this one was kept: at a boundary another
-- begins
abbrev pub stretch_there : Run → ℕ → Stretch → Stretch
stretch_there run place stretch =
    if (sight_at run place).boundary then stretch_from place (sight_at run place).level else stretch

-- what a watch sees of the step at a place
abbrev pub seen_at : Run → ℕ → SeenAccesses
seen_at run place =
    seen_accesses (step_at run place) (differs (exec_at run place) (exec_at run (suc place)))
    (differs (aux_at run place) (aux_at run (suc place)))

-- a walk that begins a stretch, or knows all of the one where it is
abbrev pub IsFresh : {D : Type 0} → Run → Walk D → Type 0
IsFresh run walk =
    ((sight_at run (place_of walk)).boundary ≡ true)
    ⊎ ((watches : List Watch) → IsStretch watches run (place_of walk) walk.stretch)

-- what is kept says why to stop here, whatever steps were gone over: a watch and a number of steps;
-- where each instruction counts, it is that of all the steps
pub record TellsCause (stops : Stops) (asleep : Bool) (run : Run) (place : ℕ) (stretch : Stretch)
    : Type 0 where
  pub begun : (stretch.place ≡ 0) ⊎ (stretch.place < place)
  pub first : stretch.first_hit
      ≡ hit_on Ahead (hits stops.watches (behind (view_of run) place))
  pub due : is_due stops.until stretch.place place
      ≡ is_due stops.until (place - length (behind (view_of run) place)) place
  pub exact : asleep ≡ true → IsStretch stops.watches run place stretch

-- with the step at a place, which is looked at
abbrev pub stretch_past : List Watch → Run → ℕ → Stretch → Stretch
stretch_past watches run place before =
    stretch_with before place (step_at run place) (seen_at run place) watches

-- behind a row in this stretch, whose last step is looked at where it was kept
abbrev pub stretch_behind : List Watch → Run → ℕ → Stretch → ℕ → Bool → Stretch
stretch_behind watches run from stretch last kept =
    if kept then stretch_past watches run last (stretch_of_last stretch from last)
    else stretch_of_last stretch from last
