-- Steps without events, and those that have no line.
use Rattle.std.proofs.Common.{◌≡◌, ◌∙◌, ◌-◌, ◌&&◌, ◌||◌, ℕ, Bool, true, false, not, [], ◌∷◌, Option, None, Some, is_none, is_some, option_map, refl, sym, ap, arith, add-one, subst, length, ◌+◌, zero, suc}
use Rattle.device_types.specs.{declared.rule.Rule.Rule, ExecFlag.SeenHistory, TraceFlag.Flag}
use Rattle.hmac_core.specs.Hash.{Hash}
use Rattle.device_trace.specs.{Trace.{Play, trace, last_record, last_signals, logs_after}, Logs.{finishes_call, flags_of, with_events, with_record}, Start.Start, Step.{next_record, next_signals}, Text.{byte_sent_in, last_byte_sent, last_decision, last_denial, last_report}, Signals.signals_of}
use Rattle.device_core.{specs.{Machine.{MachineStandsFor, PlaysAt, StandsAfter, stage_of}, declared.{last_step.LastStep.LastStep, machine.Machine.Machine, stage.Stage.Stage}, Bus.{last_seen, KeepsSignals, LastStandsFor, logs_after_step}, Silence.{is_silent, last_rule, with_idle, OfEach}}, proofs.Histories.{last_report-where, last_seen-last_record, silent-Some, silent-None}}

pub idle-logs :
    (start : Start) (play : Play)
    → logs_after start ([] ∷ play) ≡ logs_after_step start (logs_after start play) false
unfolding logs_after next_record with_events
idle-logs start play = refl

quiet :
    (byte : Option ℕ) (rule : Option Rule) (finishes : Bool)
    → (is_some byte || is_some rule || finishes) ≡ false
    → (is_none byte && is_none rule && not finishes) ≡ true
quiet None None false line = refl
quiet None None true line = absurd cc
quiet None (Some rule) finishes line = absurd cc
quiet (Some byte) rule finishes line = absurd cc

silent-records :
    (start : Start) (play : Play) (records : SeenHistory)
    → option_map (λ now. now.entry) (last_seen records) ≡ last_record (trace start play)
    → LastStandsFor start None records → is_silent start play ≡ true
silent-records start play [] same last = silent-None start play (sym same)
silent-records start play (now ∷ before) same last =
    silent-Some start play now.entry (sym same)
    ∙ quiet (byte_sent_in now.entry) now.entry.reset (finishes_call now.entry) last.0

-- a step whose record was not kept
pub silent-unkept :
    (start : Start) (play : Play) (last : Option LastStep)
    → LastStandsFor start last (logs_after start play).records → is_some last ≡ false
    → is_silent start play ≡ true
silent-unkept start play None stands none =
    silent-records start play (logs_after start play).records (last_seen-last_record start play)
    stands
silent-unkept start play (Some step) stands none = absurd cc

pub flags-unkept :
    (start : Start) (play : Play) (last : Option LastStep)
    → LastStandsFor start last (logs_after start ([] ∷ play)).records → is_some last ≡ false
    → flags_of start (logs_after start ([] ∷ play)) ≡ flags_of start (logs_after start play)
unfolding logs_after with_record with_events
flags-unkept start play None stands none = stands.1
flags-unkept start play (Some step) stands none = absurd cc

-- one such step more
pub idle-more :
    (steps : ℕ) (play : Play)
    → with_idle (steps + 1) play ≡ [] ∷ with_idle steps play
idle-more steps play = rw add-one refl

-- before the first step none is kept
pub first-signals :
    (start : Start) (last : Option LastStep)
    → LastStandsFor start last [] → KeepsSignals last (last_signals start [])
first-signals start None stands = tt
first-signals start (Some step) stands = absurd cc

idle-signals :
    (start : Start) (play : Play)
    → next_signals start (logs_after start play) []
    ≡ signals_of start (logs_after start play) false
unfolding with_events
idle-signals start play = refl

kept-idle :
    (start : Start) (play : Play) (last : Option LastStep)
    → KeepsSignals last (Some (signals_of start (logs_after start play) false))
    → KeepsSignals last (last_signals start ([] ∷ play))
kept-idle start play last keeps =
    subst (λ now. KeepsSignals last (Some now)) (sym (idle-signals start play)) keeps

pub goes-idle :
    {D G : Type 0} {hash : Hash D} {flag : Flag G} {stage : Stage} {machine : Machine D G}
    {start : Start} (steps : ℕ) (play : Play)
    → StandsAfter hash flag stage machine start
    (logs_after start (with_idle steps play)) false
    → PlaysAt hash flag stage machine start (with_idle (steps + 1) play)
goes-idle {hash = hash} {flag = flag} {stage = stage} {machine = machine} {start = start}
    steps play stands =
    let before = with_idle steps play in
    subst (λ here. PlaysAt hash flag stage machine start here)
    (sym (idle-more steps play))
    (record {
      same = subst (λ logs. MachineStandsFor hash flag machine start logs)
          (sym (idle-logs start before)) stands.same;
      same_stage = subst (λ logs. stage ≡ stage_of logs.progress)
          (sym (idle-logs start before)) stands.same_stage;
      same_signals = kept-idle start before machine.bus.last stands.same_signals;
    })

-- steps behind steps
pub idle-after :
    (more steps : ℕ) (play : Play)
    → with_idle more (with_idle steps play) ≡ with_idle (steps + more) play
idle-after zero steps play = let none : steps + 0 ≡ steps = omega arith in rw none refl
idle-after (suc more) steps play =
    let next : steps + suc more ≡ suc (steps + more) = omega arith in
    rw next (ap (λ before. [] ∷ before) (idle-after more steps play))

pub idle-behind :
    (steps : ℕ) (play : Play) → with_idle steps ([] ∷ play) ≡ with_idle (steps + 1) play
idle-behind steps play =
    let next : 1 + steps ≡ steps + 1 = omega arith in
    idle-after steps 1 play ∙ ap (λ (made : ℕ). with_idle made play) next

-- what holds of each
pub each-more :
    (holds : Play → Type 0) (steps : ℕ) (play : Play)
    → holds (with_idle steps play) → OfEach holds steps play → OfEach holds (steps + 1) play
each-more holds steps play last all = rw add-one (last, all)

pub each-after :
    (holds : Play → Type 0) (more steps : ℕ) (play : Play)
    → OfEach holds more (with_idle steps play) → OfEach holds steps play
    → OfEach holds (steps + more) play
each-after holds zero steps play later all =
    let none : steps + 0 ≡ steps = omega arith in rw none all
each-after holds (suc more) steps play later all =
    let next : steps + suc more ≡ suc (steps + more) = omega arith in
    let last : holds (with_idle (steps + more) play) =
    subst holds (idle-after more steps play) later.0 in
    rw next (last, each-after holds more steps play later.1 all)

pub each-fewer :
    (holds : Play → Type 0) (steps : ℕ) (play : Play)
    → OfEach holds steps play → OfEach holds (steps - 1) play
each-fewer holds zero play all = all
each-fewer holds (suc steps) play all =
    let same : suc steps - 1 ≡ steps = omega arith in rw same all.1

pub each-less :
    (holds : Play → Type 0) (steps : ℕ) (play : Play)
    → OfEach holds steps play → OfEach holds (steps + 1 - 1) play
each-less holds steps play all =
    let same : steps + 1 - 1 ≡ steps = omega arith in rw same all

pub length-idle :
    (steps : ℕ) (play : Play) → length (with_idle steps play) ≡ length play + steps
length-idle zero play = omega arith
length-idle (suc steps) play =
    let before = length-idle steps play in omega arith

-- a step that has no line sent nothing, broke no rule and finished no call
none-of :
    {A B C : Type 0} (byte : Option A) (rule : Option B) (decision : Option C)
    → (is_none byte && is_none rule && is_none decision) ≡ true
    → (byte ≡ None) × (rule ≡ None) × (decision ≡ None)
none-of None None None none = (refl, refl, refl)
none-of None None (Some decision) none = absurd cc
none-of None (Some rule) decision none = absurd cc
none-of (Some byte) rule decision none = absurd cc

pub silent-parts :
    (start : Start) (play : Play)
    → is_silent start play ≡ true
    → (last_byte_sent (trace start play) ≡ None) × (last_rule (trace start play) ≡ None)
    × (last_decision start play ≡ None)
silent-parts start play silent = none-of _ _ _ silent

-- without a decision there is no report and no denial
pub undecided-report :
    (start : Start) (play : Play)
    → last_decision start play ≡ None → last_report start play ≡ None
undecided-report start play none = last_report-where start play ∙ rw none refl

pub undecided-denial :
    (start : Start) (play : Play)
    → last_decision start play ≡ None → last_denial start play ≡ None
undecided-denial start play none = rw none refl
