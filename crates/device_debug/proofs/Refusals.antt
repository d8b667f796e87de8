-- What is told where the last step was refused.
use Rattle.std.{proofs.{Common.{◌≡◌, ◌≤◌, ◌<◌, ◌∙◌, ◌++◌, ℕ, List, [], Option, Some, None, Result, Ok, Err, IsErr, refl, ap, sym, arith, ◌+◌, ◌⊎◌, inl, inr, zero, suc, Bool, true, false, is_some, subst}, lemmas.{Bool.{false≢true, cond-false, le-ltb}, List.append-nil}}, specs.Prelude.{IfOk, codes, nat_lt, if◌then◌else◌, is_ok}}
use Rattle.device_types.specs.declared.{rule.Rule.Rule, bus_record.BusRecord.BusRecord}
use Rattle.hmac_core.specs.Hash.{Hash}
use Rattle.printed_lines.specs.Line.{reset_line}
use Rattle.debug_session.{specs.{Request.most_steps, declared.stop.Stop.{Stop, TheVariants.Refused}, Cause.refusal_or, Place.{Run, sight_at, view_of, logs_at, play_to, step_at, step_sight}, Sight.{Sight, StepSight}}, proofs.Views.{next-at, view-at}}
use Rattle.debug_link.{specs.{Console.console, Packet.packets_of, Writing.{PacketSink, PutsPackets}, declared.answer_fault.AnswerFault.{AnswerFault, TheVariants.Memory}}, proofs.AddedText.{puts_behind, puts_failed}}
use Rattle.debug_walk.{specs.{Copies.IsAt, declared.walk.Walk.Walk}, proofs.Views.some-same}
use Rattle.device_debug.{specs.{Ahead.{both_of, last_boundary, refused_at, place_past}, Going.StopsBefore, Telling.GrownText}, proofs.Ahead.{both-parts, last-is, none-told}}
use Rattle.device_core.specs.Silence.{last_rule}
use Rattle.device_play.proofs.WriteCounts.{nothing-begun}
use Rattle.device_trace.specs.Trace.{last_record, trace}
use Rattle.outside_edge.specs.{Sink.Puts, declared.sink.Sink.Ghosts as SinkGhosts}

-- The text of a refusal grows in memory, and is put then.

-- the text behind a call that put more
pub has-grown : {V E : Type 0} (old new : GrownText) (text : List ℕ) (given : Result V E)
    → Puts (λ (grown : GrownText) (bytes : List ℕ). bytes ≡ grown.bytes) old new text given
    → true ≡ is_ok given
    → new.bytes ≡ old.bytes ++ text
has-grown old new text (Ok value) puts is = sym (puts.all old.bytes refl)
has-grown old new text (Err error) puts is = absurd (false≢true (sym is))

-- a text into which another one was put, before which there was none
pub grown-all : {V E : Type 0} (old new : GrownText) (text : List ℕ) (result : Result V E)
    → old.bytes ≡ [] → true ≡ is_ok result
    → Puts (λ (one : GrownText) (bytes : List ℕ). bytes ≡ one.bytes) old new text result
    → new.bytes ≡ text
grown-all old new text result none is puts =
    has-grown old new text result puts is ∙ ap (λ (front : List ℕ). front ++ text) none

-- a call that failed before the first packet
pub puts-none : {W V E : Type 0} (w : SinkGhosts W) (same : PacketSink W)
    (bodies : List (List ℕ)) (result : Result V E)
    → IsErr result → PutsPackets w same same bodies result
puts-none w same bodies result is =
    puts_failed w same same bodies result is
    (nothing-begun w.stands same.sink (packets_of bodies))

module _ {D W : Type 0} (hash : Hash D) (w : SinkGhosts W) (run : Run) (from step : ℕ)
    (few : step < most_steps)
  where
    abbrev StopsSo : PacketSink W → PacketSink W → Result (Option (Walk D × Stop)) AnswerFault
        → Type 0
    StopsSo old new result =
        StopsBefore hash w old new run step (refused_at (view_of run) from step) result

    abbrev told : Option Rule
    told = refusal_or (sight_at run step).next.refused None

    found-is : refused_at (view_of run) from step
        ≡ both_of (last_boundary (view_of run) from step) told
    found-is =
        ap (λ (sight : Sight). both_of (last_boundary (view_of run) from step)
        (refusal_or sight.next.refused None)) (view-at run step (omega (arith, few)))

    pub stops-unrefused : (now : PacketSink W) → None ≡ told → StopsSo now now (Ok None)
    stops-unrefused now none =
        rw (found-is, ← none, none-told (last_boundary (view_of run) from step)) (refl, refl)

    pub looking-fails : (now : PacketSink W) (found : Option (ℕ × Rule))
        (result : Result (Option (Walk D × Stop)) AnswerFault) → IsErr result
        → StopsBefore hash w now now run step found result
    looking-fails now found (Ok value) failed = absurd (false≢true failed)
    looking-fails now None (Err fault) failed = (refl, tt)
    looking-fails now (Some found) (Err fault) failed = (puts-none w now _ (Err fault) refl, tt)

    pub found-so : (at : ℕ) (rule : Rule) → Some rule ≡ told
        → Some at ≡ last_boundary (view_of run) from step
        → refused_at (view_of run) from step ≡ Some (at, rule)
    found-so at rule told_is last_is =
        found-is ∙ (λ i. both_of (sym last_is i) (sym told_is i))

    -- it is told of the step, by its number
    module _ (at : ℕ) (rule : Rule) (found : refused_at (view_of run) from step ≡ Some (at, rule))
        (number : ℕ) (same : number ≡ step)
      where
        abbrev text : ℕ → List (List ℕ)
        text one = console (codes "stops before " ++ reset_line one rule)

        pub at-most : at ≤ most_steps
        at-most =
            let last = last-is (view_of run) from step at (omega (arith, few))
            (both-parts _ _ at rule found).0 in
            omega (arith, last.before, few)

        stops-as : (old new : PacketSink W)
            (result : Result (Option (Walk D × Stop)) AnswerFault)
            → PutsPackets w old new (text number) result
            → IfOk result (λ stopped. (walk : Walk D) × IsAt hash run at walk
            × (stopped ≡ Some (walk, Refused rule)))
            → StopsSo old new result
        stops-as old new result puts there =
            rw found (subst (λ (one : ℕ). PutsPackets w old new (text one) result) same puts, there)

        -- it failed to tell it, or behind that
        pub fails-behind : {V : Type 0} (old new : PacketSink W) (told : Result V AnswerFault)
            (result : Result (Option (Walk D × Stop)) AnswerFault) → IsErr result
            → PutsPackets w old new (text number) told → StopsSo old new result
        fails-behind old new told (Ok value) failed puts = absurd (false≢true failed)
        fails-behind old new (Err fault) (Err other) failed puts =
            stops-as old new (Err other) (record { all = tt; prefix = puts.prefix }) tt
        fails-behind old new (Ok value) (Err other) failed puts =
            stops-as old new (Err other)
            (rw (append-nil (text number)) at
            (puts_behind w {V = Option (Walk D × Stop)} old new new (text number) [] (Err other)
            puts.all (puts-none w new [] (Err other) refl)))
            tt

        pub stops-at : {V : Type 0} (old new : PacketSink W) (value : V) (walk : Walk D)
            → IsAt hash run at walk
            → PutsPackets {E = AnswerFault} w old new (text number) (Ok value)
            → StopsSo old new (Ok (Some (walk, Refused rule)))
        stops-at old new value walk there puts =
            stops-as old new (Ok (Some (walk, Refused rule)))
            (record { all = puts.all; prefix = tt }) (walk, there, refl)

-- A walk that looks for the last boundary before a refusal.

next-there : (run : Run) (place : ℕ) → place < most_steps
    → (sight_at run place).next ≡ step_sight run place
next-there run place before =
    rw (view-at run place (omega (arith, before))) at (next-at run place before)

-- the rule by which a walk's last step was refused
pub refused-was : (run : Run) (place before : ℕ) (entry : BusRecord) → place ≡ suc before
    → place ≤ most_steps → last_record (trace run.start (play_to run place)) ≡ Some entry
    → (sight_at run before).next.refused ≡ entry.reset
unfolding trace step_at logs_at step_sight
refused-was run place before entry made within is =
    ap (λ (next : StepSight). next.refused)
    (next-there run before (omega (arith, made, within)))
    ∙ ap (λ (one : BusRecord). one.reset) (some-same (rw made at is))

-- the rule that the line of a walk's last step tells
pub refusal-was : (run : Run) (before place : ℕ) (told : Option Rule) → place ≡ before + 1
    → place ≤ most_steps → told ≡ last_rule (trace run.start (play_to run place))
    → refusal_or told None ≡ refusal_or (sight_at run before).next.refused None
unfolding trace step_at logs_at step_sight
refusal-was run before place told made within is =
    let same : place ≡ suc before = omega (arith, made) in
    let here : told ≡ (step_at run before).reset = rw same at is in
    ap (λ (one : Option Rule). refusal_or one None)
    (here ∙ sym (ap (λ (next : StepSight). next.refused)
    (next-there run before (omega (arith, made, within)))))

none-either : (here : Bool) (one : Option ℕ) → one ≡ None → (if here then one else None) ≡ None
none-either true one none = none
none-either false one none = refl

module _ (run : Run) (from : ℕ) where
  pub past-behind : (place before : ℕ) (reset : Option Rule) (some : Bool) (last : Option ℕ)
      → false ≡ (sight_at run place).boundary → (sight_at run before).next.refused ≡ reset
      → some ≡ is_some reset
      → (if some then None else last)
      ≡ (if (sight_at run place).boundary then place_past from place
      else if is_some (sight_at run before).next.refused then None else last)
  past-behind place before reset some last away is told = rw (← away, is, ← told) refl

  pub past-first : (place : ℕ) → place ≤ most_steps
      → (place ≡ 0) ⊎ ((sight_at run place).boundary ≡ true)
      → (if (sight_at run place).boundary then place_past from place else None)
      ≡ last_boundary (view_of run) from place
  past-first zero within settled =
      none-either (sight_at run 0).boundary (place_past from 0)
      (cond-false (nat_lt from 0) (Some 0) None (le-ltb from 0 (omega arith)))
  past-first (suc before) within settled = elim settled [
    | inl none ↦ absurd (omega (arith, none))
    | inr here ↦ rw (view-at run (suc before) within, here) refl
  ]

  pub past-next : (place before : ℕ) (last result : Option ℕ) → place ≡ suc before
      → place ≤ most_steps → last ≡ last_boundary (view_of run) from before
      → result ≡ (if (sight_at run place).boundary then place_past from place
      else if is_some (sight_at run before).next.refused then None else last)
      → result ≡ last_boundary (view_of run) from place
  past-next place before last result made within known is =
      rw (
        made,
        view-at run (suc before) (omega (arith, made, within)),
        view-at run before (omega (arith, made, within)),
        ← known,
      )
      (rw made at is)
