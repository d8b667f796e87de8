-- A walk that goes on, and what it told so far.
use Rattle.std.{proofs.{Common.{◌≡◌, ◌≤◌, ◌<◌, ◌+◌, ◌-◌, ◌∙◌, ◌++◌, ◌⊎◌, inl, inr, ℕ, suc, Bool, true, false, List, [], ◌∷◌, Option, Some, None, Result, Ok, Err, is_some, refl, ap, sym, subst, arith, append_assoc}, lemmas.{Bool.{cond-true, false≢true}, List.append-nil}}, specs.Prelude.{◌&&◌, IsErr, codes, if◌then◌else◌}}
use Rattle.device_types.specs.declared.rule.Rule.{Rule}
use Rattle.hmac_core.specs.Hash.{Hash}
use Rattle.outside_edge.specs.declared.sink.Sink.{Ghosts as SinkGhosts}
use Rattle.printed_lines.specs.Line.{reset_line}
use Rattle.debug_session.{specs.{Request.most_steps, declared.{command.Way.TheVariants.Ahead, stop.Stop.{Stop, TheVariants.{End, Interrupted, Refused}}, watch.Hit.Hit}, Cause.{Step, behind, cause_here, hit_on, steps_over, stop_of}, Going.{Standing, interrupted}, Place.{Run, sight_at, view_of}, Session.{lines_to}, Sight.{Sight}, Stops.Stops}, proofs.Views.{next-at, view-at}}
use Rattle.debug_link.{specs.{Console.console, Writing.{HasPut, PacketSink, PutsPackets}, declared.answer_fault.AnswerFault.{AnswerFault, TheVariants.Memory}}, proofs.AddedText.{put_both, put_none, puts_behind, puts_less}}
use Rattle.debug_walk.{specs.{Copies.IsAt, Passing.{ArePassed, AreSilent}, Walk.{TellsCause, Walks, place_of}, declared.walk.Walk.Walk}, proofs.Views.some-same}
use Rattle.device_debug.{specs.{Ahead.{refused_at, seek_ahead}, Going.{GoesOn, StandsAt, StopsBefore}, Telling.{GrownText, TellsStep, bodies_of}}, proofs.{Ahead.{IsClear, IsWay, StopsAt, aim, aim-past, at-end, cause_by, put-here, some-lines, stops-before, stops-here, stops-last, way-first, way-silent, way-step}, Arrived.{arrives-there, interrupted-at}, Back.{idle-over, exact-tells}, Refusals.puts-none}}

no-cause : (here plain over : Bool) (hit : Option Hit) → hit ≡ None → (here && plain) ≡ false
    → over ≡ false → (if here then stop_of hit plain over None else None) ≡ None
no-cause true plain over hit unmet unplain none = rw (unmet, unplain, none) refl
no-cause false plain over hit unmet unplain none = refl

-- the step that led to the place of a walk
abbrev pub step_before : {D : Type 0} → Walk D → ℕ
step_before walk = place_of walk - 1

module _ {D W : Type 0} (hash : Hash D) (w : SinkGhosts W) (run : Run) (stops : Stops)
    (step : Option Step) (from : ℕ)
  where
    -- the way up to a place: its lines were told, and there was nothing to stop for
    pub record HasTold (old now : PacketSink W) (place : ℕ) (waiting : List GrownText)
        : Type 0 where
      pub put : List (List ℕ)
      pub has_put : HasPut w old now put
      pub way : IsWay (view_of run) stops step from place (bodies_of waiting) put
      pub clear : IsClear (view_of run) stops step from place

    -- what a walk tells of a cause at its place
    abbrev pub Tells : Walk D → Type 0
    Tells walk = TellsCause stops (is_some step) run (place_of walk) walk.stretch

    abbrev pub MayTell : Walk D → Type 0
    MayTell walk = ((sight_at run (place_of walk)).boundary ≡ true) ⊎ Tells walk

    pub record IsGoing (old now : PacketSink W) (walk : Walk D) (waiting : List GrownText)
        : Type 0 where
      pub walks : Walks hash run walk
      pub within : place_of walk ≤ most_steps
      pub tells : place_of walk < most_steps → MayTell walk
      pub told : HasTold old now (place_of walk) waiting

    -- behind a row: what its last step tells, and whether it was refused, is not yet looked at
    pub record HasPassed (old now : PacketSink W) (walk : Walk D) (waiting : List GrownText)
        : Type 0 where
      pub walks : Walks hash run walk
      pub place_is : place_of walk ≡ suc (step_before walk)
      pub before : step_before walk < most_steps
      pub tells : Tells walk
      pub told : HasTold old now (step_before walk) waiting

    pub going-first : (now : PacketSink W) (walk : Walk D) → StandsAt hash run from walk
        → IsGoing now now walk []
    going-first now walk at =
        record {
          walks = at.walks;
          within = omega (arith, at.place_is, at.within);
          tells = λ less. elim at.settled [
            | inl fresh ↦ elim fresh [
              | inl here ↦ inl here
              | inr kept ↦ inr (exact-tells run stops (is_some step) (place_of walk) walk.stretch
                  (kept stops.watches))
            ]
            | inr last ↦ absurd (omega (arith, last, less, at.place_is))
          ];
          told = rw at.place_is (record {
            put = [];
            has_put = put_none w now;
            way = way-first (view_of run) stops step from;
            clear = λ past. absurd (omega (arith, past));
          });
        }

-- where it goes
abbrev goal : Run → Stops → Option Step → ℕ → Standing
goal run = aim (view_of run)

-- a call failed behind lines that are some of these
fails : {D W V E : Type 0} {hash : Hash D} {w : SinkGhosts W} {run : Run} {from : ℕ}
    {now : Standing} {old mid new : PacketSink W} {error : E} {put more : List (List ℕ)}
    (result : Result (Walk D × Stop) AnswerFault)
    → IsErr result → lines_to (view_of run) Ahead from now ≡ put ++ more → HasPut w old mid put
    → PutsPackets {V = V} w mid new more (Err error) → GoesOn hash w old new run from now result
fails (Ok value) failed is has_put puts = absurd (false≢true failed)
fails {w = w} (Err fault) failed is has_put puts =
    record {
      arrived = tt;
      put = tt;
      prefix = rw is (puts_behind w _ _ _ _ _ _ has_put puts).prefix;
    }

-- no place behind one and before another to which a row goes has a cause
module _ (run : Run) (stops : Stops) (step : Option Step) (from begin end : ℕ)
    (within : end ≤ most_steps) (passed : ArePassed stops (is_some step) run begin end)
  where
    -- where each instruction counts the processor slept
    over-none : (one : Option Step) (at : ℕ) → is_some one ≡ is_some step → begin ≤ at
        → suc at < end
        → steps_over one (view_of run (suc at)) (behind (view_of run) (suc at)) ≡ false
    over-none None at same after before = refl
    over-none (Some one) at same after before =
        let here : Sight = view_of run at in
        let slept = (passed (suc at) (omega (arith, after)) before).slept (sym same) at refl in
        let there = view-at run at (omega (arith, before, within)) in
        let alone : behind (view_of run) (suc at) ≡ here ∷ [] =
        ap (λ (sights : List Sight). sights ++ here ∷ [])
        (cond-true here.boundary [] (behind (view_of run) at) (rw there slept.from)) in
        rw alone (idle-over (Some one) (view_of run (suc at)) here (rw there slept.idle))

    none-over : (at : ℕ) → begin ≤ at → suc at < end
        → cause_by (view_of run) stops step from (suc at) ≡ None
    none-over at after before =
        let one = passed (suc at) (omega (arith, after)) before in
        no-cause (view_of run (suc at)).boundary _ _ _ (ap (hit_on Ahead) one.met)
        (rw (view-at run (suc at) (omega (arith, before, within))) one.plain)
        (over-none step at refl after before)

module _ {D W : Type 0} {hash : Hash D} {w : SinkGhosts W} {run : Run} {stops : Stops}
    {step : Option Step} {from : ℕ}
  where
    -- it arrived, and all lines were put
    goes-to : {now : Standing} {old new : PacketSink W} {walk : Walk D} {place : ℕ} {stop : Stop}
        {put : List (List ℕ)}
        → StopsAt (view_of run) stops step from now place stop put → IsAt hash run place walk
        → HasPut w old new put
        → GoesOn hash w old new run from now (Ok (walk, stop))
    goes-to there at has_put =
        record {
          arrived = arrives-there hash run there.is at there.within (elim there.settled [
            | inl here ↦ inl (inl (rw at.place_is (rw (view-at run _ there.within) at here)))
            | inr last ↦ inr last
          ]);
          put = rw (there.is, there.lines_are) has_put;
          prefix = tt;
        }

    module _ {old mid : PacketSink W} {walk : Walk D} {waiting : List GrownText}
        (going : IsGoing hash w run stops step from old mid walk waiting)
      where
        -- at the last place all lines are those that were put and those that wait
        module _ (last : most_steps ≤ place_of walk) where
          here : place_of walk ≡ most_steps
          here = omega (arith, last, going.within)

          ends : StopsAt (view_of run) stops step from (goal run stops step from) most_steps End
              (going.told.put ++ bodies_of waiting)
          ends = stops-last _ _ _ _ going.told.way going.within here going.told.clear

          -- it stopped here
          pub going-ends : {V E : Type 0} {new : PacketSink W} {value : V}
              → PutsPackets {E = E} w mid new (bodies_of waiting) (Ok value)
              → GoesOn hash w old new run from (goal run stops step from) (Ok (walk, End))
          going-ends puts =
              goes-to ends (record { walks = going.walks; place_is = here })
              (put_both w _ _ _ _ _ going.told.has_put puts.all)

          pub end-fails : {V E : Type 0} {new : PacketSink W} {error : E}
              (result : Result (Walk D × Stop) AnswerFault) → IsErr result
              → PutsPackets {V = V} w mid new (bodies_of waiting) (Err error)
              → GoesOn hash w old new run from (goal run stops step from) result
          end-fails result failed puts =
              fails result failed (rw ends.is ends.lines_are) going.told.has_put puts

        -- an interrupt ended its way here
        pub going-interrupted : (sight_at run (place_of walk)).boundary ≡ true
            → GoesOn hash w old mid run from
            (interrupted (view_of run) from (Some (place_of walk)) (goal run stops step from))
            (Ok (walk, Interrupted))
        going-interrupted settled =
            let way = going.told.way in
            let here : (view_of run (place_of walk)).boundary ≡ true =
            rw (view-at run (place_of walk) going.within) settled in
            let same = at-end _ _ _ _ way here in
            let there : StopsAt (view_of run) stops step from
            (interrupted (view_of run) from (Some (place_of walk)) (goal run stops step from))
            (place_of walk) Interrupted going.told.put = record {
              is = interrupted-at (view_of run) from _ (place_of walk)
                  (omega (arith, same, way.told.from_at))
                  (rw same at (aim-past _ _ _ _ way going.within)) here;
              within = going.within;
              settled = inl here;
              lines_are = append-nil _ ∙ put-here _ _ _ _ way here;
            } in
            goes-to there (record { walks = going.walks; place_is = refl }) going.told.has_put

    -- it went on by a row that ends here at the latest
    pub passes-on : {old mid : PacketSink W} {walk next : Walk D} {waiting : List GrownText}
        (end : ℕ)
        → IsGoing hash w run stops step from old mid walk waiting → place_of walk < most_steps
        → (waiting ≡ []) ⊎ (end ≡ place_of walk + 1) → end ≤ most_steps
        → Walks hash run next
        → (place_of walk < place_of next) × (place_of next ≤ end)
        → AreSilent run (place_of walk) (place_of next - 1)
        → (MayTell hash w run stops step from walk → Tells hash w run stops step from next)
        → (MayTell hash w run stops step from walk
        → ArePassed stops (is_some step) run (place_of walk) (place_of next))
        → HasPassed hash w run stops step from old mid next waiting
    passes-on {old} {mid} {walk} {next} {waiting} end going less waits within walks gone silent
        tells passed =
        let told = going.told in
        let last : place_of next ≤ most_steps = omega (arith, gone.1, within) in
        record {
          walks = walks;
          place_is = omega (arith, gone.0);
          before = omega (arith, gone.0, last);
          tells = tells (going.tells less);
          told =
              let more = way-silent (view_of run) stops step from
              (step_before next - place_of walk) (place_of walk) (step_before next)
              (bodies_of waiting) told.put (omega (arith, gone.0))
              (elim waits [
                | inl empty ↦ inl (ap bodies_of empty)
                | inr one ↦ inr (omega (arith, one, gone))
              ])
              told.way told.clear
              (λ at after before.
              let one = silent at after before in
              let here = view-at run at (omega (arith, before, last)) in (
                rw here one.unrefused,
                rw here one.lines,
                none-over run stops step from _ _ last (passed (going.tells less)) at after
                    (omega (arith, before)),
              )) in
              record {
                put = told.put;
                has_put = told.has_put;
                way = more.0;
                clear = more.1;
              };
        }

    module _ {old mid : PacketSink W} {walk : Walk D} {waiting : List GrownText}
        (passed : HasPassed hash w run stops step from old mid walk waiting)
      where
        abbrev last_step : ℕ
        last_step = step_before walk

        within : last_step ≤ most_steps
        within = omega (arith, passed.before)

        -- what a walk finds is what there is at its place
        pub cause-is : {found : Option Stop}
            → found ≡ cause_here stops (seek_ahead step) (place_of walk)
            (sight_at run (place_of walk)) (behind (view_of run) (place_of walk)) []
            → cause_by (view_of run) stops step from (suc last_step) ≡ found
        cause-is {found} is =
            let at : ℕ = place_of walk in
            subst (λ (one : ℕ). cause_by (view_of run) stops step from one ≡ found)
            passed.place_is
            (ap (λ (sight : Sight).
            cause_here stops (seek_ahead step) at sight (behind (view_of run) at) [])
            (view-at run at (omega (arith, passed.place_is, passed.before)))
            ∙ sym is)

        -- the step was refused, and it stops before, or not, by what is told of it
        pub before-fails : {new : PacketSink W} (found : Option (ℕ × Rule)) (error : AnswerFault)
            (result : Result (Walk D × Stop) AnswerFault)
            → refused_at (view_of run) from last_step ≡ found → IsErr result
            → StopsBefore hash w mid new run last_step found (Err error)
            → GoesOn hash w old new run from (goal run stops step from) result
        before-fails None error result is failed stops =
            rw stops.0 (fails {V = Unit {0}} result failed
            (some-lines _ _ _ _ passed.told.way within) passed.told.has_put
            (puts-none w mid _ (Err Memory) refl))
        before-fails (Some found) error result is failed stops =
            let there =
            stops-before _ _ _ _ passed.told.way within found.0 found.1 passed.before
            passed.told.clear is in
            fails result failed (rw there.is there.lines_are) passed.told.has_put stops.0

        pub before-stops : {new : PacketSink W} (found : Option (ℕ × Rule))
            (stopped : Walk D × Stop)
            → refused_at (view_of run) from last_step ≡ found
            → StopsBefore hash w mid new run last_step found (Ok (Some stopped))
            → GoesOn hash w old new run from (goal run stops step from) (Ok stopped)
        before-stops None stopped is stops = absurd (cc (stops.1))
        before-stops (Some found) stopped is stops =
            let (walk, at, same) = stops.1 in
            rw (some-same same) (goes-to
            (stops-before _ _ _ _ passed.told.way within found.0 found.1 passed.before
            passed.told.clear is) at
            (put_both w _ _ _ _ _ passed.told.has_put stops.0.all))

        before-none : (new : PacketSink W) (found : Option (ℕ × Rule))
            → StopsBefore hash w mid new run last_step found (Ok None)
            → (found ≡ None) × (new ≡ mid)
        before-none new None stops = (refl, stops.0)
        before-none new (Some found) stops =
            let (walk, at, same) = stops.1 in absurd (cc (same))

        -- it does not
        module _ {between : PacketSink W}
            (none : StopsBefore hash w mid between run last_step
            (refused_at (view_of run) from last_step) (Ok None))
          where
            put-before : HasPut w old between passed.told.put
            put-before = rw (before-none between _ none).1 passed.told.has_put

            way-behind : {V E : Type 0} {new : PacketSink W} {waiting_new : List GrownText}
                {result : Result V E}
                (told : TellsStep w between new waiting waiting_new run last_step result)
                → IsWay (view_of run) stops step from (suc last_step) told.later
                (passed.told.put ++ told.put)
            way-behind told =
                let same = view-at run (suc last_step) (omega (arith, passed.before)) in
                way-step _ _ _ _ passed.told.way told.put told.later passed.told.clear
                (before-none between _ none).0 (rw (next-at run last_step passed.before) told.whole)
                (λ here. told.none_waits (rw same at here))
                (λ away. told.none_put (rw same at away))

            -- the lines could not be told
            pub tell-failed : {V E : Type 0} {new : PacketSink W} {waiting_new : List GrownText}
                {error : E} (result : Result (Walk D × Stop) AnswerFault) → IsErr result
                → TellsStep {V = V} w between new waiting waiting_new run last_step (Err error)
                → GoesOn hash w old new run from (goal run stops step from) result
            tell-failed {V} {new = new} {error = error} result failed told =
                fails {V = V} result failed
                (some-lines _ _ _ _ (way-behind told) (omega (arith, passed.before))
                ∙ append_assoc passed.told.put told.put _)
                put-before
                (puts_less w between new told.put _ error
                (record { all = tt; prefix = told.prefix }))

            module _ {V E : Type 0} {new : PacketSink W} {waiting_new : List GrownText} {value : V}
                (told
                : TellsStep {E = E} w between new waiting waiting_new run last_step (Ok value))
              where
                put-now : HasPut w old new (passed.told.put ++ told.put)
                put-now = put_both w _ _ _ _ _ put-before told.has_put

                -- it has to stop here
                pub stops-there : {stop : Stop}
                    → cause_by (view_of run) stops step from (suc last_step) ≡ Some stop
                    → GoesOn hash w old new run from (goal run stops step from) (Ok (walk, stop))
                stops-there is =
                    let past : from < suc last_step =
                    omega (arith, passed.told.way.told.from_at, passed.told.way.told.at_place) in
                    goes-to
                    (stops-here _ _ _ _ (way-behind told) (omega (arith, passed.before)) _ past is)
                    (record { walks = passed.walks; place_is = passed.place_is }) put-now

                -- it goes on
                pub goes-on : cause_by (view_of run) stops step from (suc last_step) ≡ None
                    → IsGoing hash w run stops step from old new walk waiting_new
                goes-on clear =
                    record {
                      walks = passed.walks;
                      within = omega (arith, passed.place_is, passed.before);
                      tells = λ less. inr passed.tells;
                      told = rw passed.place_is (record {
                        put = passed.told.put ++ told.put;
                        has_put = put-now;
                        way = rw told.waits at (way-behind told);
                        clear = λ past. clear;
                      });
                    }
