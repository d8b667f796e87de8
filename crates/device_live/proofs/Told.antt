-- A device that lives, behind one line more.
use Rattle.std.{proofs.{Common.{◌≡◌, ◌≤◌, ◌<◌, ◌+◌, ◌++◌, ℕ, suc, List, [], ◌∷◌, Result, Ok, Err, length, sym, subst, arith}, Math.Seq.take-length}, specs.{Prelude.OnOk, declared.alloc.AllocError.AllocError}}
use Rattle.device_types.specs.{Address.Bytes, TraceFlag.Flag}
use Rattle.hmac_core.specs.Hash.{Hash}
use Rattle.outside_edge.{specs.{Buffer.{Buffer, BufferStandsFor}, Calls.Rose, Sink.{CountsFaults, Takes, TakesPrefix}, declared.sink.{Failed.Failed, Sink.Ghosts as SinkGhosts}}, proofs.{Counts.rose_since, SinkLemmas.{prefix_after, takes_both}}}
use Rattle.source_server.specs.{HeldLine.short_line, Lines.{Settles, Tells}, Responder.Moment, declared.halt.Halt.{Halt, TheVariants.{Write, Own}}}
use Rattle.device_trace.specs.Start.{Start}
use Rattle.device_live.specs.{Answer.{Answer, or_refusal}, Conversation.{Talk, answer_to, talk_of}, Faults.halt_of, Life.Life, Living.{AnswersNumbered, LivingStandsFor}, LineResponder.{AreFew, HasTold, LiveStart, StopsTold, buffer_sink, live_promise}, declared.living.Living.Living}

-- all of a text is a prefix of it
pub whole-prefix : {S : Type 0} (stands : S → Bytes → Type 0) (old new : S) (text : Bytes)
    → Takes stands old new text → TakesPrefix stands old new text
whole-prefix stands old new text takes =
    (length text, omega arith, λ before holds. rw take-length (takes before holds))

module _ {D G W : Type 0} (hash : Hash D) (flag : Flag G) (w : SinkGhosts W)
    (at : LiveStart W) where
  module _ (old new : Moment (Living D G) (Buffer W)) (earlier : List (List ℕ)) (line : List ℕ)
      (told : HasTold hash flag w at old earlier)
      (number : new.responder.lines ≡ suc (length earlier)) where
    abbrev talk : Talk
    talk = talk_of at.start earlier

    abbrev answer : Answer
    answer = or_refusal talk.life (suc (length earlier))
        (answer_to at.start talk.life (short_line line))

    line-told : w.faults old.edge.sink ≤ w.faults new.edge.sink
        → LivingStandsFor hash flag new.responder at.start answer.life
        → Takes (BufferStandsFor w.stands) old.edge new.edge (answer.told ++ answer.line)
        → HasTold hash flag w at new (line ∷ earlier)
    line-told rises stands puts =
        record {
          stands = stands;
          number = number;
          put = takes_both (BufferStandsFor w.stands) at.first old.edge new.edge talk.text
              (answer.told ++ answer.line) told.put puts;
          rises = omega (arith, told.rises, rises);
        }

    line-stopped : TakesPrefix (BufferStandsFor w.stands) old.edge new.edge
        (answer.told ++ answer.line)
        → Rose (w.faults old.edge.sink) (w.faults new.edge.sink)
        → StopsTold w at new (line ∷ earlier) Write
    line-stopped prefix rose = (
      prefix_after (BufferStandsFor w.stands) at.first old.edge new.edge talk.text
          (answer.told ++ answer.line) told.put prefix,
      rose_since (w.faults at.first.sink) (w.faults old.edge.sink) (w.faults new.edge.sink)
          told.rises rose,
    )

  abbrev numbered : List (List ℕ) → List ℕ → ℕ → Answer
  numbered earlier line n =
      let life : Life = (talk_of at.start earlier).life in
      or_refusal life n (answer_to at.start life (short_line line))

  abbrev NumberedPuts : Moment (Living D G) (Buffer W) → Moment (Living D G) (Buffer W)
      → List (List ℕ) → List ℕ → ℕ → Type 0
  NumberedPuts old new earlier line n =
      LivingStandsFor hash flag new.responder at.start (numbered earlier line n).life
      × Takes (BufferStandsFor w.stands) old.edge new.edge
      ((numbered earlier line n).told ++ (numbered earlier line n).line)

  abbrev NumberedCuts : Moment (Living D G) (Buffer W) → Moment (Living D G) (Buffer W)
      → List (List ℕ) → List ℕ → ℕ → Type 0
  NumberedCuts old new earlier line n =
      TakesPrefix (BufferStandsFor w.stands) old.edge new.edge
      ((numbered earlier line n).told ++ (numbered earlier line n).line)
      × Rose (w.faults old.edge.sink) (w.faults new.edge.sink)

  tells-by : (old new : Moment (Living D G) (Buffer W)) (earlier : List (List ℕ))
      (line : List ℕ) (result : Result Unit (Halt AllocError))
      → (AreFew (line ∷ earlier) → HasTold hash flag w at old earlier)
      → (AreFew (line ∷ earlier) → new.responder.lines ≡ suc (length earlier))
      → w.faults old.edge.sink ≤ w.faults new.edge.sink
      → (AreFew (line ∷ earlier)
      → AnswersNumbered hash flag (buffer_sink w) old.edge new.edge new.responder at.start
      (talk_of at.start earlier).life
      (answer_to at.start (talk_of at.start earlier).life (short_line line)) result)
      → Tells (live_promise hash flag w at) new (line ∷ earlier) result
  tells-by old new earlier line (Ok tt) told number rises came =
      record {
        goes_on = λ few.
            let so = subst (λ (n : ℕ). NumberedPuts old new earlier line n) (number few)
            (came few) in
            line-told old new earlier line (told few) (number few) rises so.0 so.1;
        stops = tt;
      }
  tells-by old new earlier line (Err Write) told number rises came =
      record {
        goes_on = tt;
        stops = λ few.
            let so = subst (λ (n : ℕ). NumberedCuts old new earlier line n) (number few)
            (came few) in
            line-stopped old new earlier line (told few) (number few) so.0 so.1;
      }
  tells-by old new earlier line (Err (Own error)) told number rises came =
      record {
        goes_on = tt;
        stops = λ few. subst
            (λ (edge : Buffer W).
            Takes (BufferStandsFor w.stands) at.first edge (talk_of at.start earlier).text)
            (sym (came few)) (told few).put;
      }

  -- what came of a line, where its number fits
  pub line-tells : (old new : Moment (Living D G) (Buffer W)) (earlier : List (List ℕ))
      (line : List ℕ) (result : Result Unit (Halt AllocError))
      → (AreFew earlier → HasTold hash flag w at old earlier)
      → (old.responder.lines < 18446744073709551615
      → new.responder.lines ≡ old.responder.lines + 1)
      → w.faults old.edge.sink ≤ w.faults new.edge.sink
      → ((start : Start) (life : Life) → LivingStandsFor hash flag old.responder start life
      → AnswersNumbered hash flag (buffer_sink w) old.edge new.edge new.responder start life
      (answer_to start life (short_line line)) result)
      → Tells (live_promise hash flag w at) new (line ∷ earlier) result
  line-tells old new earlier line result told count rises came =
      let so : AreFew (line ∷ earlier) → HasTold hash flag w at old earlier =
      λ few. told (omega (arith, few)) in
      let number : (few : AreFew (line ∷ earlier)) → new.responder.lines ≡ suc (length earlier) =
      λ few. omega (
        arith,
        few,
        (so few).number,
        count (omega (arith, few, (so few).number)),
      ) in
      tells-by old new earlier line result so number rises
      (λ few. came at.start (talk_of at.start earlier).life (so few).stands)

  -- what was held back was put
  pub settled : (old : Moment (Living D G) (Buffer W)) (edge : Buffer W) (lines : List (List ℕ))
      (flushed : Result Unit Failed)
      → (AreFew lines → HasTold hash flag w at old lines)
      → ((list : List ℕ) → BufferStandsFor w.stands old.edge list
      → BufferStandsFor w.stands edge list)
      → OnOk flushed (edge.waiting ≡ [])
      → CountsFaults w.faults old.edge.sink edge.sink flushed
      → Settles (live_promise hash flag w at) (record old { edge = edge }) lines (halt_of flushed)
  settled old edge lines (Ok tt) told stands all counts =
      let now : AreFew lines → HasTold hash flag w at (record old { edge = edge }) lines =
      λ few.
      let so = told few in
      record {
        stands = so.stands;
        number = so.number;
        put = λ before holds. stands _ (so.put before holds);
        rises = omega (arith, so.rises, counts.counted);
      } in
      record { goes_on = (now, λ few. (now few, all)); stops = tt }
  settled old edge lines (Err failed) told stands all counts =
      record {
        goes_on = tt;
        stops = λ few.
            let so = told few in (
              whole-prefix (BufferStandsFor w.stands) at.first edge (talk_of at.start lines).text
                  (λ before holds. stands _ (so.put before holds)),
              rose_since (w.faults at.first.sink) (w.faults old.edge.sink) (w.faults edge.sink)
                  so.rises counts.failed,
            );
      }
