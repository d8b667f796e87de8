-- What a line's answer comes to.
use Rattle.std.{proofs.{Common.{◌≡◌, ◌≤◌, ◌<◌, ◌-◌, ℕ, true, false, List, Result, Ok, Err, refl, arith, append-nil}, lemmas.Bool.Decides.nat_tests}, specs.Prelude.{IsErrAnd, nat_lt, codes}}
use Rattle.device_types.specs.{Address.Bytes, TraceFlag.Flag, declared.event.Event.Event}
use Rattle.hmac_core.specs.Hash.{Hash}
use Rattle.outside_edge.{specs.{Calls.Rose, Sink.{CountsFaults, Puts, Takes, TakesPrefix}, declared.sink.{Failed.Failed, Sink.Ghosts as SinkGhosts}}, proofs.SinkLemmas.{prefix_after, prefix_of_more, takes_both}}
use Rattle.text_scan.specs.{declared.{fault_kind.FaultKind.{FaultKind, TheVariants.Order}, word_fault.WordFault.WordFault}}
use Rattle.text_scan.specs.declared.word_fault.WordFault.TheVariants as words
use Rattle.device_trace.specs.Start.{Start}
use Rattle.source_server.specs.declared.halt.Halt.TheVariants as halt
use Rattle.device_live.specs.{Answer.{Answer, answer_of, refusal_line, says, standing_line}, Faults.{fault_of, halt_of}, Life.{Life, events_in, lines_since}, LiveLine.{Happens, Run}, Living.{AnswersNumbered, AnswersSo, LivingStandsFor, TakesHappening}, declared.{line_fault.LineFault.{LineFault, TheVariants.{Kind, Write}}, living.Living.Living}}

module _ {D G S : Type 0} (hash : Hash D) (flag : Flag G) (w : SinkGhosts S) (start : Start)
    (life : Life) where
  -- a happening
  pub happens-taken : (now : S) (living : Living D G) (step : ℕ) (events : List Event)
      → TakesHappening hash flag living start life step events (Ok tt)
      → AnswersSo hash flag w now now living start life (Ok tt)
      (answer_of start life (Happens step events))
  happens-taken now living step events taken =
      rw taken.1 (taken.2, λ before holds. rw append-nil holds)

  refused-so : (now : S) (living : Living D G) (step : ℕ) (events : List Event)
      (fault : WordFault)
      → TakesHappening hash flag living start life step events (Err fault)
      → AnswersSo hash flag w now now living start life (Err (fault_of fault))
      (answer_of start life (Happens step events))
  refused-so now living step events (words.Kind kind) taken = rw taken.0 (refl, taken.1, refl)
  refused-so now living step events (words.Memory error) taken = refl

  pub happens-refused : (now : S) (living : Living D G) (step : ℕ) (events : List Event)
      (fault : WordFault) (result : Result Unit LineFault)
      → IsErrAnd result (λ error. error ≡ fault_of fault)
      → TakesHappening hash flag living start life step events (Err fault)
      → AnswersSo hash flag w now now living start life result
      (answer_of start life (Happens step events))
  happens-refused now living step events fault (Ok unit) is taken = absurd is
  happens-refused now living step events fault (Err error) is taken =
      rw is (refused-so now living step events fault taken)

  -- a line that is said of the life as it is, or a prefix of it
  pub says-cut : (old new : S) (living : Living D G) (line : Bytes) (failed : Failed)
      (result : Result Unit LineFault)
      → IsErrAnd result (λ error. error ≡ Write failed)
      → TakesPrefix w.stands old new line → Rose (w.faults old) (w.faults new)
      → AnswersSo hash flag w old new living start life result (Ok (says life line))
  says-cut old new living line failed (Ok unit) is prefix rose = absurd is
  says-cut old new living line failed (Err error) is prefix rose = rw is (prefix, rose)

  -- a run
  pub run-late : (now : S) (living : Living D G) (steps : ℕ) → steps < life.steps
      → LivingStandsFor hash flag living start life
      → AnswersSo hash flag w now now living start life (Err (Kind Order))
      (answer_of start life (Run steps))
  run-late now living steps late stands =
      let is : nat_lt steps life.steps ≡ true = grind (arith, nat_tests, late) in
      rw is (refl, stands, refl)

  module _ (old mid new : S) (steps : ℕ) (on : life.steps ≤ steps) where
    abbrev later : Life
    later = record life { steps = steps }

    abbrev told : Bytes
    told = lines_since start (events_in life) life.steps (steps - life.steps)

    abbrev line : Bytes
    line = standing_line (codes "at") start later

    in-time : nat_lt steps life.steps ≡ false
    in-time = grind (arith, nat_tests, on)

    pub run-told : (living : Living D G) → LivingStandsFor hash flag living start later
        → Takes w.stands old mid told → Takes w.stands mid new line
        → AnswersSo hash flag w old new living start life (Ok tt) (answer_of start life (Run steps))
    run-told living stands first second =
        rw in-time (stands, takes_both w.stands old mid new told line first second)

    pub run-cut : (living : Living D G) (failed : Failed) (result : Result Unit LineFault)
        → IsErrAnd result (λ error. error ≡ Write failed)
        → TakesPrefix w.stands old new told → Rose (w.faults old) (w.faults new)
        → AnswersSo hash flag w old new living start life result (answer_of start life (Run steps))
    run-cut living failed (Ok unit) is prefix rose = absurd is
    run-cut living failed (Err error) is prefix rose =
        rw (is, in-time) (prefix_of_more w.stands old new told line prefix, rose)

    pub run-unstanding : (living : Living D G) (failed : Failed) (result : Result Unit LineFault)
        → IsErrAnd result (λ error. error ≡ Write failed)
        → Takes w.stands old mid told → TakesPrefix w.stands mid new line
        → Rose (w.faults old) (w.faults new)
        → AnswersSo hash flag w old new living start life result (answer_of start life (Run steps))
    run-unstanding living failed (Ok unit) is first prefix rose = absurd is
    run-unstanding living failed (Err error) is first prefix rose =
        rw (is, in-time) (prefix_after w.stands old mid new told line first prefix, rose)

  -- a line with a number
  pub numbered-told : (old new : S) (living : Living D G) (said : Result Answer FaultKind)
      → AnswersSo hash flag w old new living start life (Ok tt) said
      → AnswersNumbered hash flag w old new living start life said (Ok tt)
  numbered-told old new living (Ok answer) so = so
  numbered-told old new living (Err kind) so = absurd so

  pub numbered-cut : (old new : S) (living : Living D G) (failed : Failed)
      (said : Result Answer FaultKind)
      → AnswersSo hash flag w old new living start life (Err (Write failed)) said
      → AnswersNumbered hash flag w old new living start life said (Err halt.Write)
  numbered-cut old new living failed (Ok answer) so = so
  numbered-cut old new living failed (Err kind) so = absurd so

  pub numbered-refused : (old mid new : S) (living : Living D G) (kind : FaultKind)
      (said : Result Answer FaultKind) (put : Result Unit Failed)
      → AnswersSo hash flag w old mid living start life (Err (Kind kind)) said
      → Puts w.stands mid new (refusal_line living.lines kind) put
      → CountsFaults w.faults mid new put
      → AnswersNumbered hash flag w old new living start life said (halt_of put)
  numbered-refused old mid new living kind (Ok answer) put so puts counts = absurd so
  numbered-refused old mid new living kind (Err other) (Ok tt) so puts counts =
      (so.1, rw (so.0, so.2) at puts.all)
  numbered-refused old mid new living kind (Err other) (Err failed) so puts counts =
      (rw (so.0, so.2) at puts.prefix, rw so.2 at counts.failed)

-- a count of lines is no matter to what stands
pub counted : {D G : Type 0} (hash : Hash D) (flag : Flag G) (living : Living D G) (start : Start)
    (life : Life) (lines : ℕ) → LivingStandsFor hash flag living start life
    → LivingStandsFor hash flag (record living { lines = lines }) start life
counted hash flag living start life lines stands =
    record {
      live = stands.live;
      there = stands.there;
      stands = stands.stands;
      to_come = stands.to_come;
      latest = stands.latest;
      greatest = stands.greatest;
    }
