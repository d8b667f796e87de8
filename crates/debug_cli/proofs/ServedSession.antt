-- What is answered once a source was served.
use Rattle.std.proofs.Common.{◌≡◌, ◌<◌, ◌⊎◌, ℕ, List, length, Option, Some, refl, inl, inr, arith, ◌≤◌, Ok, Err, None, ⊎_elim}
use Rattle.outside_edge.specs.{Calls.Rose, Shelf.KeepsFiles, declared.{sink.Sink.Ghosts as SinkGhosts, source.Source.Ghosts as SourceGhosts, shelf.Shelf.Ghosts as ShelfGhosts}}
use Rattle.source_server.{specs.{declared.{halt.Halt.Halt, served.Served.Served}, Serving.{Ports, Serves, served_of}, Responder.Promise, Taken.{KeepsLimit, most_input}}, proofs.ServedEnds.{keeps_limit, unwritten, whole_or_stopped}}
use Rattle.debug_link.specs.declared.talk_end.TalkEnd.{TalkEnd}
use Rattle.device_live.specs.Conversation.{life_promise}
use Rattle.input_files.{specs.{declared.{status.Status.{Status, TheVariants.{Done, Words, Memory, Spent, ReadFault, WriteFault}}, refusal.Refusal.Refusal}, Reading.{Reaches, Reads, Files, IsRefusal}, Row.{RowOf, Ends}, Status.status_of_refusal}, proofs.Complete.{refused-complete, told-complete, refused-spent, refused-words}}
use Rattle.debug_cli.specs.{Session.{Debugs, EndsWith, HasServed, Lives, Service, debug_promise, run_with, start_with, IsSessionAnswer}, Status.{status_of, talk_status}}
use Rattle.play_script.specs.Script.{TimedEvent}
use Rattle.source_server.specs.declared.halt.Halt.TheVariants as halt
use Rattle.source_server.specs.declared.served.Served.TheVariants as served
use Rattle.debug_link.specs.declared.talk_end.TalkEnd.TheVariants as talk

abbrev pub IsFault : Status → Type 0
IsFault status = (status ≡ ReadFault) ⊎ (status ≡ WriteFault)

pub no-fault : {status : Status} → (status ≡ ReadFault → ⊥) → (status ≡ WriteFault → ⊥)
    → IsFault status → ⊥
no-fault no_read no_write (inl read) = no_read read
no-fault no_read no_write (inr write) = no_write write

-- all was answered, or memory ran out
abbrev pub IsEnd : Status → Type 0
IsEnd status = (status ≡ Done) ⊎ (status ≡ Memory)

end-words : {status : Status} → IsEnd status → status ≡ Words → ⊥
end-words (inl done) is = cc (done, is)
end-words (inr memory) is = cc (memory, is)

end-spent : {status : Status} → IsEnd status → status ≡ Spent → ⊥
end-spent (inl done) is = cc (done, is)
end-spent (inr memory) is = cc (memory, is)

end-fault : {status : Status} → IsEnd status → IsFault status → ⊥
end-fault (inl done) = no-fault (λ is. cc (done, is)) (λ is. cc (done, is))
end-fault (inr memory) = no-fault (λ is. cc (memory, is)) (λ is. cc (memory, is))

module _ {Own : Type 0} (own_status : Own → Status) (ends : (own : Own) → IsEnd (own_status own))
  where
    ended-words : (ended : Served Own) → status_of own_status ended ≡ Words → ⊥
    ended-words served.Done is = cc is
    ended-words served.Spent is = cc is
    ended-words served.ReadFault is = cc is
    ended-words served.WriteFault is = cc is
    ended-words (served.Own own) is = end-words (ends own) is

    ended-spent : (ended : Served Own) → status_of own_status ended ≡ Spent → ended ≡ served.Spent
    ended-spent served.Done is = absurd (cc is)
    ended-spent served.Spent is = refl
    ended-spent served.ReadFault is = absurd (cc is)
    ended-spent served.WriteFault is = absurd (cc is)
    ended-spent (served.Own own) is = absurd (end-spent (ends own) is)

    module _ {R W : Type 0} (r : SourceGhosts R) (w : SinkGhosts W) (promise : Promise W Own)
        (old new : Ports R W)
        (rose : (before last : List ℕ) → promise.stopped new.sink before last halt.Write
        → Rose (w.faults old.sink) (w.faults new.sink)) where
      abbrev EndsSo : Status → Type 0
      EndsSo status = EndsWith r promise (status_of own_status) old new status

      ends-words : (status : Status) → EndsSo status → status ≡ Words → ⊥
      ends-words status so is = ended-words so.ended (rw so.answer at is)

      ends-limit : (status : Status) → EndsSo status
          → KeepsLimit r old.source new.source (status ≡ Spent)
      ends-limit status so =
          keeps_limit r promise old.source new.source new.sink so.ended so.serves
          (λ is. ended-spent so.ended (rw so.answer at is))

      stopped-end : (before last : List ℕ) (why : Halt Own)
          → promise.stopped new.sink before last why
          → ¬ Rose (w.faults old.sink) (w.faults new.sink)
          → IsEnd (status_of own_status (served_of why))
      stopped-end before last halt.Write so no_sink = absurd (no_sink (rose before last so))
      stopped-end before last (halt.Own own) so no_sink = ends own

      ends-whole : (status : Status) (bytes : List ℕ) → EndsSo status
          → r.left old.source ≡ Some bytes → length bytes < most_input
          → ¬ Rose (r.faults old.source) (r.faults new.source)
          → ¬ Rose (w.faults old.sink) (w.faults new.sink)
          → IsEnd status
      ends-whole status bytes so is few no_source no_sink =
          rw so.answer (elim (whole_or_stopped r promise old.source new.source new.sink bytes
          so.ended so.serves is few no_source) [
            | inl done ↦ rw done (inl refl)
            | inr (why, is, (before, last, stopped)) ↦
                rw is (stopped-end before last why stopped no_sink)
          ])

      ended-fault : (ended : Served Own)
          → Serves r promise old.source new.source new.sink ended
          → ¬ Rose (r.faults old.source) (r.faults new.source)
          → ¬ Rose (w.faults old.sink) (w.faults new.sink)
          → IsFault (status_of own_status ended) → ⊥
      ended-fault served.ReadFault so no_source no_sink fault = no_source so.ends.0.1
      ended-fault served.WriteFault so no_source no_sink fault =
          let stopped = unwritten r promise old.source new.source new.sink so in
          no_sink (rose stopped.0 stopped.1 stopped.2)
      ended-fault served.Done so no_source no_sink fault =
          no-fault (λ is. cc is) (λ is. cc is) fault
      ended-fault served.Spent so no_source no_sink fault =
          no-fault (λ is. cc is) (λ is. cc is) fault
      ended-fault (served.Own own) so no_source no_sink fault = end-fault (ends own) fault

      ends-fault : (status : Status) → EndsSo status
          → ¬ Rose (r.faults old.source) (r.faults new.source)
          → ¬ Rose (w.faults old.sink) (w.faults new.sink)
          → IsFault status → ⊥
      ends-fault status so no_source no_sink fault =
          ended-fault so.ended so.serves no_source no_sink (rw so.answer at fault)

talk-end : (end : TalkEnd) → IsEnd (talk_status end)
talk-end talk.Closed = inl refl
talk-end talk.Memory = inr refl

module _ {R W : Type 0} (r : SourceGhosts R) (w : SinkGhosts W) (left : Option ℕ)
    (old new : Ports R W) (status : Status) where
  pub served-words : (service : Service) → HasServed r w left service old new status
      → status ≡ Words → ⊥
  served-words (Debugs run) has =
      ends-words talk_status talk-end r w (debug_promise w run left old.sink) old new
      (λ before last so. so.3.1) status has
  served-words (Lives start) (inr none) = λ is. cc (none.0, is)
  served-words (Lives start) (inl has) =
      ends-words (λ error. Memory) (λ error. inr refl) r w (life_promise w start old.sink) old new
      (λ before last so. so.1) status has

  pub served-limit : (service : Service) → HasServed r w left service old new status
      → KeepsLimit r old.source new.source (status ≡ Spent)
  served-limit (Debugs run) has =
      ends-limit talk_status talk-end r w (debug_promise w run left old.sink) old new
      (λ before last so. so.3.1) status has
  served-limit (Lives start) (inr none) =
      record {
        few = rw none.1 (omega arith);
        spent = λ is. absurd (cc (none.0, is));
      }
  served-limit (Lives start) (inl has) =
      ends-limit (λ error. Memory) (λ error. inr refl) r w (life_promise w start old.sink) old new
      (λ before last so. so.1) status has

  pub served-whole : (service : Service) (bytes : List ℕ)
      → HasServed r w left service old new status
      → r.left old.source ≡ Some bytes → length bytes < most_input
      → ¬ Rose (r.faults old.source) (r.faults new.source)
      → ¬ Rose (w.faults old.sink) (w.faults new.sink)
      → IsEnd status
  served-whole (Debugs run) bytes has =
      ends-whole talk_status talk-end r w (debug_promise w run left old.sink) old new
      (λ before last so. so.3.1) status bytes has
  served-whole (Lives start) bytes (inr none) = λ is few no_source no_sink. inr none.0
  served-whole (Lives start) bytes (inl has) =
      ends-whole (λ error. Memory) (λ error. inr refl) r w (life_promise w start old.sink) old new
      (λ before last so. so.1) status bytes has

  pub served-fault : (service : Service) → HasServed r w left service old new status
      → ¬ Rose (r.faults old.source) (r.faults new.source)
      → ¬ Rose (w.faults old.sink) (w.faults new.sink)
      → IsFault status → ⊥
  served-fault (Debugs run) has =
      ends-fault talk_status talk-end r w (debug_promise w run left old.sink) old new
      (λ before last so. so.3.1) status has
  served-fault (Lives start) (inr none) =
      λ no_source no_sink. no-fault (λ is. cc (none.0, is)) (λ is. cc (none.0, is))
  served-fault (Lives start) (inl has) =
      ends-fault (λ error. Memory) (λ error. inr refl) r w (life_promise w start old.sink) old new
      (λ before last so. so.1) status has

-- Answers: after a refusal of the files, and after their session served its source.

-- the ends of the rows, once their files have values
abbrev pub debug_end : List ℕ × ((ℕ → Option ℕ) × List TimedEvent) → RowOf Service
debug_end values = Ends (Ok (Debugs (run_with values.0 values.1.0 values.1.1)))

abbrev pub live_end : List ℕ × (ℕ → Option ℕ) → RowOf Service
live_end values = Ends (Ok (Lives (start_with values.0 values.1)))

module _ {S R W : Type 0} (s : ShelfGhosts S) (r : SourceGhosts R) (w : SinkGhosts W)
    (shelf shelf_after : S) (left : Option ℕ) where
  pub refused-answer : {V : Type 0} (ports : Ports R W) (row : RowOf Service)
      (rest : V → RowOf Service) (refusal : Refusal)
      → Reads s.files s.faults s.misses shelf shelf_after row rest (Err refusal)
      → IsSessionAnswer s r w shelf shelf_after left ports ports (Some row)
      (status_of_refusal refusal)
  refused-answer ports row rest refusal reads =
      let no_words = λ (is : status_of_refusal refusal ≡ Words).
      refused-words (s.files shelf) _ _ row (rw is at reads.refusal) in
      record {
        words = (λ is. absurd (no_words is), λ none. absurd (cc none));
        unread = λ is. absurd (no_words is);
        answers = inl (record { cause = reads.refusal; order = reads.order }, refl);
        complete = refused-complete (s.files shelf) (r.left ports.source) _ _ row _ _
            _ reads.order reads.refusal (λ is no_source no_sink. inr is);
        limit = record {
          few = omega arith;
          spent = λ is. absurd (refused-spent refusal is);
        };
        kept = reads.kept;
        source_counted = omega arith;
        sink_counted = omega arith;
      }

  pub served-answer : (old new : Ports R W) (row : RowOf Service) (service : Service)
      (status : Status)
      → Reaches (s.files shelf) row (Ok service)
      → KeepsFiles s.files s.faults s.misses shelf shelf_after
      → HasServed r w left service old new status
      → r.faults old.source ≤ r.faults new.source
      → w.faults old.sink ≤ w.faults new.sink
      → IsSessionAnswer s r w shelf shelf_after left old new (Some row) status
  served-answer old new row service status reaches keeps has source_counts sink_counts =
      let no_words = served-words r w left old new status service has in
      record {
        words = (λ is. absurd (no_words is), λ none. absurd (cc none));
        unread = λ is. absurd (no_words is);
        answers = inr (service, reaches, has);
        complete = told-complete (s.files shelf) (r.left old.source) _ row _ _
            (λ bytes is few no_source no_sink.
            served-whole r w left old new status service bytes has is few no_source no_sink);
        limit = served-limit r w left old new status service has;
        kept = keeps;
        source_counted = source_counts;
        sink_counted = sink_counts;
      }

-- Where no part of the outside failed, no fault is answered.

words-fault : (status : Status) → status ≡ Words → IsFault status → ⊥
words-fault status is fault = no-fault (λ read. cc (is, read)) (λ write. cc (is, write)) fault

-- files that were refused
refused-fault : {Outcome : Type 0} (files : Files) (missed failed : Type 0)
    (row : RowOf Outcome) (status : Status) → IsRefusal files missed failed row status
    → ¬ failed → IsFault status → ⊥
refused-fault files missed failed row status (inl (is, miss)) no_read fault =
    no-fault (λ read. cc (is, read)) (λ write. cc (is, write)) fault
refused-fault files missed failed row status (inr (inl fails)) no_read fault = no_read fails.1
refused-fault files missed failed row status (inr (inr (inl is))) no_read fault =
    no-fault (λ read. cc (is, read)) (λ write. cc (is, write)) fault
refused-fault files missed failed row status (inr (inr (inr (bad, is, reaches)))) no_read fault =
    no-fault (λ read. cc (is, read)) (λ write. cc (is, write)) fault

pub no-fault-of_run : {S R W : Type 0} (s : ShelfGhosts S) (r : SourceGhosts R)
    (w : SinkGhosts W) (shelf shelf_after : S) (left : Option ℕ) (old new : Ports R W)
    (command : Option (RowOf Service)) (status : Status)
    → IsSessionAnswer s r w shelf shelf_after left old new command status
    → ¬ Rose (s.faults shelf) (s.faults shelf_after)
    → ¬ Rose (r.faults old.source) (r.faults new.source)
    → ¬ Rose (w.faults old.sink) (w.faults new.sink)
    → IsFault status → ⊥
no-fault-of_run s r w shelf shelf_after left old new None status answer no_read no_source no_sink
    fault =
    words-fault status (answer.words.1 refl) fault
no-fault-of_run s r w shelf shelf_after left old new (Some row) status answer no_read no_source
    no_sink fault =
    ⊎_elim
    (λ refused. refused-fault (s.files shelf) _ _ row status refused.0.cause no_read fault)
    (λ came. served-fault r w left old new status came.0 came.2 no_source no_sink fault)
    answer.answers
