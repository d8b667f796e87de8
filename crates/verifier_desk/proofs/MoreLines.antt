-- What was put of the replies to lines, where more lines follow.
use Rattle.std.proofs.{Common.{◌≡◌, ◌≤◌, ◌∙◌, ◌++◌, inl, inr, ℕ, List, [], ◌∷◌, ap, sym, arith, append_assoc, ⊎_elim}, lemmas.List.append-nil}
use Rattle.outside_edge.{specs.declared.sink.Sink.Ghosts as SinkGhosts, proofs.Counts.rose_since}
use Rattle.source_server.specs.{declared.halt.Halt.{Halt, TheVariants.{Write, Own}}}
use Rattle.desk_memory.specs.{declared.{memory.Memory.Ghosts as MemoryGhosts, memory_fault.MemoryFault.MemoryFault}, Entry.Entry}
use Rattle.verifier_desk.specs.{declared.answer_fault.AnswerFault.{AnswerFault, TheVariants.{Memory, Unkept}}, Replies.{DeskFields, replies, reply}, Serving.{HasFailed, HasPut, IsBeginning, Outside, StopsAt}, Telling.{FailsAt, Grows}}

pub more_replies : (fields : DeskFields) (more lines : List (List ℕ))
    → (text : List ℕ) × (replies fields (more ++ lines) ≡ replies fields lines ++ text)
more_replies fields [] lines = ([], sym (append-nil (replies fields lines)))
more_replies fields (line ∷ more) lines =
    let rest = more_replies fields more lines in (
      rest.0 ++ reply fields (more ++ lines) line,
      ap (λ (text : List ℕ). text ++ reply fields (more ++ lines) line) rest.1
          ∙ append_assoc (replies fields lines) rest.0 (reply fields (more ++ lines) line),
    )

-- a beginning of lines is one of more lines
pub beginning_of_more : (fields : DeskFields) (more lines : List (List ℕ)) (text : List ℕ)
    (found : List Entry) → IsBeginning fields lines text found
    → IsBeginning fields (more ++ lines) text found
beginning_of_more fields more lines text found so =
    record {
      later = more ++ so.later;
      kept = so.kept;
      parts = ap (λ (one : List (List ℕ)). more ++ one) so.parts
          ∙ sym (append_assoc more so.later so.kept);
      entries = so.entries;
      more = so.more;
      answered = so.answered;
    }

module _ {M W : Type 0} (m : MemoryGhosts M) (w : SinkGhosts W) where
  -- a text that was put of the replies to lines is one of those to more lines
  pub put_of_more : (first now : Outside M W) (fields : DeskFields) (more lines : List (List ℕ))
      (text : List ℕ) → HasPut m w first now fields lines text
      → HasPut m w first now fields (more ++ lines) text
  put_of_more first now fields more lines text so =
      record {
        put = so.put;
        answered = λ honest found left. beginning_of_more fields more lines text found
            (so.answered honest found left);
      }

  -- a failure of a later call is one of a longer run
  pub failed_since : (old mid new : M) (fault : MemoryFault) → m.faults old ≤ m.faults mid
      → HasFailed m mid new fault → HasFailed m old new fault
  failed_since old mid new fault rises failed =
      ⊎_elim (λ refused. inl refused)
      (λ rose. inr (rose_since (m.faults old) (m.faults mid) (m.faults new) rises rose)) failed

  -- the outside goes on growing
  pub grows_self : (now : Outside M W) → Grows m w now now
  grows_self now =
      record { honest = λ so. so; memory_rises = omega arith; sink_rises = omega arith }

  pub grows_more : (old mid new : Outside M W) → Grows m w old mid → Grows m w mid new
      → Grows m w old new
  grows_more old mid new before next =
      record {
        honest = λ so. before.honest (next.honest so);
        memory_rises = omega (arith, before.memory_rises, next.memory_rises);
        sink_rises = omega (arith, before.sink_rises, next.sink_rises);
      }

  -- a failure among lines is one where more lines follow
  pub fails_more : (first now : Outside M W) (fields : DeskFields) (more lines : List (List ℕ))
      (why : Halt AnswerFault) → FailsAt m w first now fields lines why
      → StopsAt m w first now fields (more ++ lines) why
  fails_more first now fields more lines Write (rose, whole, (text, rest, prefix, put)) =
      let behind = more_replies fields more lines in (
        rose,
        whole,
        (
          text,
          rest ++ behind.0,
          behind.1 ∙ ap (λ (one : List ℕ). one ++ behind.0) prefix
              ∙ append_assoc text rest behind.0,
          put_of_more first now fields more lines text put,
        ),
      )
  fails_more first now fields more lines (Own (Unkept fault)) (failed, (rest, done, parts, put)) = (
    failed,
    (
      more ++ rest,
      done,
      ap (λ (one : List (List ℕ)). more ++ one) parts ∙ sym (append_assoc more rest done),
      put_of_more first now fields more lines (replies fields done) put,
    ),
  )
  fails_more first now fields more lines (Own Memory) so = absurd so
