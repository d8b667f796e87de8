-- Faults that were counted since an earlier moment.
use Rattle.std.{proofs.{Common.{◌≡◌, ◌≤◌, ◌∙◌, ℕ, Result, Ok, Err, IsErr, sym, arith}, lemmas.Bool.false≢true}, specs.Prelude.IsErrAnd}
use Rattle.outside_edge.{specs.{Calls.Rose, Sink.CountsFaults}, proofs.Counts.rose_since}
use Rattle.debug_link.specs.{Writing.CountsWriteFaults, declared.answer_fault.AnswerFault.{AnswerFault, TheVariants.Memory}}

module _ {S : Type 0} (faults : S → ℕ) (old mid new : S) where
  -- a call that failed where another one did, before which none was counted
  pub counts_failed : {V E : Type 0} (result : Result V E)
      → IsErr result → faults mid ≡ faults old
      → Rose (faults mid) (faults new) → faults mid ≤ faults new
      → CountsFaults faults old new result
  counts_failed (Ok value) is same rises keeps = absurd (false≢true is)
  counts_failed (Err error) is same rises keeps =
      record { failed = rw same at rises; quiet = tt; counted = rw same at keeps }

  -- the sink failed
  pub counts_unwritten : {V : Type 0} (result : Result V AnswerFault)
      → faults old ≤ faults mid → Rose (faults mid) (faults new) → faults mid ≤ faults new
      → CountsWriteFaults faults old new result
  counts_unwritten (Ok value) up rises keeps =
      record { failed = tt; counted = omega (arith, up, keeps) }
  counts_unwritten (Err error) up rises keeps =
      record {
        failed = λ is. rose_since (faults old) (faults mid) (faults new) up rises;
        counted = omega (arith, up, keeps);
      }

  -- a call that handed on the fault of another one
  pub counts_passed : {V U : Type 0} (fault : AnswerFault) (result : Result V AnswerFault)
      → IsErrAnd result (λ error. error ≡ fault) → faults old ≤ faults mid
      → CountsWriteFaults {V = U} faults mid new (Err fault)
      → CountsWriteFaults faults old new result
  counts_passed fault (Ok value) is up counts = absurd is
  counts_passed fault (Err error) is up counts =
      record {
        failed = λ write. rose_since (faults old) (faults mid) (faults new) up
            (counts.failed (sym is ∙ write));
        counted = omega (arith, up, counts.counted);
      }

-- there was no memory
pub counts_memory : {S V : Type 0} (faults : S → ℕ) (old new : S) (result : Result V AnswerFault)
    → IsErrAnd result (λ error. error ≡ Memory) → faults old ≤ faults new
    → CountsWriteFaults faults old new result
counts_memory faults old new (Ok value) is up = absurd is
counts_memory faults old new (Err error) is up =
    record { failed = λ write. absurd (cc (is, write)); counted = up }
