use Rattle.std.proofs.Common.{◌≡◌, ◌⊎◌, ℕ, List, Option, Some, None, inl, inr, arith}
use Rattle.outside_edge.specs.Calls.{Rose}
use Rattle.input_files.specs.{CommandLine.texts, Reading.Files, declared.status.Status.{Status, TheVariants.{ReadFault, WriteFault}}}
use Rattle.device_cli.specs.{Command.row_of, Row.Row, Answer.IsRun}
use Rattle.program_tests.proofs.device.failing_edge.over_those_that_never_fail_no_fault_is_answered.Goals as goal

-- where no fault was counted, none is answered
no_fault : {S W : Type 0} (files : S → Files) (faults misses : S → ℕ)
    (stands : W → List ℕ → Type 0) (sink_faults : W → ℕ) (shelf shelf_after : S)
    (sink sink_after : W) (row : Option Row) (status : Status)
    → IsRun files faults misses stands sink_faults shelf shelf_after sink sink_after row status
    → ¬ Rose (faults shelf) (faults shelf_after)
    → ¬ Rose (sink_faults sink) (sink_faults sink_after)
    → (status ≡ ReadFault) ⊎ (status ≡ WriteFault) → ⊥
no_fault files faults misses stands sink_faults shelf shelf_after sink sink_after
    None status run no_read no_write (inl read) = cc (read, run.0)
no_fault files faults misses stands sink_faults shelf shelf_after sink sink_after
    None status run no_read no_write (inr write) = cc (write, run.0)
no_fault files faults misses stands sink_faults shelf shelf_after sink sink_after
    (Some row) status run no_read no_write (inl read) =
    let cause = rw read at run.cause in
    no_read cause.0
no_fault files faults misses stands sink_faults shelf shelf_after sink sink_after
    (Some row) status run no_read no_write (inr write) =
    let cause = rw write at run.cause in
    no_write cause.0

pub unreachable-requires : goal.unreachable-requires
unreachable-requires g c =
    no_fault _ _ _ _ _ _ _ _ _ (row_of (texts c.deref.result.now)) c.run.result c.run.ensures.run
    (λ rose. search (arith, rose)) (λ rose. search (arith, rose)) c.in-ReadFault.is
