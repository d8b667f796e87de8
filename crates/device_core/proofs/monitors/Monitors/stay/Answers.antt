use Rattle.std.proofs.Common.{◌∙◌, map, sym}
use Rattle.device_trace.specs.Blank.{blank_record, blank_seen}
use Rattle.trace_facts.proofs.BlankRecords.{last_pc-blank}
use Rattle.device_core.proofs.BlankStep.{blank-step}
use Rattle.device_core.proofs.monitors.Monitors.stay.Goals as goal

pub returns-then-stays : goal.returns-then-stays
returns-then-stays g c = λ entry records stands is same.
    let blank = blank-step c.args.now.now entry is in
    record {
      same_exec =
          c.stays.ensures entry records stands.same_exec is
          (λ quiet. rw stands.same_last at c.is_quiet-quiet.ensures entry is quiet)
          c.if-stays.true;
      same_second =
          c.stays-then-stays.ensures (blank_record entry) (map blank_seen records)
          stands.same_second blank
          (λ quiet. rw (stands.same_last ∙ sym (last_pc-blank records)) at
          c.is_quiet-quiet.ensures (blank_record entry) blank quiet)
          same;
    }
