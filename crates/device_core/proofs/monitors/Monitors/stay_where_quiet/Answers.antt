use Rattle.std.proofs.Common.{◌∙◌, map, sym}
use Rattle.device_trace.specs.Blank.{blank_record, blank_seen}
use Rattle.trace_facts.proofs.BlankRecords.{last_pc-blank}
use Rattle.device_core.proofs.BlankStep.{blank-step}
use Rattle.device_core.proofs.monitors.Monitors.stay_where_quiet.Goals as goal

pub returns-then-stays : goal.returns-then-stays
returns-then-stays g c = λ entry records stands quiet is same.
    let blank = blank-step c.args.now.now entry is in
    let watched = c.has_flag-quiet.ensures records stands in
    record {
      same_exec =
          c.stays.ensures entry records stands.same_exec is
          (λ is_set. quiet (sym watched ∙ is_set) entry is)
          c.if-stays.true;
      same_second =
          c.stays-then-stays.ensures (blank_record entry) (map blank_seen records)
          stands.same_second blank
          (λ is_set. rw (sym (last_pc-blank records)) at
          (quiet (sym watched ∙ is_set) (blank_record entry) blank))
          same;
    }
