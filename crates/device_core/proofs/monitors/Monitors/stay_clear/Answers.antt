use Rattle.std.proofs.Common.{◌∙◌, map, sym}
use Rattle.device_trace.specs.Blank.{blank_seen}
use Rattle.device_core.proofs.monitors.Monitors.stay_clear.Goals as goal

pub returns-then-stays_clear : goal.returns-then-stays_clear
returns-then-stays_clear g c = λ now records stands pc er_min clear.
    let exec = c.stays_clear.ensures now records stands.same_exec pc er_min
    c.if-stays_clear.true in
    let second =
    c.stays_clear-then-stays_clear.ensures (blank_seen now) (map blank_seen records)
    stands.same_second pc er_min clear in
    record {
      same_exec = exec.1 ∙ sym exec.0;
      same_second = second.1 ∙ sym second.0;
    }
