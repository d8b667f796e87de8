use Rattle.std.proofs.Common.{◌∙◌, sym}
use Rattle.device_core.proofs.Steps.{no_rule}
use Rattle.device_core.proofs.monitors.Monitors.repeat.Goals as goal

pub returns-then-permits : goal.returns-then-permits
returns-then-permits g c = λ same.
    record {
      same_pc = c.was_at.ensures c.if-not-was_at.false;
      unbroken = λ records stands.
          no_rule _ (sym (c.permits.ensures records stands) ∙ c.if-permits.true);
      leaves = λ entry records stands is. c.stay.ensures entry records stands is same;
    }
