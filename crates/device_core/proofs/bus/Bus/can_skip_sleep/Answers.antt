use Rattle.std.proofs.Common.{◌∙◌, sym}
use Rattle.device_trace.specs.Logs.{flags_of}
use Rattle.device_core.proofs.Steps.{none_asked}
use Rattle.device_core.proofs.bus.Bus.can_skip_sleep.Goals as goal

pub returns-then-repeat : goal.returns-then-repeat
returns-then-repeat g c = λ start logs stands same.
    record {
      repeats =
          rw (c.bounds.ensures start.power (flags_of start logs) logs.memory stands.same_memory) at
          (c.repeat.ensures c.if-repeat.true);
      unasked =
          sym (c.dma_access.ensures start logs stands)
          ∙ none_asked _ (sym c.is_some.ensures ∙ c.if-is_some.false);
      shown = c.shows_second_flag.ensures start logs stands same;
    }
