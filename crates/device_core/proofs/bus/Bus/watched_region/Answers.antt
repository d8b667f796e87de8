use Rattle.std.proofs.{Common.{◌∙◌, ap, sym}, lemmas.Bool.false≢true}
use Rattle.device_types.specs.Bounds.{executable_region}
use Rattle.device_trace.specs.Logs.{flags_of}
use Rattle.device_core.proofs.bus.Bus.watched_region.Goals as goal

pub returns-then-has_flag : goal.returns-then-has_flag
returns-then-has_flag g c = λ start logs stands is_set.
    c.executable_region.ensures
    ∙ ap executable_region
    (c.bounds.ensures start.power (flags_of start logs) logs.memory stands.same_memory)

pub returns-else-has_flag : goal.returns-else-has_flag
returns-else-has_flag g c = λ start logs stands is_set.
    absurd
    (false≢true
    (sym c.if-has_flag.false ∙ c.has_flag.ensures logs.records stands.same_monitors ∙ is_set))
