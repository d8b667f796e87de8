use Rattle.std.proofs.Common.{◌∙◌, sym}
use Rattle.device_trace.specs.Logs.{flags_of}
use Rattle.device_core.proofs.FlagsShown.{same_where_equal}
use Rattle.device_core.proofs.bus.Bus.shows_second_flag.Goals as goal

pub returns : goal.returns
returns g c = λ start logs stands same.
    sym (c.shows_aux.ensures start.power (flags_of start logs) logs.memory stands.same_memory)
    ∙ same_where_equal _ _ same
    ∙ c.aux.ensures logs.records stands.same_monitors
