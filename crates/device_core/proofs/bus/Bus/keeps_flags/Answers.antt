use Rattle.device_core.proofs.bus.Bus.keeps_flags.Goals as goal

pub returns-then-leaves_flags : goal.returns-then-leaves_flags
returns-then-leaves_flags g c = λ start logs stands same.
    record {
      shown = c.shows_second_flag.ensures start logs stands same;
      leaves = λ entry is.
          c.leaves_flags.ensures start logs entry stands is c.if-leaves_flags.true;
    }
