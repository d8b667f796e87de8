use Rattle.std.proofs.Common.{◌∙◌, sym}
use Rattle.device_core.proofs.Steps.{none_asked}
use Rattle.device_core.proofs.bus.Bus.calm_region.Goals as goal

pub returns-then-shows_second_flag : goal.returns-then-shows_second_flag
returns-then-shows_second_flag g c = λ start logs stands.
    record {
      above = sym c.is_above_rom.ensures ∙ c.if-is_above_rom.true;
      ran =
          sym (c.ran_inside.ensures logs.records stands.same_monitors)
          ∙ c.if-ran_inside.true;
      unasked =
          sym (c.dma_access.ensures start logs stands)
          ∙ none_asked _ (sym c.is_some.ensures ∙ c.if-is_some.false);
      shown = c.shows_second_flag.ensures start logs stands c.if-shows_second_flag.true;
      watched = λ is_set. c.watched_region-code.ensures start logs stands is_set;
    }
