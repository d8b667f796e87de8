use Rattle.std.proofs.Common.{refl}
use Rattle.device_trace.specs.Start.{with_key}
use Rattle.key_isolation.proofs.Induction.{play_hides}
use Rattle.key_isolation.proofs.law.key_acts_through_released_words.Goals as goal

pub returns : goal.returns
returns c flag digest key image play more =
    (play_hides (with_key flag digest key image) _ play more refl).history
