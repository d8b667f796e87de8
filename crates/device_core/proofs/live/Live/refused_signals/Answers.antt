use Rattle.std.proofs.Common.{◌∙◌, ap, sym}
use Rattle.device_trace.specs.Trace.{last_signals}
use Rattle.device_core.{specs.Silence.where_refused, proofs.{Idle.silent-parts, Outside.{live-refused, live-unkept}}}
use Rattle.device_core.proofs.live.Live.refused_signals.Goals as goal

pub returns-in-Some : goal.returns-in-Some
returns-in-Some g c = λ start play stands.
    c.as_ref.ensures.value
    ∙ live-refused (rw c.machine.ensures at c.in-Some.is) stands

pub returns-in-None : goal.returns-in-None
returns-in-None g c = λ start play stands.
    ap (λ rule. where_refused rule (last_signals start play))
    (sym (silent-parts start play
    (live-unkept (rw c.machine.ensures at c.in-None.is) stands)).1)
