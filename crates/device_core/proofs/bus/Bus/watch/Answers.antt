use Rattle.std.proofs.Common.{◌∷◌}
use Rattle.device_trace.specs.Logs.{aux_shown, flags_shown}
use Rattle.device_core.{specs.Bus.seen_in, proofs.FlagsShown.aux-more}
use Rattle.device_core.proofs.bus.Bus.watch.Goals as goal

pub returns-clause-memory : goal.returns-clause-memory
returns-clause-memory g c = λ start writes records flag memory monitors.
    let now = seen_in c.args.step in
    let seen = c.see.ensures records monitors in
    let was = c.exec-was_set.ensures records monitors in
    let is = c.exec.ensures (now ∷ records) seen in
    let shown = c.show_exec.ensures start.power (flags_shown start records) writes memory was in
    let aux = aux-more start now records c.goes_on_in_call-is_still.result c.aux.result
    c.goes_on_in_call-is_still.ensures (rw flag (c.aux.ensures (now ∷ records) seen)) in
    rw (is, aux) at
    (c.show_aux.ensures start.power
    (record { exec = c.exec.result; aux = aux_shown start records }) writes shown)
