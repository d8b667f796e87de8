use Rattle.std.specs.Prelude.{Some}
use Rattle.trace_files.{specs.Wire.{port_wires, state_wires}, proofs.Others.untold_both}
use Rattle.trace_files.proofs.change.has_same_others.Goals as goal

pub returns-then-has_same_state : goal.returns-then-has_same_state
returns-then-has_same_state c =
    rw c.in-Some.is
    (λ same. untold_both (Some c.in-Some.last.now) c.args.now.now state_wires port_wires
    (c.has_same_state.ensures c.if-has_same_state.true) (c.has_same_ports.ensures same))
