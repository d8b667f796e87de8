use Rattle.std.specs.Prelude.{Some}
use Rattle.trace_files.{specs.Wire.{flag_wires, register_wires}, proofs.Others.untold_both}
use Rattle.trace_files.proofs.change.has_same_state.Goals as goal

pub returns-then-has_same_registers : goal.returns-then-has_same_registers
returns-then-has_same_registers c = λ same.
    untold_both (Some c.args.last.now) c.args.now.now register_wires flag_wires
    (c.has_same_registers.ensures c.if-has_same_registers.true) (c.has_same_flags.ensures same)
