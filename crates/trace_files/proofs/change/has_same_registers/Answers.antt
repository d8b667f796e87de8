use Rattle.std.proofs.lemmas.{Bool.Decides.Decides-eqb, Slice.Eq.slice_eq-Decides}
use Rattle.trace_files.proofs.Others.{untold_registers}
use Rattle.trace_files.proofs.change.has_same_registers.Goals as goal

pub returns : goal.returns
returns c same =
    untold_registers c.args.last.now c.args.now.now
    ((slice_eq-Decides Decides-eqb _ _ _ c.eq.ensures).0 same)
