use Rattle.std.proofs.Common.{take}
use Rattle.desk_cli.proofs.Noting.{Notes}
use Rattle.desk_cli.proofs.note_all.note_all.Given as goal

abbrev pub invariant-loop-entry : goal.invariant-loop-entry
invariant-loop-entry g l = Notes g.M.Memory l.fn.memory l.memory (take l.entry-index l.entries)
