use Rattle.trace_files.proofs.change.+push_bits.Given as goal

abbrev pub decreases-push_bits : goal.decreases-push_bits
decreases-push_bits l = l.number
