use Rattle.trace_facts.proofs.NeverBroken.{trace-names_neither}
use Rattle.trace_facts.proofs.law.a1_and_k3_never_hold.Goals as goal

pub returns : goal.returns
returns c = trace-names_neither
