use Rattle.session_laws.proofs.EarlyEnds.{may-end}
use Rattle.session_laws.proofs.law.interrupt_ends_a_way.Goals as goal

pub returns : goal.returns
returns c = λ run session body interrupt stands. may-end run session stands body interrupt
