use Rattle.std.proofs.Common.{arith}
use Rattle.debug_cli.proofs.ServedSession.{no-fault-of_run}
use Rattle.program_tests.proofs.debug.over_those_that_never_fail_all_is_answered.Goals as goal

pub unreachable-requires : goal.unreachable-requires
unreachable-requires g c =
    no-fault-of_run _ _ _ _ _ _ _ _ _ _ c.run-status.ensures (λ rose. search (arith, rose))
    (λ rose. search (arith, rose)) (λ rose. search (arith, rose)) c.in-ReadFault.is
