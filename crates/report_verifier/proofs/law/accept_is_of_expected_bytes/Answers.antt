use Rattle.report_verifier.proofs.Acceptance.{one_mac, expected-or_collides}
use Rattle.report_verifier.proofs.law.accept_is_of_expected_bytes.Goals as goal

pub returns-clause-one_mac : goal.returns-clause-one_mac
returns-clause-one_mac c = one_mac

pub returns-clause-expected : goal.returns-clause-expected
returns-clause-expected c = expected-or_collides

pub returns-clause-compared : goal.returns-clause-compared
returns-clause-compared c digest key image expect bytes report is shows =
    shows.1 (one_mac digest key image expect bytes report is)
