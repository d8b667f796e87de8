use Rattle.report_verifier.proofs.Pairs.{one_mac-collides}
use Rattle.report_verifier.proofs.law.one_mac_gives_collision.Goals as goal

pub returns : goal.returns
returns c = one_mac-collides
