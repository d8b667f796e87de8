use Rattle.mac_coverage.proofs.Plays.{mac_covers_call}
use Rattle.mac_coverage.proofs.law.mac_covers_region_throughout_call.Goals as goal

pub returns : goal.returns
returns c = mac_covers_call
