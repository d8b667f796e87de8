use Rattle.mac_coverage.proofs.Plays.{reported_mac-is_tag}
use Rattle.mac_coverage.proofs.law.reported_mac_is_tag.Goals as goal

pub returns : goal.returns
returns c = reported_mac-is_tag
