use Rattle.device_play.proofs.WatchedPlay.{lawful_report}
use Rattle.device_play.proofs.law.reports_tell_of_their_moments.Goals as goal

pub returns : goal.returns
returns c digest key start play laws later earlier parts report =
    lawful_report digest key start earlier report (laws.moments later earlier parts)
