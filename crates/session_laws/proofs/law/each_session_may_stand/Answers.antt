use Rattle.session_laws.proofs.Sessions.{session-stands}
use Rattle.session_laws.proofs.law.each_session_may_stand.Goals as goal

pub returns : goal.returns
returns c = session-stands
