use Rattle.session_laws.proofs.SameTalk.{talk-keyless}
use Rattle.session_laws.proofs.debugger_law.talk_is_keyless.Goals as goal

pub returns : goal.returns
returns c start events_at inputs more = talk-keyless start events_at inputs more
