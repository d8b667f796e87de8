use Rattle.session_laws.proofs.SameTalk.{same_talk}
use Rattle.session_laws.proofs.debugger_law.second_key_gives_same_talk.Goals as goal

pub returns : goal.returns
returns c start other events_at inputs same agree =
    same_talk start other events_at inputs same agree
