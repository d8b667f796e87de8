use Rattle.session_laws.proofs.ShownPlays.{shows-play}
use Rattle.session_laws.proofs.law.shown_is_of_the_play.Goals as goal

pub returns : goal.returns
returns c = shows-play
