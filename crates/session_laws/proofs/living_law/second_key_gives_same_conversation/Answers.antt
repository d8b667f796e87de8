use Rattle.session_laws.proofs.SameConversation.{answers-alike}
use Rattle.session_laws.proofs.living_law.second_key_gives_same_conversation.Goals as goal

pub returns : goal.returns
returns c start other lines same agree = answers-alike start other lines same agree
