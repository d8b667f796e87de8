use Rattle.session_laws.proofs.SameConversation.{answers-keyless}
use Rattle.session_laws.proofs.living_law.conversation_is_keyless.Goals as goal

pub returns : goal.returns
returns c start lines more = answers-keyless start lines more
