-- The messages of tokens, challenges and marks.
use Rattle.std.proofs.Common.{refl}
use Rattle.verifier_desk.specs.KeyMessage.{MessagesStandApart}
use Rattle.verifier_desk.proofs.law.messages_stand_apart.Goals as goal

messages_stand_apart : MessagesStandApart
messages_stand_apart =
    record {
      token = λ digest key challenge counter. refl;
      challenge = λ digest key count. refl;
      mark = λ digest key. refl;
      token_challenge = λ challenge counter count rest others same. cc same;
      token_mark = λ challenge counter rest others same. cc same;
      challenge_mark = λ count rest others same. cc same;
    }

pub returns : goal.returns
returns c = messages_stand_apart
