-- The messages whose HMACs under one key are told or kept: of tokens, challenges and the mark.
use Rattle.std.specs.Prelude.{◌≡◌, ◌++◌, ℕ, List, ◌∷◌, take}
use Rattle.part_definitions.specs.{Hmac.hmac, Request.request_token}
use Rattle.desk_memory.specs.KeyMark.{key_mark, mark_message}
use Rattle.verifier_desk.specs.DeviceReply.{challenge_message, desk_challenge}

-- of the token of a challenge and a counter's bytes
abbrev pub token_message : List ℕ → List ℕ → List ℕ
token_message challenge counter = 1 ∷ challenge ++ counter

-- neither message begins the other
abbrev pub StartApart : List ℕ → List ℕ → Type 0
StartApart one other = (rest others : List ℕ) → one ++ rest ≡ other ++ others → ⊥

-- tokens, challenges and marks are HMACs of these messages, and none of one kind begins one of
-- another
pub record MessagesStandApart : Type 0 where
  pub token : (digest : List ℕ → List ℕ) (key challenge counter : List ℕ)
      → request_token digest key challenge counter
      ≡ hmac digest key (token_message challenge counter)
  pub challenge : (digest : List ℕ → List ℕ) (key : List ℕ) (count : ℕ)
      → desk_challenge digest key count ≡ hmac digest key (challenge_message count)
  pub mark : (digest : List ℕ → List ℕ) (key : List ℕ)
      → key_mark digest key ≡ take 16 (hmac digest key mark_message)
  pub token_challenge : (challenge counter : List ℕ) (count : ℕ)
      → StartApart (token_message challenge counter) (challenge_message count)
  pub token_mark : (challenge counter : List ℕ)
      → StartApart (token_message challenge counter) mark_message
  pub challenge_mark : (count : ℕ) → StartApart (challenge_message count) mark_message
