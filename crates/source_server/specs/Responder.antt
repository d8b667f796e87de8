-- What one who answers promises.
use Rattle.std.specs.Prelude.{◌++◌, ℕ, List, [], Result, OnOk, IfErr}
use Rattle.source_server.specs.declared.halt.Halt.{Halt}

-- one who answers, and the edge where its answers go
pub record Moment (T E : Type 0) : Type 0 where
  pub responder : T
  pub edge : E

-- What a moment may be behind bytes: all that is due to them was put; that, and what is due at the
-- end of the input; or it stopped so behind some bytes, within these that came next.
pub record Promise (X Own : Type 0) : Type 1 where
  pub answered : X → List ℕ → Type 0
  pub ended : X → List ℕ → Type 0
  pub stopped : X → List ℕ → List ℕ → Halt Own → Type 0

-- what came of these bytes behind earlier ones
pub record Answers {X Own : Type 0} (promise : Promise X Own) (now : X) (before piece : List ℕ)
    (result : Result Unit (Halt Own)) : Type 0 where
  pub goes_on : OnOk result (promise.answered now (before ++ piece))
  pub stops : IfErr result (λ halt. promise.stopped now before piece halt)

-- what came of the end of the input
pub record Ends {X Own : Type 0} (promise : Promise X Own) (now : X) (bytes : List ℕ)
    (result : Result Unit (Halt Own)) : Type 0 where
  pub all : OnOk result (promise.ended now bytes)
  pub stops : IfErr result (λ halt. promise.stopped now bytes [] halt)
