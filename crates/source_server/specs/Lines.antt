-- What is answered of bytes that are cut into lines.
use Rattle.std.specs.Prelude.{◌≡◌, ◌++◌, ℕ, List, Option, Result, OnOk, IfErr}
use Rattle.source_server.specs.{declared.{halt.Halt.Halt, lines.Lines.Lines}, HeldLine.HoldsRest, LineCut.{LineCut, all_lines, cut_of, whole_lines, with_all_bytes}, Responder.{Moment, Promise}}

-- What one who answers lines promises.

-- What a moment may be behind lines, the newest first: they were answered, and what is due may be
-- held back; all that is due to them was put; or it stopped so at the newest of them.
pub record LinePromise (X Own : Type 0) : Type 1 where
  pub told : X → List (List ℕ) → Type 0
  pub answered : X → List (List ℕ) → Type 0
  pub stopped : X → List (List ℕ) → Halt Own → Type 0

-- what came of these lines
pub record Tells {X Own : Type 0} (promise : LinePromise X Own) (now : X) (lines : List (List ℕ))
    (result : Result Unit (Halt Own)) : Type 0 where
  pub goes_on : OnOk result (promise.told now lines)
  pub stops : IfErr result (λ halt. promise.stopped now lines halt)

-- and where what was held back was put
pub record Settles {X Own : Type 0} (promise : LinePromise X Own) (now : X)
    (lines : List (List ℕ)) (result : Result Unit (Halt Own)) : Type 0 where
  pub goes_on : OnOk result (promise.told now lines × promise.answered now lines)
  pub stops : IfErr result (λ halt. promise.stopped now lines halt)

-- the lines of a cut were answered, and what is held stands for the rest
pub record HoldsCut {X O : Type 0} (promise : LinePromise X O) (held : Option (List ℕ)) (now : X)
    (cut : LineCut) : Type 0 where
  pub told : promise.told now cut.lines
  pub holds : HoldsRest held cut.rest

-- it stopped at one of these lines, behind those that were whole before
pub record StopsAmong (Stops : List (List ℕ) → Type 0) (lines whole : List (List ℕ)) : Type 0 where
  pub later : List (List ℕ)
  pub newer : List (List ℕ)
  pub parts : lines ≡ later ++ (newer ++ whole)
  pub stopped : Stops (newer ++ whole)

-- the lines that end in a piece were answered
pub record TellsPiece {X O : Type 0} (promise : LinePromise X O) (held : Option (List ℕ)) (now : X)
    (cut : LineCut) (piece : List ℕ) (result : Result Unit (Halt O)) : Type 0 where
  pub goes_on : OnOk result (HoldsCut promise held now (with_all_bytes cut piece))
  pub stops : IfErr result (λ halt.
      StopsAmong (λ lines. promise.stopped now lines halt) (with_all_bytes cut piece).lines
      cut.lines)

-- who answers the lines, at the edge
abbrev pub within : {L E : Type 0} → Moment (Lines L) E → Moment L E
within now = record { responder = now.responder.responder; edge = now.edge }

-- what a responder of lines promises of bytes: of the lines that are whole, of all at the end, and
-- of those up to the one at which it stopped
abbrev pub promise_of : {L E O : Type 0} → LinePromise (Moment L E) O
    → Promise (Moment (Lines L) E) O
promise_of promise =
    record {
      answered = λ now bytes. HoldsCut promise now.responder.held (within now) (cut_of bytes)
          × promise.answered (within now) (whole_lines bytes);
      ended = λ now bytes. promise.answered (within now) (all_lines bytes);
      stopped = λ now before last halt.
          StopsAmong (λ lines. promise.stopped (within now) lines halt) (all_lines (before ++ last))
          (whole_lines before);
    }

abbrev pub since_of : {L E : Type 0} → (Moment L E → Moment L E → Type 0)
    → Moment (Lines L) E → Moment (Lines L) E → Type 0
since_of since old new = since (within old) (within new)
