-- How a source is served: what is taken of it, what was answered, and why it ended.
use Rattle.std.specs.Prelude.{◌≡◌, ◌⊎◌, ℕ, List, [], drop, length, take, Result, Ok, Err}
use Rattle.source_server.specs.{declared.{halt.Halt.Halt, served.Served.{Served, TheVariants.{Done, Spent, ReadFault, WriteFault, Own}}}, Responder.Promise, Taken.{HasGiven, IsAtEnd, IsAtFault, IsLeft, joined_pieces, most_input}}
use Rattle.outside_edge.specs.declared.source.Source.{Ghosts as SourceGhosts}
use Rattle.source_server.specs.declared.halt.Halt.TheVariants as halt

-- where a responder stopped, and at the end of its source
abbrev pub served_of : {O : Type 0} → Halt O → Served O
served_of halt.Write = WriteFault
served_of (halt.Own own) = Own own

abbrev pub served_after : {O : Type 0} → Result Unit (Halt O) → Served O
served_after (Ok unit) = Done
served_after (Err why) = served_of why

-- it stopped within the newest piece, and no more was read, or at the end of the source
abbrev pub StopsSo : {R X O : Type 0} → SourceGhosts R → Promise X O → R → R → X
    → List (List ℕ) → Halt O → Type 0
StopsSo r promise old new now pieces why =
    (IsLeft r old new pieces
    × promise.stopped now (joined_pieces (drop 1 pieces)) (joined_pieces (take 1 pieces)) why)
    ⊎ (IsAtEnd r old new pieces × promise.stopped now (joined_pieces pieces) [] why)

-- what was answered of these pieces, and why no more was taken
abbrev pub EndsSo : {R X O : Type 0} → SourceGhosts R → Promise X O → R → R → X
    → List (List ℕ) → Served O → Type 0
EndsSo r promise old new now pieces Done =
    IsAtEnd r old new pieces × promise.ended now (joined_pieces pieces)
EndsSo r promise old new now pieces Spent =
    IsLeft r old new pieces × (length (joined_pieces pieces) ≡ most_input)
    × promise.answered now (joined_pieces pieces)
EndsSo r promise old new now pieces ReadFault =
    IsAtFault r old new pieces × promise.answered now (joined_pieces pieces)
EndsSo r promise old new now pieces WriteFault = StopsSo r promise old new now pieces halt.Write
EndsSo r promise old new now pieces (Own own) =
    StopsSo r promise old new now pieces (halt.Own own)

-- a source was served: the pieces that it gave, the newest first, and how that ended
pub record Serves {R X O : Type 0} (r : SourceGhosts R) (promise : Promise X O) (old new : R)
    (now : X) (served : Served O) : Type 0 where
  pub pieces : List (List ℕ)
  pub given : HasGiven r old new pieces
  pub ends : EndsSo r promise old new now pieces served

-- The outside of one who serves a source.

-- where bytes come from, and where answers go
pub record Ports (R W : Type 0) : Type 0 where
  pub source : R
  pub sink : W
