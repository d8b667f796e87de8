-- The lines of steps that a debugger is told, and those that wait.
use Rattle.std.specs.Prelude.{◌≡◌, ◌++◌, ℕ, suc, true, false, List, [], ◌∷◌, Result, OnErr, OnOk}
use Rattle.outside_edge.specs.{Sink.TakesPrefix, declared.sink.Sink.Ghosts as SinkGhosts}
use Rattle.debug_link.specs.{Console.console, Packet.packets_of, Writing.{HasPut, PacketSink}}
use Rattle.debug_session.specs.{Place.{Run, sight_at, step_sight}, Sight.StepSight}
use Rattle.device_debug.specs.declared.step_text.StepText.{StepText, TheVariants.{Lines, Trace}}

-- A text that grows in memory.

-- its bytes, and how often it had no room
pub record GrownText : Type 0 where
  pub bytes : List ℕ
  pub faults : ℕ

-- the packets of the lines of a step
abbrev pub step_bodies : Run → ℕ → List (List ℕ)
step_bodies run step = console (step_sight run step).lines

-- and of texts that wait
abbrev pub bodies_of : List GrownText → List (List ℕ)
bodies_of [] = []
bodies_of (text ∷ texts) = console text.bytes ++ bodies_of texts

-- behind a step some of the packets that waited and of its own were put, and the others wait: all
-- were put at a boundary, and none elsewhere
pub record TellsStep {W V E : Type 0} (w : SinkGhosts W) (old new : PacketSink W)
    (waiting waiting_new : List GrownText) (run : Run) (step : ℕ) (result : Result V E)
    : Type 0 where
  pub put : List (List ℕ)
  pub later : List (List ℕ)
  pub whole : put ++ later ≡ bodies_of waiting ++ step_bodies run step
  pub has_put : OnOk result (HasPut w old new put)
  pub prefix : OnErr result (TakesPrefix w.stands old.sink new.sink (packets_of put))
  pub waits : OnOk result (later ≡ bodies_of waiting_new)
  pub none_waits : (sight_at run (suc step)).boundary ≡ true → later ≡ []
  pub none_put : (sight_at run (suc step)).boundary ≡ false → put ≡ []

-- The texts of steps.

abbrev pub text_in : StepText → StepSight → List ℕ
text_in Lines step = step.lines
text_in Trace step = step.trace_line
