-- What a debugger answers, from where its session stands.
use Rattle.std.specs.Prelude.{ℕ, ◌==◌, ◌++◌, ◌-◌, zero, suc, List, [], ◌∷◌, Option, Some, None, codes, is_some, if◌then◌else◌}
use Rattle.printed_lines.specs.Line.{reset_line}
use Rattle.debug_link.specs.{Console.console, Conversation.Answer, declared.connection.Connection.TheVariants.{Open, Closed}}
use Rattle.debug_session.specs.{StopReply.stop_reply, Stops.{Stops, no_stops, with_change}, declared.{stop.Stop.Stop, command.{Command.{Command, TheVariants.{Supported, LastStop, Attached, Registers, Memory, Change, Actions, Go, Monitor, Detach, Kill, Refused, Unknown}}, Going.Going, Way.{Way, TheVariants.{Ahead, Back}}}, request.Request.{Request, TheVariants.Until}}, Command.command_of, Request.most_steps, Going.{Standing, interrupted, where_to}, Monitor.request_text, Shown.{memory_body, registers_shown}, Sight.View}
use Rattle.debug_session.specs.declared.stop.Stop.TheVariants as stop

-- Only these change by what is asked; the run never does.
pub record Session : Type 0 where
  pub place : ℕ
  pub stops : Stops
  pub stop : Stop

-- after the boot
abbrev pub first_session : Session
first_session = record {
  place = 1;
  stops = no_stops;
  stop = stop.Plain;
}

-- the lines of so many steps from a place on, each in packets of its own
abbrev pub told_lines : View → ℕ → ℕ → List (List ℕ)
told_lines view place zero = []
told_lines view place (suc steps) = console (view place).next.lines
    ++ told_lines view (suc place) steps

-- the next step from a place on that is refused
abbrev pub refused_step : View → ℕ → ℕ → ℕ
refused_step view place zero = place
refused_step view place (suc steps) =
    if is_some (view place).next.refused then place else refused_step view (suc place) steps

-- before a refusal its own line
abbrev pub refusal_warning : View → ℕ → Stop → List (List ℕ)
refusal_warning view place (stop.Refused rule) =
    console (codes "stops before "
    ++ reset_line (refused_step view place (most_steps - place)) rule)
refusal_warning view place other = []

-- forwards the lines of the steps up to another place
abbrev pub lines_to : View → Way → ℕ → Standing → List (List ℕ)
lines_to view Ahead place now =
    told_lines view place (now.place - place) ++ refusal_warning view now.place now.stop
lines_to view Back place now = []

-- one packet, and the session stays open
abbrev pub says : Session → List ℕ → Answer Session
says session body = record { session = session; packets = body ∷ []; connection = Open }

-- the session stands elsewhere, behind these packets
abbrev pub stands_at : Session → Standing → List (List ℕ) → Answer Session
stands_at session now lines =
    record {
      session = record session { place = now.place; stop = now.stop };
      packets = lines ++ stop_reply now.stop ∷ [];
      connection = Open;
    }

abbrev pub goes : View → Option ℕ → Session → Way → Going → Answer Session
goes view interrupt session way going =
    let now : Standing =
    interrupted view session.place interrupt
    (where_to view session.stops way going session.place) in
    stands_at session now (lines_to view way session.place now)

-- with other breakpoints or watches, where they fit
abbrev pub with_stops : Session → Option Stops → Answer Session
with_stops session None = says session (codes "E01")
with_stops session (Some stops) = says (record session { stops = stops }) (codes "OK")

-- what the user asks for by `monitor`: its text, and then OK
abbrev pub until_of : ℕ → Option ℕ
until_of number = if number == 0 then None else Some number

abbrev pub after_request : Session → Request → Session
after_request session (Until number) =
    record session { stops = record session.stops { until = until_of number } }
after_request session request = session

abbrev pub answer_to_request : View → Session → Request → Answer Session
answer_to_request view session request =
    record {
      session = after_request session request;
      packets = console (request_text view session.place request) ++ codes "OK" ∷ [];
      connection = Open;
    }

abbrev pub closes : Session → List (List ℕ) → Answer Session
closes session packets =
    record { session = session; packets = packets; connection = Closed }

-- an interrupt has a place, if one comes
abbrev pub answer_of : View → Option ℕ → Session → Command → Answer Session
answer_of view interrupt session Supported =
    says session (codes "PacketSize=1000;ReverseStep+;ReverseContinue+")
answer_of view interrupt session LastStop = says session (stop_reply session.stop)
answer_of view interrupt session Attached = says session (codes "1")
answer_of view interrupt session Registers = says session (registers_shown (view session.place))
answer_of view interrupt session (Memory first size) =
    says session (memory_body (view session.place) first size)
answer_of view interrupt session (Change change) =
    with_stops session (with_change session.stops change)
answer_of view interrupt session Actions = says session (codes "vCont;c;C;s;S;r")
answer_of view interrupt session (Go way going) = goes view interrupt session way going
answer_of view interrupt session (Monitor request) = answer_to_request view session request
answer_of view interrupt session Detach = closes session (codes "OK" ∷ [])
answer_of view interrupt session Kill = closes session []
answer_of view interrupt session Refused = says session (codes "E01")
answer_of view interrupt session Unknown = says session []

-- the reply to a body
unfoldable pub reply : View → Option ℕ → Session → List ℕ → Answer Session
reply view interrupt session body = answer_of view interrupt session (command_of body)
