-- Two runs of which a debugger tells the same.
use Rattle.std.specs.Prelude.{◌≡◌, ℕ, List, take, ◌+◌, ◌-◌, [], ◌∷◌, length, max}
use Rattle.device_types.specs.declared.event.Event.{Event}
use Rattle.device_trace.specs.{Start.Start, Trace.Play}
use Rattle.debug_link.specs.Conversation.{Input, conversation, Talk, first_talk, talk_with_byte}
use Rattle.debug_session.specs.{Place.{Run, view_of, play_to}, Session.{first_session, reply, Session}, Request.most_steps, Cause.ahead, Sight.View}

abbrev pub run_of : Start → (ℕ → List Event) → Run
run_of start events_at = record { start = start; events_at = events_at }

-- behind each of these inputs, bytes and interrupts, the same was put, and the session stands at
-- the same place, for the same reason and with the same stops
abbrev pub TellsTheSame : Run → Run → List (Input ℕ) → Type 0
TellsTheSame left right inputs =
    (so_many : ℕ)
    → conversation (reply (view_of left)) first_session (take so_many inputs)
    ≡ conversation (reply (view_of right)) first_session (take so_many inputs)

-- How far a debugger goes in a conversation.

-- the furthest place where a session stands, now or behind any of these inputs
abbrev pub furthest : View → Talk Session → List (Input ℕ) → ℕ
furthest view talk [] = talk.session.place
furthest view talk (input ∷ inputs) =
    max talk.session.place
    (furthest view (talk_with_byte (reply view input.interrupt) talk input.byte) inputs)

-- the next boundary behind a place; where none is, the last place of all
abbrev pub next_boundary : View → ℕ → ℕ
next_boundary view place = place + length (ahead view place (most_steps - place))

-- how far a debugger went: on to the next boundary, since it stops before a step that is refused
abbrev pub gone_to : View → List (Input ℕ) → ℕ
gone_to view inputs = next_boundary view (furthest view (first_talk first_session) inputs)

-- the steps up to there
abbrev pub steps_gone : Run → List (Input ℕ) → Play
steps_gone run inputs = play_to run (gone_to (view_of run) inputs)
