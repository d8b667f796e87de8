-- A session stands where it may, whatever it is asked.
use Rattle.std.{proofs.{Common.{◌≡◌, ◌<◌, ◌+◌, ◌⊎◌, inl, inr, ⊎_elim, ℕ, Bool, true, false, List, [], ◌∷◌, Option, Some, None, length, nat_lt, refl, ap, sym, subst, arith}, lemmas.Bool.{and_parts, eqb-true, or_cases}}, specs.Prelude.{◌==◌, ◌&&◌, ◌||◌, if◌then◌else◌}}
use Rattle.debug_link.specs.{Conversation.{Answer, Input, LONGEST_BODY, Talk, talk_after_message, first_talk, with_mark, talk_with_byte, talk_with_inputs}, Link.{Message, Silence, Again, Damage, Whole, message_of}, declared.connection.Connection.TheVariants.Open}
use Rattle.debug_session.{specs.{Command.command_of, Request.most_steps, declared.{command.{Command.{Command, TheVariants.{Change, Go, Monitor}}, Going.Going, Way.{Way, TheVariants.{Ahead, Back}}}, request.Request.{Request, TheVariants.Until}, stop.Stop.TheVariants.{Begin, End, Interrupted}}, Stops.{Stops, with_change}, Cause.cause, Going.{Standing, interrupted, lies_between, seek_of, where_to}, Session.{Session, after_request, answer_of, first_session, reply, with_stops}, Sight.View}, proofs.Between.between-is}
use Rattle.session_laws.{specs.{FirstStop.HasStopped, StepBack.{MayStandAt, session_after}}, proofs.{FirstStops.{stops-first, stops-last}, StepsBack.at-boundary}}

module _ (view : View) (stops : Stops) where
  pub gone-stands : (way : Way) (going : Going) (place : ℕ) → MayStandAt view place
      → MayStandAt view (where_to view stops way going place).place
  gone-stands Ahead going place may =
      let now : Standing = where_to view stops Ahead going place in
      ⊎_elim
      (λ (stopped : HasStopped (cause view stops (seek_of view Ahead going place)) (place + 1)
      most_steps now).
      record {
        behind_boot = omega (arith, stopped.from);
        within = stopped.to;
        settled = inr (inl (at-boundary (view now.place).boundary _ now.stop stopped.why).0);
      })
      (λ (ended : (now ≡ record { place = most_steps; stop = End })
      × (place < most_steps
      → cause view stops (seek_of view Ahead going place) most_steps ≡ None)).
      let last : now.place ≡ most_steps = ap (λ (one : Standing). one.place) ended.0 in
      record {
        behind_boot = omega (arith, last, may.behind_boot, may.within);
        within = omega (arith, last);
        settled = inr (inr last);
      })
      (stops-first view stops going place may.within).stands
  gone-stands Back going place may =
      let now : Standing = where_to view stops Back going place in
      ⊎_elim
      (λ (stopped : (now.place < place)
      × HasStopped (cause view stops (seek_of view Back going place)) 1 place now).
      record {
        behind_boot = stopped.1.from;
        within = omega (arith, stopped.0, may.within);
        settled = inr (inl (at-boundary (view now.place).boundary _ now.stop stopped.1.why).0);
      })
      (λ (begun : (now ≡ record { place = 1; stop = Begin })
      × (1 < place → cause view stops (seek_of view Back going place) 1 ≡ None)).
      let first : now.place ≡ 1 = ap (λ (one : Standing). one.place) begun.0 in
      record {
        behind_boot = omega (arith, first);
        within = omega (arith, first, may.behind_boot, may.within);
        settled = inl first;
      })
      (stops-last view stops going place).stands

-- where an interrupt may end a way
module _ (view : View) (from : ℕ) (stood : MayStandAt view from) (now : Standing)
    (stands : MayStandAt view now.place)
  where
    either-stands : (test : Bool) (one : Standing) → (test ≡ true → MayStandAt view one.place)
        → MayStandAt view (if test then one else now).place
    either-stands true one here = here refl
    either-stands false one here = stands

    ended-stands : (place : ℕ)
        → (lies_between from now.place place && ((view place).boundary || (place == from))) ≡ true
        → MayStandAt view place
    ended-stands place is =
        let parts =
        and_parts (lies_between from now.place place) ((view place).boundary || (place == from))
        is in
        let lies = between-is from now.place place parts.0 in
        record {
          behind_boot = omega (arith, lies.0, stood.behind_boot, stands.behind_boot);
          within = omega (arith, lies.1, stood.within, stands.within);
          settled = ⊎_elim
              (λ (here : (view place).boundary ≡ true). inr (inl here))
              (λ (same : (place == from) ≡ true).
              subst
              (λ (at : ℕ). (at ≡ 1) ⊎ ((view at).boundary ≡ true) ⊎ (at ≡ most_steps))
              (sym (eqb-true place from same)) stood.settled)
              (or_cases (view place).boundary (place == from) parts.1);
        }

    interrupted-stands : (interrupt : Option ℕ)
        → MayStandAt view (interrupted view from interrupt now).place
    interrupted-stands None = stands
    interrupted-stands (Some place) =
        either-stands
        (lies_between from now.place place && ((view place).boundary || (place == from)))
        (record { place = place; stop = Interrupted }) (ended-stands place)

module _ (view : View) (session : Session) (stands : MayStandAt view session.place) where
  stops-stand : (stops : Option Stops) → MayStandAt view (with_stops session stops).session.place
  stops-stand None = stands
  stops-stand (Some stops) = stands

  request-stands : (request : Request) → MayStandAt view (after_request session request).place
  request-stands (Until number) = stands
  request-stands request = stands

  answer-stands : (interrupt : Option ℕ) (command : Command)
      → MayStandAt view (answer_of view interrupt session command).session.place
  answer-stands interrupt (Change change) = stops-stand (with_change session.stops change)
  answer-stands interrupt (Go way going) =
      interrupted-stands view session.place stands
      (where_to view session.stops way going session.place)
      (gone-stands view session.stops way going session.place stands) interrupt
  answer-stands interrupt (Monitor request) = request-stands request
  answer-stands interrupt command = stands

  reply-stands : (interrupt : Option ℕ) (body : List ℕ)
      → MayStandAt view (reply view interrupt session body).session.place
  unfolding reply
  reply-stands interrupt body = answer-stands interrupt (command_of body)

-- what each reply keeps of a session a conversation keeps
module _ {Session Interrupt : Type 0} (Keeps : Session → Type 0)
    (replies : Option Interrupt → Session → List ℕ → Answer Session)
    (keeps : (interrupt : Option Interrupt) (session : Session) (body : List ℕ) → Keeps session
    → Keeps (replies interrupt session body).session)
  where
    answer-either : (test : Bool) (one other : Answer Session) → Keeps one.session
        → Keeps other.session → Keeps (if test then one else other).session
    answer-either true one other here there = here
    answer-either false one other here there = there

    talk-either : (test : Bool) (one other : Talk Session) → Keeps one.session
        → Keeps other.session → Keeps (if test then one else other).session
    talk-either true one other here there = here
    talk-either false one other here there = there

    answered-keeps : (interrupt : Option Interrupt) (talk : Talk Session) (message : Message)
        → Keeps talk.session → Keeps (talk_after_message (replies interrupt) talk message).session
    answered-keeps interrupt talk Silence kept = kept
    answered-keeps interrupt talk Again kept = kept
    answered-keeps interrupt talk Damage kept = kept
    answered-keeps interrupt talk (Whole body) kept =
        answer-either (nat_lt LONGEST_BODY (length body))
        (record { session = talk.session; packets = [] ∷ []; connection = Open })
        (replies interrupt talk.session body) kept (keeps interrupt talk.session body kept)

    byte-keeps : (interrupt : Option Interrupt) (talk : Talk Session) (byte : ℕ)
        → Keeps talk.session → Keeps (talk_with_byte (replies interrupt) talk byte).session
    unfolding talk_with_byte
    byte-keeps interrupt talk byte kept =
        talk-either talk.is_over talk
        (talk_after_message (replies interrupt) (with_mark talk byte)
        (message_of talk.link byte)) kept
        (answered-keeps interrupt (with_mark talk byte) (message_of talk.link byte) kept)

    inputs-keep : (inputs : List (Input Interrupt)) (talk : Talk Session) → Keeps talk.session
        → Keeps (talk_with_inputs replies talk inputs).session
    inputs-keep [] talk kept = kept
    inputs-keep (input ∷ inputs) talk kept =
        inputs-keep inputs (talk_with_byte (replies input.interrupt) talk input.byte)
        (byte-keeps input.interrupt talk input.byte kept)

pub session-stands : (view : View) (inputs : List (Input ℕ))
    → MayStandAt view (session_after view inputs).place
session-stands view inputs =
    inputs-keep (λ (session : Session). MayStandAt view session.place) (reply view)
    (λ interrupt session body stands. reply-stands view session stands interrupt body)
    inputs (first_talk first_session)
    (record {
      behind_boot = omega arith;
      within = omega arith;
      settled = inl refl;
    })
