-- What is answered in two views that are the same up to behind where the session stands then.
use Rattle.std.{proofs.Common.{◌≡◌, ◌≤◌, ◌-◌, ◌++◌, ℕ, List, [], ◌∷◌, Option, Some, min, refl, ap, sym, ◌∙◌, arith}, specs.Prelude.codes}
use Rattle.device_types.specs.declared.rule.Rule.{Rule}
use Rattle.printed_lines.specs.Line.{reset_line}
use Rattle.debug_link.specs.{Console.console, declared.connection.Connection.TheVariants.Open}
use Rattle.debug_session.specs.{declared.{stop.Stop.{Stop, TheVariants.Refused}, command.{Command.{Command, TheVariants.{Registers, Memory, Go, Monitor}}, Going.Going, Way.{Way, TheVariants.{Ahead, Back}}}, request.Request.{Request, TheVariants.{Flags, Play as PlayText, Trace}}}, Command.command_of, Request.most_steps, Cause.{ahead, refusal}, Going.{Standing, interrupted, where_to}, Monitor.{flags_text, request_text}, Session.{Session, after_request, answer_of, goes, lines_to, reply, says, stands_at, refusal_warning}, Shown.{memory_body, registers_shown}, Sight.View}
use Rattle.session_laws.{specs.DebuggerSecrecy.next_boundary, proofs.{Boundaries.boundary-behind, SameSights.{IsSameTo, memory-still, refused-same, texts-same, told-same}, SameWay.{gone-same, gone-tells}}}

module _ (last : ℕ) (left right : View) (same : IsSameTo last left right) where
  warning-same : (place : ℕ) (stop : Stop) → next_boundary left place ≤ last
      → ((rule : Rule) → stop ≡ Refused rule
      → refusal (ahead left place (most_steps - place)) ≡ Some rule)
      → refusal_warning left place stop ≡ refusal_warning right place stop
  warning-same place (Refused rule) within is_told =
      ap (λ (at : ℕ). console (codes "stops before " ++ reset_line at rule))
      (refused-same last left right same place (most_steps - place) rule within
      (is_told rule refl))
  warning-same place stop within is_told = refl

  module _ (session : Session) (here : session.place ≤ last) where
    abbrev gone : View → Way → Going → Option ℕ → Standing
    gone view way going interrupt =
        interrupted view session.place interrupt
        (where_to view session.stops way going session.place)

    lines-same : (way : Way) (going : Going) (interrupt : Option ℕ)
        → next_boundary left (gone left way going interrupt).place ≤ last
        → lines_to left way session.place (gone left way going interrupt)
        ≡ lines_to right way session.place (gone left way going interrupt)
    lines-same Back going interrupt within = refl
    lines-same Ahead going interrupt within =
        let now : Standing = gone left Ahead going interrupt in
        let there : now.place ≤ last = omega (arith, boundary-behind left now.place, within) in
        λ i. told-same last left right same session.place (now.place - session.place)
        (omega (arith, here, there)) i
        ++ warning-same now.place now.stop within
        (gone-tells last left right same session.stops going session.place here interrupt) i

    goes-same : (way : Way) (going : Going) (interrupt : Option ℕ)
        → next_boundary left (gone left way going interrupt).place ≤ last
        → goes left interrupt session way going ≡ goes right interrupt session way going
    goes-same way going interrupt within =
        let now : Standing = gone left way going interrupt in
        ap (λ (lines : List (List ℕ)). stands_at session now lines)
        (lines-same way going interrupt within)
        ∙ ap (λ (one : Standing). stands_at session one (lines_to right way session.place one))
        (gone-same last left right same session.stops going session.place here way interrupt
        within)

    request-same : (request : Request)
        → request_text left session.place request ≡ request_text right session.place request
    request-same Flags =
        λ i. flags_text (same.places session.place here i)
    request-same PlayText =
        λ i. texts-same last left right same (λ step. step.lines) 0 session.place
        (omega (arith, here)) i
        ++ (same.places session.place here i).end_line
    request-same (Trace lines) =
        texts-same last left right same (λ step. step.trace_line) (session.place - lines)
        (min lines session.place) (omega (arith, here))
    request-same request = refl

    memory-same : (first size : ℕ)
        → memory_body (left session.place) first size ≡ memory_body (right session.place) first size
    memory-same first size =
        memory-still (left session.place) first size
        ∙ ((λ i. memory_body (same.places session.place here i) first size)
        ∙ sym (memory-still (right session.place) first size))

    answer-same : (interrupt : Option ℕ) (command : Command)
        → next_boundary left (answer_of left interrupt session command).session.place ≤ last
        → answer_of left interrupt session command ≡ answer_of right interrupt session command
    answer-same interrupt Registers within =
        λ i. says session (registers_shown (same.places session.place here i))
    answer-same interrupt (Memory first size) within =
        ap (says session) (memory-same first size)
    answer-same interrupt (Go way going) within = goes-same way going interrupt within
    answer-same interrupt (Monitor request) within =
        ap
        (λ (text : List ℕ).
        record {
          session = after_request session request;
          packets = console text ++ codes "OK" ∷ [];
          connection = Open;
        })
        (request-same request)
    answer-same interrupt command within = refl

    pub reply-same : (interrupt : Option ℕ) (body : List ℕ)
        → next_boundary left (reply left interrupt session body).session.place ≤ last
        → reply left interrupt session body ≡ reply right interrupt session body
    unfolding reply
    reply-same interrupt body within = answer-same interrupt (command_of body) within
