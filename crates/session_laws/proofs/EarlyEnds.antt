-- An interrupt ends a way at a boundary on it, or where it began, or changes nothing.
use Rattle.std.{proofs.{Common.{◌≡◌, ◌≤◌, ◌<◌, ◌+◌, ◌-◌, ◌⊎◌, inl, inr, ⊎_elim, ℕ, Bool, true, List, Option, Some, None, refl, ap, sym, subst, arith, ◌∙◌, ◌++◌, zero, suc, [], ◌∷◌, length, take, drop, map, append_assoc}, lemmas.{Bool.{and_parts, cases_Bool, cond-false, cond-true, eqb-true, or_cases}, List.{append-nil, length-drop, map-append, take-append-drop, Folds.concat-append}}}, specs.{Prelude.{◌==◌, ◌&&◌, ◌||◌}, List.concat}}
use Rattle.debug_link.specs.{Conversation.Answer, Console.{MOST_TEXT, console, console_bodies, text_body}}
use Rattle.debug_session.{specs.{Command.command_of, Request.most_steps, declared.{command.{Command.{Command, TheVariants.Go}, Going.Going, Way.{Way, TheVariants.{Ahead, Back}}}, stop.Stop.{Stop, TheVariants.{Begin, End, Interrupted}}}, Cause.cause, Going.{Standing, lies_between, seek_of, where_to}, Place.{Run, view_of, play_to}, Session.{Session, answer_of, goes, lines_to, reply, stands_at, told_lines}}, proofs.Between.between-is}
use Rattle.session_laws.{specs.{EarlyEnd.{EndsEarly, LedTo, MayEndEarly, TellsBetween}, FirstStop.HasStopped, StepBack.MayStandAt}, proofs.{FirstStops.{stops-first, stops-last}, Sessions.gone-stands, ShownPlays.lines-more}}
use Rattle.device_trace.specs.Text.{lines_of}

-- The pieces of the lines that are told.

-- the bodies of a text are those of its pieces
record IsCutTo (text : List ℕ) (bodies : List (List ℕ)) : Type 0 where
  pieces : List (List ℕ)
  bodies_are : bodies ≡ map text_body pieces
  whole : text ≡ concat pieces

cut-bodies : (most : ℕ) (text : List ℕ) → length text ≤ most
    → IsCutTo text (console_bodies most text)
cut-bodies zero [] few = record { pieces = []; bodies_are = refl; whole = refl }
cut-bodies zero (byte ∷ text) few = absurd (omega (arith, few))
cut-bodies (suc most) [] few = record { pieces = []; bodies_are = refl; whole = refl }
cut-bodies (suc most) (byte ∷ text) few =
    let size = length-drop MOST_TEXT (byte ∷ text) in
    let piece : List ℕ = take MOST_TEXT (byte ∷ text) in
    let rest : List ℕ = drop MOST_TEXT (byte ∷ text) in
    let more = cut-bodies most rest (omega (arith, few, size)) in
    record {
      pieces = piece ∷ more.pieces;
      bodies_are = ap (λ (bodies : List (List ℕ)). text_body piece ∷ bodies) more.bodies_are;
      whole = sym (take-append-drop MOST_TEXT (byte ∷ text))
          ∙ ap (λ (end : List ℕ). piece ++ end) more.whole;
    }

told-pieces : (run : Run) (from steps to : ℕ) → to ≡ steps + from → to ≤ most_steps
    → TellsBetween run from to (told_lines (view_of run) from steps)
told-pieces run from zero to same within =
    let here : to ≡ from = omega (arith, same) in
    record {
      pieces = [];
      bodies_are = refl;
      lines = ap (λ (place : ℕ). lines_of run.start (play_to run place)) here
          ∙ sym (append-nil (lines_of run.start (play_to run from)));
    }
told-pieces run from (suc steps) to same within =
    let step : List ℕ = (view_of run from).next.lines in
    let before : List ℕ = lines_of run.start (play_to run from) in
    let later : List (List ℕ) = told_lines (view_of run) (suc from) steps in
    let cut : IsCutTo step (console step) = cut-bodies (length step) step (omega arith) in
    let more = told-pieces run (suc from) steps to (omega (arith, same)) within in
    record {
      pieces = cut.pieces ++ more.pieces;
      bodies_are = ap (λ (bodies : List (List ℕ)). bodies ++ later) cut.bodies_are
          ∙ ap (λ (bodies : List (List ℕ)). map text_body cut.pieces ++ bodies) more.bodies_are
          ∙ sym (map-append text_body cut.pieces more.pieces);
      lines = more.lines
          ∙ ap (λ (front : List ℕ). front ++ concat more.pieces)
          (lines-more run from (omega (arith, same, within)))
          ∙ append_assoc before step (concat more.pieces)
          ∙ ap (λ (text : List ℕ). before ++ (text ++ concat more.pieces)) cut.whole
          ∙ ap (λ (text : List ℕ). before ++ text)
          (sym (concat-append cut.pieces more.pieces));
    }

pub tells-between : (run : Run) (from to : ℕ) → from ≤ to → to ≤ most_steps
    → TellsBetween run from to (told_lines (view_of run) from (to - from))
tells-between run from to later within =
    told-pieces run from (to - from) to (omega (arith, later)) within

module _ (run : Run) (session : Session) (stands : MayStandAt (view_of run) session.place) where
  abbrev whole : Way → Going → Standing
  whole way going = where_to (view_of run) session.stops way going session.place

  leads-ahead : (going : Going) → session.place ≤ (whole Ahead going).place
  leads-ahead going =
      let causes : ℕ → Option Stop =
      cause (view_of run) session.stops (seek_of (view_of run) Ahead going session.place) in
      ⊎_elim
      (λ (stopped : HasStopped causes (session.place + 1) most_steps (whole Ahead going)).
      omega (arith, stopped.from))
      (λ (ended : (whole Ahead going ≡ record { place = most_steps; stop = End })
      × (session.place < most_steps → causes most_steps ≡ None)).
      let last : (whole Ahead going).place ≡ most_steps =
      ap (λ (one : Standing). one.place) ended.0 in
      omega (arith, last, stands.within))
      (stops-first (view_of run) session.stops going session.place stands.within).stands

  leads-back : (going : Going) → (whole Back going).place ≤ session.place
  leads-back going =
      let causes : ℕ → Option Stop =
      cause (view_of run) session.stops (seek_of (view_of run) Back going session.place) in
      ⊎_elim
      (λ (stopped : ((whole Back going).place < session.place)
      × HasStopped causes 1 session.place (whole Back going)).
      omega (arith, stopped.0))
      (λ (begun : (whole Back going ≡ record { place = 1; stop = Begin })
      × (1 < session.place → causes 1 ≡ None)).
      let first : (whole Back going).place ≡ 1 = ap (λ (one : Standing). one.place) begun.0 in
      omega (arith, first, stands.behind_boot))
      (stops-last (view_of run) session.stops going session.place).stands

  abbrev here : ℕ → Standing
  here place = record { place = place; stop = Interrupted }

  led-to : (way : Way) (going : Going) (place : ℕ)
      → lies_between session.place (whole way going).place place ≡ true
      → LedTo run session.place (whole way going).place place
      (lines_to (view_of run) way session.place (here place))
  led-to Ahead going place is =
      let lies = between-is session.place (whole Ahead going).place place is in
      let later = leads-ahead going in
      let stood = gone-stands (view_of run) session.stops Ahead going session.place stands in
      let from : session.place ≤ place = omega (arith, lies.0, later) in
      let to : place ≤ (whole Ahead going).place = omega (arith, lies.1, later) in
      inl (
        from,
        to,
        subst (TellsBetween run session.place place)
            (sym (append-nil (told_lines (view_of run) session.place (place - session.place))))
            (tells-between run session.place place from (omega (arith, to, stood.within))),
      )
  led-to Back going place is =
      let lies = between-is session.place (whole Back going).place place is in
      let earlier = leads-back going in
      inr (omega (arith, lies.0, earlier), omega (arith, lies.1, earlier), refl)

  abbrev ends : Way → Going → ℕ → Bool
  ends way going place =
      lies_between session.place (whole way going).place place
      && ((view_of run place).boundary || (place == session.place))

  -- the answer of one who has come so far
  abbrev arrived : Way → Standing → Answer Session
  arrived way now = stands_at session now (lines_to (view_of run) way session.place now)

  early : (way : Way) (going : Going) (place : ℕ) → ends way going place ≡ true
      → EndsEarly run session (goes (view_of run) None session way going)
      (goes (view_of run) (Some place) session way going)
  early way going place is =
      let parts =
      and_parts (lies_between session.place (whole way going).place place)
      ((view_of run place).boundary || (place == session.place)) is in
      record {
        place = place;
        told = lines_to (view_of run) way session.place (here place);
        led = led-to way going place parts.0;
        settled = ⊎_elim inl (λ same. inr (eqb-true place session.place same))
            (or_cases (view_of run place).boundary (place == session.place) parts.1);
        answer_is = ap (arrived way)
            (cond-true (ends way going place) (here place) (whole way going) is);
      }

  gone : (interrupt : Option ℕ) (way : Way) (going : Going)
      → (goes (view_of run) interrupt session way going
      ≡ goes (view_of run) None session way going)
      ⊎ EndsEarly run session (goes (view_of run) None session way going)
      (goes (view_of run) interrupt session way going)
  gone None way going = inl refl
  gone (Some place) way going =
      ⊎_elim
      (λ (is : ends way going place ≡ true). inr (early way going place is))
      (λ is.
      inl (ap (arrived way)
      (cond-false (ends way going place) (here place) (whole way going) is)))
      (cases_Bool (ends way going place))

  ended : (interrupt : Option ℕ) (command : Command)
      → (answer_of (view_of run) interrupt session command
      ≡ answer_of (view_of run) None session command)
      ⊎ EndsEarly run session (answer_of (view_of run) None session command)
      (answer_of (view_of run) interrupt session command)
  ended interrupt (Go way going) = gone interrupt way going
  ended interrupt command = inl refl

  pub may-end : (body : List ℕ) (interrupt : Option ℕ) → MayEndEarly run session body interrupt
  unfolding reply
  may-end body interrupt = ended interrupt (command_of body)
