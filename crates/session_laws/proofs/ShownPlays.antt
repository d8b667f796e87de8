-- What is shown is of the play.
use Rattle.std.{proofs.{Common.{◌≡◌, ◌<◌, ◌≤◌, ◌+◌, ◌-◌, ◌%◌, ◌∙◌, ◌++◌, ⊎_elim, ℕ, zero, suc, true, false, List, [], ◌∷◌, Option, Some, None, drop, length, min, slice_index, refl, ap, sym, subst, arith, append_assoc}, Math.Nat.{min_comm, sub-add-min_cancel}, lemmas.{Bool.{cases_Bool, cond-false, cond-true, ne_eqb}, List.append-nil}}, specs.{Prelude.{◌==◌, codes, if◌then◌else◌}, Fmt.decimal}}
use Rattle.hex.specs.Hex.{encode_lower}
use Rattle.word_arith.specs.declared.size.Size.TheVariants.{Byte}
use Rattle.device_types.specs.declared.event.Event.{Event}
use Rattle.device_trace.specs.{Logs.Logs, Trace.{Play, play_of}, Signals.number_read, Start.Start, Text.{end_line_after, lines_of, play_text}}
use Rattle.trace_files.specs.{TraceText.{trace_text, next_line, trace_lines}, LineText.trace_line, declared.trace_line.TraceLine.TraceLine}
use Rattle.debug_link.specs.{Console.console, Conversation.Answer, declared.connection.Connection.TheVariants.Open}
use Rattle.debug_session.{specs.{Request.most_steps, Monitor.{flags_text as flags_here, last_lines, texts_from}, Place.{Run, is_shown, logs_at, play_to, sight_at, view_of, step_sight}, Session.{Session, says}, Shown.{byte_and, bytes_or, bytes_shown, memory_body, registers_shown}, Sight.{Sight, StepSight, View}}, proofs.Views.{view-at, next-at}}
use Rattle.session_laws.specs.ShownPlay.{AreRead, ShowsPlay, flags_text}

-- The texts of a play are those of its steps, joined.

module _ (view : View) (text : StepSight → List ℕ) (whole : ℕ → List ℕ) (last : ℕ)
    (more : (at : ℕ) → at < last → whole (suc at) ≡ whole at ++ text (view at).next)
  where
    joined : (from steps to : ℕ) → to ≡ steps + from → to ≤ last
        → whole to ≡ whole from ++ texts_from view text from steps
    joined from zero to same within =
        let here : to ≡ from = omega (arith, same) in
        ap whole here ∙ sym (append-nil (whole from))
    joined from (suc steps) to same within =
        joined (suc from) steps to (omega (arith, same)) within
        ∙ ap (λ (front : List ℕ). front ++ texts_from view text (suc from) steps)
        (more from (omega (arith, same, within)))
        ∙ append_assoc (whole from) (text (view from).next)
        (texts_from view text (suc from) steps)

pub length-steps : (events_at : ℕ → List Event) (steps : ℕ)
    → length (play_of events_at steps) ≡ steps
length-steps events_at zero = refl
length-steps events_at (suc steps) = ap suc (length-steps events_at steps)

length-lines : (start : Start) (play : Play) → length (trace_lines start play) ≡ length play
unfolding trace_lines
length-lines start [] = refl
length-lines start (events ∷ play) = ap suc (length-lines start play)

module _ (run : Run) where
  pub lines-more : (at : ℕ) → at < most_steps
      → lines_of run.start (play_to run (suc at))
      ≡ lines_of run.start (play_to run at) ++ (view_of run at).next.lines
  unfolding lines_of step_sight
  lines-more at before =
      ap (λ (step : StepSight). lines_of run.start (play_to run at) ++ step.lines)
      (sym (next-at run at before))

  line-more : (at : ℕ) → at < most_steps
      → trace_text run.start (play_to run (suc at))
      ≡ trace_text run.start (play_to run at) ++ (view_of run at).next.trace_line
  unfolding trace_lines step_sight logs_at
  line-more at before =
      let line : TraceLine = next_line run.start (logs_at run at) (run.events_at at) in
      let earlier : List ℕ = trace_text run.start (play_to run at) in
      ap (λ (number : ℕ). earlier ++ trace_line number line)
      (length-lines run.start (play_to run at) ∙ length-steps run.events_at at)
      ∙ ap (λ (step : StepSight). earlier ++ step.trace_line) (sym (next-at run at before))

  pub lines-joined : (from steps to : ℕ) → to ≡ steps + from → to ≤ most_steps
      → lines_of run.start (play_to run to)
      ≡ lines_of run.start (play_to run from)
      ++ texts_from (view_of run) (λ step. step.lines) from steps
  lines-joined =
      joined (view_of run) (λ step. step.lines)
      (λ (at : ℕ). lines_of run.start (play_to run at)) most_steps lines-more

  pub trace-joined : (from steps to : ℕ) → to ≡ steps + from → to ≤ most_steps
      → trace_text run.start (play_to run to)
      ≡ trace_text run.start (play_to run from)
      ++ texts_from (view_of run) (λ step. step.trace_line) from steps
  trace-joined =
      joined (view_of run) (λ step. step.trace_line)
      (λ (at : ℕ). trace_text run.start (play_to run at)) most_steps line-more

drop-steps : (events_at : ℕ → List Event) (lines steps : ℕ)
    → drop lines (play_of events_at steps) ≡ play_of events_at (steps - lines)
drop-steps events_at zero steps =
    let all : steps ≡ steps - 0 = omega arith in
    ap (play_of events_at) all
drop-steps events_at (suc lines) zero =
    let none : 0 ≡ 0 - suc lines = omega arith in
    ap (play_of events_at) none
drop-steps events_at (suc lines) (suc steps) =
    let less : steps - lines ≡ suc steps - suc lines = omega arith in
    drop-steps events_at lines steps ∙ ap (play_of events_at) less

-- the bytes from an address on
each-index : (P : ℕ → Type 0) (count : ℕ) → P 0 → ((at : ℕ) → at < count → P (suc at))
    → (at : ℕ) → at < suc count → P at
each-index P count first later zero below = first
each-index P count first later (suc at) below = later at (omega (arith, below))

module _ (start : Start) (logs : Logs) (first : ℕ) where
  none-read : (most : ℕ) → (0 < most → is_shown first ≡ false) → AreRead start logs first most []
  none-read most none =
      let here : first ≡ first + 0 = omega arith in
      record {
        few = omega arith;
        each = λ at below. absurd (omega (arith, below));
        shown = λ at below. absurd (omega (arith, below));
        ends = λ less. subst (λ (one : ℕ). is_shown one ≡ false) here (none less);
      }

  one-more : (most byte : ℕ) (bytes : List ℕ) → is_shown first ≡ true
      → byte ≡ number_read start logs first Byte % 256
      → AreRead start logs (suc first) most bytes
      → AreRead start logs first (suc most) (byte ∷ bytes)
  one-more most byte bytes here is rest =
      let same : first ≡ first + 0 = omega arith in
      let next : (at : ℕ) → suc first + at ≡ first + suc at = λ at. omega arith in
      record {
        few = omega (arith, rest.few);
        each = each-index
            (λ at. slice_index (byte ∷ bytes) at ≡ number_read start logs (first + at) Byte % 256)
            (length bytes)
            (subst (λ (one : ℕ). byte ≡ number_read start logs one Byte % 256) same is)
            (λ at below.
            subst (λ (one : ℕ). slice_index bytes at ≡ number_read start logs one Byte % 256)
            (next at) (rest.each at below));
        shown = each-index (λ at. is_shown (first + at) ≡ true) (length bytes)
            (subst (λ (one : ℕ). is_shown one ≡ true) same here)
            (λ at below. subst (λ (one : ℕ). is_shown one ≡ true) (next at) (rest.shown at below));
        ends = λ less. subst (λ (one : ℕ). is_shown one ≡ false) (next (length bytes))
            (rest.ends (omega (arith, less)));
      }

module _ (run : Run) (place : ℕ) where
  abbrev byte : ℕ → ℕ
  byte at = number_read run.start (logs_at run place) at Byte % 256

  byte-shown : (at : ℕ) → is_shown at ≡ true → (sight_at run place).byte_at at ≡ Some (byte at)
  unfolding sight_at
  byte-shown at here = cond-true (is_shown at) (Some (byte at)) None here

  byte-hidden : (at : ℕ) → is_shown at ≡ false → (sight_at run place).byte_at at ≡ None
  unfolding sight_at
  byte-hidden at none = cond-false (is_shown at) (Some (byte at)) None none

  are-read : (first most : ℕ)
      → AreRead run.start (logs_at run place) first most
      (bytes_shown (sight_at run place) first most)
  are-read first zero =
      none-read run.start (logs_at run place) first 0 (λ some. absurd (omega (arith, some)))
  are-read first (suc most) =
      let rest : List ℕ = bytes_shown (sight_at run place) (suc first) most in
      ⊎_elim
      (λ here. subst
      (λ (one : Option ℕ).
      AreRead run.start (logs_at run place) first (suc most) (byte_and one rest))
      (sym (byte-shown first here))
      (one-more run.start (logs_at run place) first most (byte first) rest here refl
      (are-read (suc first) most)))
      (λ none. subst
      (λ (one : Option ℕ).
      AreRead run.start (logs_at run place) first (suc most) (byte_and one rest))
      (sym (byte-hidden first none))
      (none-read run.start (logs_at run place) first (suc most) (λ some. none)))
      (cases_Bool (is_shown first))

  some-asked : (size : ℕ) (text : List ℕ) → 0 < size → (if size == 0 then [] else text) ≡ text
  some-asked size text some =
      cond-false (size == 0) [] text (ne_eqb size 0 (λ none. absurd (omega (arith, some, none))))

  body-shown : (first size : ℕ) → 0 < size → is_shown first ≡ true
      → memory_body (sight_at run place) first size
      ≡ encode_lower (bytes_shown (sight_at run place) first (min size 2048))
  body-shown first size some here =
      let bytes : List ℕ = bytes_shown (sight_at run place) first (min size 2048) in
      some-asked size (bytes_or ((sight_at run place).byte_at first) bytes) some
      ∙ ap (λ (one : Option ℕ). bytes_or one bytes) (byte-shown first here)

  body-secret : (first size : ℕ) → 0 < size → is_shown first ≡ false
      → memory_body (sight_at run place) first size ≡ codes "E01"
  body-secret first size some none =
      let bytes : List ℕ = bytes_shown (sight_at run place) first (min size 2048) in
      some-asked size (bytes_or ((sight_at run place).byte_at first) bytes) some
      ∙ ap (λ (one : Option ℕ). bytes_or one bytes) (byte-hidden first none)

  flags-shown : flags_here (sight_at run place) ≡ flags_text run.start (logs_at run place)
  unfolding sight_at
  flags-shown = refl

  -- what `play` prints
  printed : place ≤ most_steps
      → texts_from (view_of run) (λ step. step.lines) 0 place ++ (sight_at run place).end_line
      ≡ play_text run.start (play_to run place)
  unfolding sight_at logs_at play_text lines_of
  printed within =
      ap (λ (text : List ℕ). text ++ end_line_after place (logs_at run place))
      (sym (lines-joined run 0 place place (omega arith) within))
      ∙ ap (λ (steps : ℕ).
      lines_of run.start (play_to run place) ++ end_line_after steps (logs_at run place))
      (sym (length-steps run.events_at place))

  last-of-file : place ≤ most_steps → (lines : ℕ)
      → trace_text run.start (play_to run place)
      ≡ trace_text run.start (drop lines (play_to run place))
      ++ last_lines (view_of run) place lines
  last-of-file within lines =
      let all : place ≡ min lines place + (place - lines) =
      omega (arith, sub-add-min_cancel place lines, min_comm lines place) in
      trace-joined run (place - lines) (min lines place) place all within
      ∙ ap (λ (play : Play).
      trace_text run.start play ++ last_lines (view_of run) place lines)
      (sym (drop-steps run.events_at lines place))

-- a text that is printed, and then OK
abbrev answered : Session → List ℕ → Answer Session
answered session text =
    record { session = session; packets = console text ++ codes "OK" ∷ []; connection = Open }

pub shows-play : (run : Run) (session : Session) → session.place ≤ most_steps
    → ShowsPlay run session (play_of run.events_at session.place)
unfolding logs_at sight_at
shows-play run session within =
    let place : ℕ = session.place in
    let here = view-at run place within in
    record {
      registers = λ interrupt. ap (λ (one : Sight). says session (registers_shown one)) here;
      memory = λ first size some is.
          record {
            bytes = bytes_shown (sight_at run place) first (min size 2048);
            given = λ interrupt.
                ap (λ (one : Sight). says session (memory_body one first size)) here
                ∙ ap (says session) (body-shown run place first size some is);
            read = are-read run place first (min size 2048);
          };
      secret = λ first size some none interrupt.
          ap (λ (one : Sight). says session (memory_body one first size)) here
          ∙ ap (says session) (body-secret run place first size some none);
      steps = λ interrupt. ap
          (λ (number : ℕ). answered session
          (decimal number ++ codes " steps of " ++ decimal most_steps ++ codes "\n"))
          (sym (length-steps run.events_at place));
      flags = λ interrupt.
          ap (λ (one : Sight). answered session (flags_here one)) here
          ∙ ap (answered session) (flags-shown run place);
      printed = λ interrupt. ap
          (λ (one : Sight). answered session
          (texts_from (view_of run) (λ step. step.lines) 0 place ++ one.end_line)) here
          ∙ ap (answered session) (printed run place within);
      trace = λ lines.
          record {
            text = last_lines (view_of run) place lines;
            printed = λ interrupt. refl;
            last = last-of-file run place within lines;
          };
    }
