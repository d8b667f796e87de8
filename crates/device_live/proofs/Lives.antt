-- A life behind lines.
use Rattle.std.{proofs.{Common.{◌≡◌, ◌≤◌, ◌+◌, ◌-◌, ◌∙◌, ◌++◌, ℕ, false, List, [], ◌∷◌, Option, Some, None, Result, Ok, Err, IfOk, length, refl, ap, sym, arith, ⊎_elim}, lemmas.{Bool.{cases_Bool, Decides.nat_tests}, List.append-nil}}, specs.Prelude.{nat_lt, suc}}
use Rattle.device_types.specs.{Address.Bytes, declared.event.Event.Event}
use Rattle.play_script.specs.{Grammar.{ScriptSoFar, timed_events, with_entry}, Script.{TimedEvent, events_of}}
use Rattle.text_scan.specs.{Reader.◌>>=◌, Word.{is_passed_over, words_of}, declared.fault_kind.FaultKind.FaultKind}
use Rattle.device_trace.specs.{Trace.{Play, play_of}, Start.Start, Text.lines_of}
use Rattle.source_server.specs.HeldLine.{short_line}
use Rattle.device_live.{specs.{Answer.{Answer, answer_of, or_refusal, silent_answer, tells}, Conversation.{answer_to, talk_of}, Laws.{IsCutAnywhere, TellsItsPlay}, Life.{Life, events_in, lines_since, play_lived, with_script, with_steps}, LiveLine.{LiveLine, Happens, Run, Registers, Memory, live_line_of}}, proofs.ToldPlay.{events-behind, lines-on, same-play, since-between}}

-- an answer tells what lies between the play of a life and that of the life behind it
abbrev Tells : Start → Life → Answer → Type 0
Tells start life answer =
    lines_of start (play_lived life) ++ answer.told ≡ lines_of start (play_lived answer.life)

tells-nothing : (start : Start) (life : Life) → lines_of start (play_lived life) ++ []
    ≡ lines_of start (play_lived life)
tells-nothing start life = append-nil (lines_of start (play_lived life))

-- the script behind an entry that fits
entry-events : (so_far script : ScriptSoFar) (step : ℕ) (events : List Event)
    → with_entry so_far (step, events) ≡ Ok script
    → script.events ≡ so_far.events ++ timed_events (step, events)
entry-events so_far script step events fits = grind (arith, nat_tests, fits)

-- it speaks of no step that was made
pub entry-lived : (life : Life) (script : ScriptSoFar) (step : ℕ) (events : List Event)
    → nat_lt step life.steps ≡ false
    → with_entry life.script (step, events) ≡ Ok script
    → play_lived (record life { script = script }) ≡ play_lived life
entry-lived life script step events late fits =
    let after : life.steps ≤ step = grind (arith, nat_tests, late) in
    same-play (events_in (record life { script = script })) (events_in life) life.steps
    (λ at below. ap (λ (entries : List TimedEvent). events_of entries at)
    (entry-events life.script script step events fits)
    ∙ events-behind life.script.events step at events (omega (arith, below, after)))

entry-tells : (start : Start) (life : Life) (step : ℕ) (events : List Event)
    → nat_lt step life.steps ≡ false
    → (read : Result ScriptSoFar FaultKind)
    → with_entry life.script (step, events) ≡ read
    → IfOk (with_script life read >>= λ later. Ok (silent_answer later)) (Tells start life)
entry-tells start life step events late (Ok script) fits =
    tells-nothing start life
    ∙ ap (λ (play : Play). lines_of start play)
    (sym (entry-lived life script step events late fits))
entry-tells start life step events late (Err kind) fits = tt

happens-tells : (start : Start) (life : Life) (step : ℕ) (events : List Event)
    → IfOk (answer_of start life (Happens step events)) (Tells start life)
happens-tells start life step events =
    ⊎_elim
    (λ late. rw late tt)
    (λ on. rw on
    (entry-tells start life step events on (with_entry life.script (step, events)) refl))
    (cases_Bool (nat_lt step life.steps))

run-tells : (start : Start) (life : Life) (steps : ℕ)
    → IfOk (answer_of start life (Run steps)) (Tells start life)
run-tells start life steps =
    ⊎_elim
    (λ late. rw late tt)
    (λ on. rw on
    (let after : life.steps ≤ steps = grind (arith, nat_tests, on) in
    let same : (steps - life.steps) + life.steps ≡ steps = omega (arith, after) in
    lines-on start (events_in life) life.steps (steps - life.steps)
    ∙ ap (λ (at : ℕ). lines_of start (play_of (events_in life) at)) same))
    (cases_Bool (nat_lt steps life.steps))

answer-tells : (start : Start) (life : Life) (said : LiveLine)
    → IfOk (answer_of start life said) (Tells start life)
answer-tells start life (Happens step events) = happens-tells start life step events
answer-tells start life (Run steps) = run-tells start life steps
answer-tells start life Registers = tells-nothing start life
answer-tells start life (Memory place count) = tells-nothing start life

read-tells : (start : Start) (life : Life) (read : Result LiveLine FaultKind)
    → IfOk (read >>= answer_of start life) (Tells start life)
read-tells start life (Ok said) = answer-tells start life said
read-tells start life (Err kind) = tt

refusal-tells : (start : Start) (life : Life) (number : ℕ) (result : Result Answer FaultKind)
    → IfOk result (Tells start life)
    → Tells start life (or_refusal life number result)
refusal-tells start life number (Ok answer) told = told
refusal-tells start life number (Err kind) told = tells-nothing start life

line-tells : (start : Start) (life : Life) (line : Option (List ℕ))
    → IfOk (answer_to start life line) (Tells start life)
line-tells start life None = tt
line-tells start life (Some line) =
    ⊎_elim
    (λ passed. rw passed (tells-nothing start life))
    (λ words. rw words (read-tells start life (live_line_of (words_of line))))
    (cases_Bool (is_passed_over line))

pub tells_play : TellsItsPlay
unfolding lines_of
tells_play start [] = refl
tells_play start (line ∷ earlier) =
    let talk = talk_of start earlier in
    let number : ℕ = suc (length earlier) in
    let said = answer_to start talk.life (short_line line) in
    ap (λ (told : Bytes). told ++ (or_refusal talk.life number said).told)
    (tells_play start earlier)
    ∙ refusal-tells start talk.life number said (line-tells start talk.life (short_line line))

-- to make as many steps as this or more
steps-made : (life later : Life) (steps : ℕ) → with_steps life steps ≡ Ok later
    → (life.steps ≤ steps) × (later ≡ record life { steps = steps })
steps-made life later steps made = grind (arith, nat_tests, made)

cut-at : (start : Start) (life : Life) (steps more : ℕ) → life.steps ≤ steps → steps ≤ more
    → (with_steps life more ≡ Ok (record life { steps = more }))
    × (lines_since start (events_in life) life.steps (more - life.steps)
    ≡ lines_since start (events_in life) life.steps (steps - life.steps)
    ++ lines_since start (events_in life) steps (more - steps))
cut-at start life steps more before after =
    let on : nat_lt more life.steps ≡ false = grind (arith, nat_tests, before, after) in
    (rw on refl, since-between start (events_in life) life.steps steps more before after)

pub cut_anywhere : IsCutAnywhere
cut_anywhere start life between later steps more first second =
    let one = steps-made life between steps first in
    let two = steps-made between later more second in
    let after : steps ≤ more = omega (arith, two.0, ap (λ (at : Life). at.steps) one.1) in
    rw (two.1, one.1) (cut-at start life steps more one.0 after)
