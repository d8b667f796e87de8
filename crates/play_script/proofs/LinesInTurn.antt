-- The lines of a script from the front: each line's events, and then those of the lines behind it.
use Rattle.std.{proofs.Common.{◌≡◌, ◌∙◌, ap, ℕ, List, [], ◌∷◌, ◌++◌, Bool, true, false, cond, Result, Ok, Err, refl, sym, append_assoc, append-nil}, specs.Prelude.{nat_lt, if◌then◌else◌}}
use Rattle.text_scan.specs.{declared.{fault_at.FaultAt.FaultAt, fault_kind.FaultKind.{FaultKind, TheVariants.Order}}, LineFold.{text_lines, lines_fold, text_fold, utf8_of}, Reader.{◌>>=◌, in_line}, Word.{is_passed_over, words_of}}
use Rattle.play_script.specs.{Grammar.{ScriptSoFar, no_lines, script_line_of, timed_events, with_entry, with_line, script_of}, IsScript.{Entry, entry_in}, Script.TimedEvent}

-- a line whose step is less than the greatest one is out of order
abbrev pub in_order : ℕ → Entry → Result Entry FaultKind
in_order greatest line = if nat_lt line.0 greatest then Err Order else Ok line

-- what a line with its number says, where `greatest` is the greatest step of the lines before
abbrev pub entry_of : ℕ → (ℕ × List ℕ) → Result Entry FaultAt
entry_of greatest line = in_line line.0 (script_line_of (words_of line.1) >>= in_order greatest)

-- the events of lines, or the first fault
unfoldable pub script_lines : ℕ → List (ℕ × List ℕ) → Result (List TimedEvent) FaultAt
script_lines greatest [] = Ok []
script_lines greatest (line ∷ lines) =
    if is_passed_over line.1 then script_lines greatest lines
    else (do
      entry ← entry_of greatest line
      later ← script_lines entry.0 lines
      Ok (timed_events entry ++ later))

-- the events of what was read
abbrev events_read : Result ScriptSoFar FaultAt → Result (List TimedEvent) FaultAt
events_read answer = answer >>= (λ lines. Ok lines.events)

-- events behind others
abbrev behind : List TimedEvent → Result (List TimedEvent) FaultAt
    → Result (List TimedEvent) FaultAt
behind events answer = answer >>= (λ later. Ok (events ++ later))

behind-entry : (events more : List TimedEvent) (answer : Result (List TimedEvent) FaultAt)
    → behind (events ++ more) answer ≡ behind events (behind more answer)
behind-entry events more (Ok later) =
    ap (λ (all : List TimedEvent). Ok all) (append_assoc events more later)
behind-entry events more (Err fault) = refl

-- both readings agree behind a line, where they do on the lines that are left
abbrev Agrees : List (ℕ × List ℕ) → Type 0
Agrees lines = (so_far : ScriptSoFar)
    → events_read (lines_fold with_line so_far lines)
    ≡ behind so_far.events (script_lines so_far.greatest lines)

agrees-order : (so_far : ScriptSoFar) (number : ℕ) (lines : List (ℕ × List ℕ)) (entry : Entry)
    (below : Bool)
    → Agrees lines
    → events_read (in_line number (cond below (Err Order) (Ok (record {
      events = so_far.events ++ timed_events entry;
      greatest = entry.0;
    }))) >>= (λ next. lines_fold with_line next lines))
    ≡ behind so_far.events (in_line number (cond below (Err Order) (Ok entry))
    >>= (λ entry. behind (timed_events entry) (script_lines entry.0 lines)))
agrees-order so_far number lines entry true rest = refl
agrees-order so_far number lines entry false rest =
    rest (record { events = so_far.events ++ timed_events entry; greatest = entry.0 })
    ∙ behind-entry so_far.events (timed_events entry) (script_lines entry.0 lines)

agrees-entry : (so_far : ScriptSoFar) (number : ℕ) (lines : List (ℕ × List ℕ))
    (answer : Result Entry FaultKind)
    → Agrees lines
    → events_read (in_line number (answer >>= with_entry so_far)
    >>= (λ next. lines_fold with_line next lines))
    ≡ behind so_far.events (in_line number (answer >>= in_order so_far.greatest)
    >>= (λ entry. behind (timed_events entry) (script_lines entry.0 lines)))
agrees-entry so_far number lines (Err kind) rest = refl
agrees-entry so_far number lines (Ok entry) rest =
    agrees-order so_far number lines entry (nat_lt entry.0 so_far.greatest) rest

agrees-line : (so_far : ScriptSoFar) (line : ℕ × List ℕ) (lines : List (ℕ × List ℕ))
    (skips : Bool)
    → Agrees lines
    → events_read (cond skips (lines_fold with_line so_far lines)
    (in_line line.0 (with_line so_far line.1) >>= (λ next. lines_fold with_line next lines)))
    ≡ behind so_far.events (cond skips (script_lines so_far.greatest lines)
    (entry_of so_far.greatest line
    >>= (λ entry. behind (timed_events entry) (script_lines entry.0 lines))))
unfolding with_line
agrees-line so_far line lines true rest = rest so_far
agrees-line so_far line lines false rest =
    agrees-entry so_far line.0 lines (entry_in line) rest

agrees : (lines : List (ℕ × List ℕ)) → Agrees lines
unfolding lines_fold script_lines
agrees [] so_far = ap (λ (all : List TimedEvent). Ok all) (sym (append-nil so_far.events))
agrees (line ∷ lines) so_far =
    agrees-line so_far line lines (is_passed_over line.1) (agrees lines)

behind-none : (answer : Result (List TimedEvent) FaultAt) → behind [] answer ≡ answer
behind-none (Ok later) = refl
behind-none (Err fault) = refl

in_turn : (lines : List (ℕ × List ℕ)) (sound : Result Unit FaultAt)
    → events_read (sound >>= (λ _. lines_fold with_line no_lines lines))
    ≡ (sound >>= (λ _. script_lines 0 lines))
in_turn lines (Ok _) = agrees lines no_lines ∙ behind-none (script_lines 0 lines)
in_turn lines (Err fault) = refl

-- a script is read from the front, where the whole text is UTF-8
pub script_of-in_turn : (text : List ℕ)
    → script_of text ≡ (utf8_of text >>= (λ _. script_lines 0 (text_lines text)))
unfolding script_of text_fold
script_of-in_turn text = in_turn (text_lines text) (utf8_of text)
