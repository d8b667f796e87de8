-- What a debugger reads of a run is the same without the key.
use Rattle.std.{proofs.{Common.{◌≡◌, ℕ, zero, suc, ◌%◌, ◌<◌, ◌≤◌, Bool, true, false, List, [], ◌∷◌, ◌++◌, Some, None, inl, inr, refl, ap, sym, ◌∙◌, subst, min, arith, eq-or-lt_of_le, Result, Ok, Err, IfOk, ⊎_elim, Option, is_some}, Math.Nat.min-le_left, lemmas.{List.append_cancel_left, Bool.cases_Bool}}, specs.Prelude.{◌||◌, nat_lt, if◌then◌else◌}}
use Rattle.word_arith.specs.declared.size.Size.{Size, TheVariants.Byte}
use Rattle.device_types.specs.{declared.{access.Access.{Access, TheVariants.{Read, Fetch, Write}}, bus_record.BusRecord.BusRecord, event.Event.Event, rule.Rule.Rule}, Access.{without_number, places_of}, Map.{AUX_WORD, EXEC_WORD, key_region, lies_in, stack_region}}
use Rattle.part_definitions.specs.Memory.{ShownFlags}
use Rattle.printed_lines.specs.Line.{end_line}
use Rattle.device_trace.specs.{Blank.{blank, blank_record, touches_secrets}, Logs.{Logs, aux_of, exec_of}, Trace.{Play, logs_after, released_words, trace, play_of}, Progress.{Progress, Held, Runs, InCall, last_registers, next_pc_of, stands_at_boundary}, Signals.number_read, Start.Start, Step.next_record, Text.{lines_of, lines_of_step}}
use Rattle.key_isolation.proofs.{FlagBlank.exec-blank, Hiding.{flags_of-hide, hide, hide_progress, last_registers-hide, next_pc_of-hide, open_start}, Induction.{play_hides, releases_before}, Reading.value_read-hide, TextBlank.lines_of-hide}
use Rattle.trace_files.{specs.{LineText.trace_line, TraceText.{next_line, trace_lines}}, proofs.{Right.shape-told, SameText.lines_keyless}}
use Rattle.debug_session.specs.{Request.most_steps, Watched.{flag_access, hits_by, hits_of, seen_accesses, data_access, first_watched, hit_by, hit_where, hits_by_access, is_of_kind, some_hit}, declared.watch.{Hit.Hit, Watch.Watch, WatchKind.WatchKind}, Place.{Run, aux_at, differs, exec_at, is_shown, logs_at, next_sight, no_step, play_to, shown_at, sight_at, step_at, step_sight, view_of}, Sight.StepSight, Shown.{byte_and, bytes_shown}}
use Rattle.session_laws.proofs.SameSights.{IsSameTo, still}
use Rattle.play_script.specs.Grammar.{ScriptSoFar, with_entry}
use Rattle.text_scan.specs.{Reader.◌>>=◌, declared.fault_kind.FaultKind.FaultKind}
use Rattle.device_live.{specs.{Answer.{Answer, silent_answer}, Life.{Life, events_in, play_lived, with_happening, with_script}}, proofs.Lives.entry-lived}
use Rattle.debug_session.specs.declared.watch.WatchKind.TheVariants as watch

-- Watches look at no number that a write carries.

-- a watch looks at no number that a write carries
kind-number : (kind : WatchKind) (place : ℕ) (size : Size) (number other : ℕ)
    → is_of_kind kind (Write place size number) ≡ is_of_kind kind (Write place size other)
kind-number watch.Write place size number other = refl
kind-number watch.Read place size number other = refl
kind-number watch.Either place size number other = refl

hit-number : (one : Watch) (place : ℕ) (size : Size) (number other : ℕ)
    → hit_by (Write place size number) one ≡ hit_by (Write place size other) one
hit-number one place size number other =
    ap
    (λ (test : Bool).
    if test then hit_where one.kind (first_watched one (places_of place size)) else None)
    (kind-number one.kind place size number other)

write_hits-number : (watches : List Watch) (place : ℕ) (size : Size) (number other : ℕ)
    → hits_by_access (Write place size number) watches
    ≡ hits_by_access (Write place size other) watches
write_hits-number [] place size number other = refl
write_hits-number (one ∷ watches) place size number other =
    λ i. some_hit (hit-number one place size number other i)
    ++ write_hits-number watches place size number other i

hits-number : (access : Option Access) (watches : List Watch)
    → hits_by (data_access (without_number access)) watches ≡ hits_by (data_access access) watches
hits-number None watches = refl
hits-number (Some (Fetch place)) watches = refl
hits-number (Some (Read place size)) watches = refl
hits-number (Some (Write place size number)) watches =
    write_hits-number watches place size 0 number

made_hits-number : (refused : Bool) (access : Option Access) (watches : List Watch)
    → hits_by (if refused then None else data_access (without_number access)) watches
    ≡ hits_by (if refused then None else data_access access) watches
made_hits-number true access watches = refl
made_hits-number false access watches = hits-number access watches

-- the hits of an access in a step
pub same_hits : (rule rule' : Option Rule) (access access' : Option Access) (watches : List Watch)
    → rule ≡ rule' → without_number access ≡ without_number access'
    → hits_by (if is_some rule then None else data_access access) watches
    ≡ hits_by (if is_some rule' then None else data_access access') watches
same_hits rule rule' access access' watches same_rule same_shape =
    sym (made_hits-number (is_some rule) access watches)
    ∙ (ap
    (λ (one : Option Rule).
    hits_by (if is_some one then None else data_access (without_number access)) watches) same_rule
    ∙ (ap
    (λ (shape : Option Access).
    hits_by (if is_some rule' then None else data_access shape) watches) same_shape
    ∙ made_hits-number (is_some rule') access' watches))

-- the same run without its key, where the calls release these words
abbrev pub open_run : List ℕ → Run → Run
open_run words run =
    record { start = open_start words run.start; events_at = run.events_at }

-- these words begin with those that are released up to a place
abbrev pub Released : List ℕ → Run → ℕ → Type 0
Released words run place =
    (more : List ℕ) × (words ≡ released_words run.start (play_to run place) ++ more)

-- and so with those that are released up to an earlier one
pub released_before : (words : List ℕ) (run : Run) (most place : ℕ) → place ≤ most
    → Released words run most → Released words run place
unfolding logs_after
released_before words run zero place within released =
    let here : place ≡ 0 = omega (arith, within) in
    subst (λ (n : ℕ). Released words run n) (sym here) released
released_before words run (suc most) place within released =
    elim (eq-or-lt_of_le within) [
      | inl here ↦ subst (λ (n : ℕ). Released words run n) (sym here) released
      | inr below ↦
          released_before words run most place (omega (arith, below))
          (releases_before run.start words released.0 (logs_after run.start (play_to run most))
          (run.events_at most) released.1)
    ]

-- equal lists have equal heads and equal tails
head_or : {A : Type 0} → A → List A → A
head_or other [] = other
head_or other (first ∷ rest) = first

tail_of : {A : Type 0} → List A → List A
tail_of [] = []
tail_of (first ∷ rest) = rest

same_head : {A : Type 0} (x y : A) (xs ys : List A) → x ∷ xs ≡ y ∷ ys → x ≡ y
unfolding head_or
same_head x y xs ys same = ap (head_or x) same

boundary-hide : (progress : Progress)
    → stands_at_boundary (hide_progress progress) ≡ stands_at_boundary progress
boundary-hide Held = refl
boundary-hide (Runs cpu) = refl
boundary-hide (InCall regs words) = refl

-- a byte that is shown is no secret
shown_apart : (key stack below : Bool) → (if key || stack then false else below) ≡ true
    → ((key || false) || (stack || false)) ≡ false
shown_apart true stack below shown = absurd (cc)
shown_apart false true below shown = absurd (cc)
shown_apart false false below shown = refl

shown_off : (address : ℕ) → is_shown address ≡ true → touches_secrets (Read address Byte) ≡ false
shown_off address shown =
    shown_apart (lies_in key_region address) (lies_in stack_region address) _ shown

-- where a test decides
some-either : (test : Bool) (one other : ℕ) → (test ≡ true → one ≡ other)
    → (if test then Some one else None) ≡ (if test then Some other else None)
some-either true one other same = ap Some (same refl)
some-either false one other same = refl

step-either : (test : Bool) (one other : StepSight) → one ≡ other
    → (if test then one else no_step) ≡ (if test then other else no_step)
step-either true one other same = same
step-either false one other same = refl

module _ (words : List ℕ) (run : Run) (place : ℕ) (released : Released words run place) where
  -- the logs at a place, with the secrets hidden
  logs-hide : hide (logs_at run place) ≡ logs_at (open_run words run) place
  unfolding logs_at
  logs-hide = (play_hides run.start words (play_to run place) released.0 released.1).logs

  boundary-same : stands_at_boundary (logs_at run place).progress
      ≡ stands_at_boundary (logs_at (open_run words run) place).progress
  boundary-same =
      sym (boundary-hide (logs_at run place).progress)
      ∙ ap (λ (logs : Logs). stands_at_boundary logs.progress) logs-hide

  pub registers-same : last_registers (logs_at run place).progress
      ≡ last_registers (logs_at (open_run words run) place).progress
  registers-same =
      sym (last_registers-hide (logs_at run place).progress)
      ∙ ap (λ (logs : Logs). last_registers logs.progress) logs-hide

  pub next_pc-same : next_pc_of (logs_at run place).progress
      ≡ next_pc_of (logs_at (open_run words run) place).progress
  next_pc-same =
      sym (next_pc_of-hide (logs_at run place).progress)
      ∙ ap (λ (logs : Logs). next_pc_of logs.progress) logs-hide

  level-same : (logs_at run place).level ≡ (logs_at (open_run words run) place).level
  level-same = ap (λ (logs : Logs). logs.level) logs-hide

  pub exec-same : exec_at run place ≡ exec_at (open_run words run) place
  exec-same = sym (exec-blank (logs_at run place).records) ∙ ap exec_of logs-hide

  aux-same : aux_at run place ≡ aux_at (open_run words run) place
  aux-same =
      sym (ap (λ (flags : ShownFlags). flags.aux)
      (flags_of-hide run.start words (logs_at run place)))
      ∙ ap (aux_of (open_start words run.start)) logs-hide

  pub byte-same : (at : ℕ) → shown_at run place at ≡ shown_at (open_run words run) place at
  byte-same at =
      some-either (is_shown at) _ _
      (λ shown. ap (λ (number : ℕ). number % 256)
      (sym (value_read-hide run.start words (logs_at run place) (Read at Byte)
      (shown_off at shown))
      ∙ ap (λ (logs : Logs). number_read (open_start words run.start) logs at Byte) logs-hide))

  lines-same : trace_lines run.start (play_to run place)
      ≡ trace_lines (open_start words run.start) (play_to run place)
  lines-same =
      (lines_keyless run.start (play_to run place) released.0).lines
      ∙ ap (λ (free : List ℕ). trace_lines (open_start free run.start) (play_to run place))
      (sym released.1)

module _ (words : List ℕ) (run : Run) (place : ℕ) (released : Released words run (suc place)) where
  before : Released words run place
  before = released_before words run (suc place) place (omega arith) released

  -- the step there, and its lines
  record-hide : blank_record (step_at run place) ≡ step_at (open_run words run) place
  unfolding trace logs_at step_at
  record-hide =
      let play : Play = play_to run place in
      let opened : Start = open_start words run.start in
      let both : blank_record (next_record run.start (logs_after run.start play)
      (run.events_at place)) ∷ blank (trace run.start play)
      ≡ next_record opened (logs_after opened play) (run.events_at place) ∷ trace opened play =
      (play_hides run.start words (play_to run (suc place)) released.0 released.1).history in
      same_head _ _ _ _ both

  pub step_lines-same : lines_of_step run.start (run.events_at place) (play_to run place)
      ≡ lines_of_step (open_start words run.start) (run.events_at place) (play_to run place)
  unfolding lines_of
  step_lines-same =
      let play : Play = play_to run place in
      let events : List Event = run.events_at place in
      let opened : Start = open_start words run.start in
      let whole : lines_of run.start play ++ lines_of_step run.start events play
      ≡ lines_of opened play ++ lines_of_step opened events play =
      lines_of-hide run.start words (play_to run (suc place)) released.0 released.1 in
      append_cancel_left (lines_of opened play) (lines_of_step run.start events play)
      (lines_of_step opened events play)
      (ap (λ (text : List ℕ). text ++ lines_of_step run.start events play)
      (sym (lines_of-hide run.start words play before.0 before.1))
      ∙ whole)

  trace_line-same : next_line run.start (logs_at run place) (run.events_at place)
      ≡ next_line (open_start words run.start) (logs_at (open_run words run) place)
      (run.events_at place)
  unfolding trace_lines logs_at
  trace_line-same =
      let play : Play = play_to run place in
      let events : List Event = run.events_at place in
      let opened : Start = open_start words run.start in
      let both : next_line run.start (logs_after run.start play) events
      ∷ trace_lines run.start play
      ≡ next_line opened (logs_after opened play) events ∷ trace_lines opened play =
      lines-same words run (suc place) released in
      same_head _ _ _ _ both

  abbrev seen_of : Run → Bool → Bool → List Watch → List Hit
  seen_of one exec aux = hits_of (seen_accesses (step_at one place) exec aux)

  hits-same : (exec aux : Bool) (watches : List Watch)
      → seen_of run exec aux watches ≡ seen_of (open_run words run) exec aux watches
  hits-same exec aux watches =
      let left : BusRecord = step_at run place in
      let right : BusRecord = step_at (open_run words run) place in
      let rule = ap (λ (entry : BusRecord). entry.reset) record-hide in
      let cpu : without_number left.cpu ≡ without_number right.cpu =
      sym (shape-told None left.cpu)
      ∙ ap (λ (entry : BusRecord). without_number entry.cpu) record-hide in
      let dma : without_number left.dma ≡ without_number right.dma =
      sym (shape-told None left.dma)
      ∙ ap (λ (entry : BusRecord). without_number entry.dma) record-hide in
      λ i. same_hits left.reset right.reset left.cpu right.cpu watches rule cpu i
      ++ same_hits left.reset right.reset left.dma right.dma watches rule dma i
      ++ hits_by (flag_access EXEC_WORD exec) watches
      ++ hits_by (flag_access AUX_WORD aux) watches

  exec_changed : differs (exec_at run place) (exec_at run (suc place))
      ≡ differs (exec_at (open_run words run) place) (exec_at (open_run words run) (suc place))
  exec_changed =
      λ i. differs (exec-same words run place before i)
      (exec-same words run (suc place) released i)

  aux_changed : differs (aux_at run place) (aux_at run (suc place))
      ≡ differs (aux_at (open_run words run) place) (aux_at (open_run words run) (suc place))
  aux_changed =
      λ i. differs (aux-same words run place before i)
      (aux-same words run (suc place) released i)

  step_hits-same : (watches : List Watch)
      → seen_of run (differs (exec_at run place) (exec_at run (suc place)))
      (differs (aux_at run place) (aux_at run (suc place))) watches
      ≡ seen_of (open_run words run)
      (differs (exec_at (open_run words run) place) (exec_at (open_run words run) (suc place)))
      (differs (aux_at (open_run words run) place) (aux_at (open_run words run) (suc place)))
      watches
  step_hits-same watches =
      hits-same _ _ watches
      ∙ (λ i. seen_of (open_run words run) (exec_changed i) (aux_changed i) watches)

  step-same : step_sight run place ≡ step_sight (open_run words run) place
  unfolding step_sight
  step-same =
      λ i. record {
        kind = ap (λ (entry : BusRecord). entry.kind) record-hide i;
        refused = ap (λ (entry : BusRecord). entry.reset) record-hide i;
        hits = λ watches. step_hits-same watches i;
        lines = step_lines-same i;
        trace_line = trace_line place (trace_line-same i);
      }

-- so of so many steps a view with and without the key is the same
module _ (words : List ℕ) (run : Run) (last : ℕ) (released : Released words run last) where
  still-same : (place : ℕ) → place ≤ last
      → still (sight_at run place) ≡ still (sight_at (open_run words run) place)
  unfolding sight_at
  still-same place within =
      let here = released_before words run last place within released in
      λ i. record {
        boundary = boundary-same words run place here i;
        registers = registers-same words run place here i;
        level = level-same words run place here i;
        exec = exec-same words run place here i;
        aux = aux-same words run place here i;
        byte_at = λ at. byte-same words run place here at i;
        end_line = end_line place (next_pc-same words run place here i)
            (exec-same words run place here i);
        next = no_step;
      }

  next-same : (place : ℕ) → place < last
      → next_sight run place ≡ next_sight (open_run words run) place
  next-same place before =
      step-either (nat_lt place most_steps) (step_sight run place)
      (step_sight (open_run words run) place)
      (step-same words run place (released_before words run last (suc place) before released))

  sight-same : (place : ℕ) → place < last
      → sight_at run place ≡ sight_at (open_run words run) place
  unfolding sight_at
  sight-same place before =
      λ i. record (still-same place (omega (arith, before)) i) { next = next-same place before i }

  pub view-same : IsSameTo last (view_of run) (view_of (open_run words run))
  view-same =
      record {
        steps = λ place before. sight-same (min place most_steps)
            (omega (arith, min-le_left place most_steps, before));
        places = λ place within. still-same (min place most_steps)
            (omega (arith, min-le_left place most_steps, within));
      }

-- Two runs in whose steps a device that lives tells the same.

-- at a place
pub record SamePlace (left right : Run) (place : ℕ) : Type 0 where
  pub registers : last_registers (logs_at left place).progress
      ≡ last_registers (logs_at right place).progress
  pub next_pc : next_pc_of (logs_at left place).progress
      ≡ next_pc_of (logs_at right place).progress
  pub exec : exec_at left place ≡ exec_at right place
  pub bytes : (at : ℕ) → shown_at left place at ≡ shown_at right place at

-- up to a place
pub record SameRuns (left right : Run) (most : ℕ) : Type 0 where
  pub places : (place : ℕ) → place ≤ most → SamePlace left right place
  pub lines : (place : ℕ) → place < most
      → lines_of_step left.start (left.events_at place) (play_to left place)
      ≡ lines_of_step right.start (right.events_at place) (play_to right place)

pub bytes-same : {left right : Run} {place : ℕ} → SamePlace left right place
    → (at count : ℕ)
    → bytes_shown (sight_at left place) at count ≡ bytes_shown (sight_at right place) at count
unfolding sight_at
bytes-same same at zero = refl
bytes-same same at (suc count) =
    λ i. byte_and (same.bytes at i) (bytes-same same (suc at) count i)

-- a run, and the same without its key
pub same_without_key : (words : List ℕ) (run : Run) (most : ℕ) → Released words run most
    → SameRuns run (open_run words run) most
same_without_key words run most released =
    record {
      places = λ place within.
          let here = released_before words run most place within released in
          record {
            registers = registers-same words run place here;
            next_pc = next_pc-same words run place here;
            exec = exec-same words run place here;
            bytes = byte-same words run place here;
          };
      lines = λ place below.
          step_lines-same words run place
          (released_before words run most (suc place) (omega (arith, below)) released);
    }

-- A later life: the steps that were made stay as they were.

pub record GoesOn (life later : Life) : Type 0 where
  pub steps : life.steps ≤ later.steps
  pub play : play_of (events_in later) life.steps ≡ play_lived life

abbrev pub LeadsOn : Life → Result Answer FaultKind → Type 0
LeadsOn life result = IfOk result (λ answer. GoesOn life answer.life)

pub goes-nowhere : (life : Life) → GoesOn life life
goes-nowhere life = record { steps = omega arith; play = refl }

-- what happens in a step to come
entry-goes : (life : Life) (step : ℕ) (events : List Event)
    → nat_lt step life.steps ≡ false
    → (read : Result ScriptSoFar FaultKind)
    → with_entry life.script (step, events) ≡ read
    → LeadsOn life (with_script life read >>= λ later. Ok (silent_answer later))
entry-goes life step events late (Ok script) fits =
    record { steps = omega arith; play = entry-lived life script step events late fits }
entry-goes life step events late (Err kind) fits = tt

pub happening-goes : (life : Life) (step : ℕ) (events : List Event)
    → LeadsOn life (with_happening life step events >>= λ later. Ok (silent_answer later))
happening-goes life step events =
    ⊎_elim
    (λ late. rw late tt)
    (λ on. rw on (entry-goes life step events on (with_entry life.script (step, events)) refl))
    (cases_Bool (nat_lt step life.steps))
