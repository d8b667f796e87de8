-- What trace and waveform show without the key, and with two keys whose released words agree.
use Rattle.std.proofs.{Common.{◌≡◌, ◌++◌, refl, ap, sym, ◌∙◌, ℕ, List, [], ◌∷◌, Option, arith, Bool, Some, None}, lemmas.Bool.Decides.nat_tests}
use Rattle.device_trace.specs.{Trace.{Play, released_words, next_logs, logs_after}, Start.Start, Blank.{blank_access, blank_value, blank_record, touches_secrets}, Logs.{Logs, exec_of, logged_bounds, with_events}, Peripherals.with_all_events, Step.{next_record, asks_reset, next_signals}, Signals.{word_fetched, signals_at, signals_of}}
use Rattle.key_isolation.{specs.Keyless.{ReleaseAlike, SameButKey}, proofs.{TwoKeys.one_keyless, Hiding.{open_start, hide, flags_of-hide, last_registers-hide, logged_bounds-hide}, Induction.{play_hides, releases_before}, LogsBlank.{step_hides, byte_sent_by-blank}, Bytes.same_if, FlagBlank.{exec-blank, blank_access-twice, blank_value-twice}, Reading.value_read-hide, SignalShape.signals_of-hide}}
use Rattle.trace_files.specs.{KeylessLines.{HasKeylessLines, IsKeyless}, TraceText.{trace_lines, next_line, line_with, word_shown}, WaveSamples.{wave_samples, byte_received_by, next_ports, play_state, ports_with, state_of}}
use Rattle.device_types.specs.{declared.{access.Access.{Access, TheVariants.{Fetch, Read, Write}}, bus_record.BusRecord.BusRecord, event.Event.Event, rule.Rule.Rule}, ExecFlag.last_pc, Access.without_number}
use Rattle.part_definitions.specs.{Pins.pins_word, Timer.timer_flag}
use Rattle.trace_facts.proofs.{Sound.IsSound, SoundPlay.logs_after-sound}

-- The lines of a play without its key.

-- the word that a line shows of a proposed access
abbrev word_at : Start → Logs → Option Access → ℕ
word_at start logs cpu = blank_value cpu (word_fetched start logs cpu)

-- the number of a write does not matter
word_at-number : (start : Start) (logs : Logs) (cpu : Option Access)
    → word_at start logs (without_number cpu) ≡ word_at start logs cpu
word_at-number start logs cpu = grind arith

word_at-hide : (start : Start) (free : List ℕ) (logs : Logs) (cpu : Option Access)
    → word_at (open_start free start) (hide logs) cpu ≡ word_at start logs cpu
word_at-hide start free logs None = refl
word_at-hide start free logs (Some (Fetch place)) =
    same_if (touches_secrets (Fetch place)) 0 0
    (word_fetched (open_start free start) (hide logs) (Some (Fetch place)))
    (word_fetched start logs (Some (Fetch place)))
    (λ secret. refl)
    (λ off. value_read-hide start free logs (Fetch place) off)
word_at-hide start free logs (Some (Read place size)) = refl
word_at-hide start free logs (Some (Write place size number)) = refl

-- of accesses that differ in the number of a write alone
word_at-same : (start : Start) (free : List ℕ) (logs : Logs) (cpu' cpu : Option Access)
    → without_number cpu' ≡ without_number cpu
    → word_at (open_start free start) (hide logs) cpu' ≡ word_at start logs cpu
word_at-same start free logs cpu' cpu same =
    let opened : Start = open_start free start in
    sym (word_at-number opened (hide logs) cpu')
    ∙ ap (word_at opened (hide logs)) same
    ∙ word_at-number opened (hide logs) cpu
    ∙ word_at-hide start free logs cpu

-- of the signals of the next step
next_word-hide : (start : Start) (free : List ℕ) (logs : Logs) (events : List Event)
    → word_shown (next_signals (open_start free start) (hide logs) events)
    ≡ word_shown (next_signals start logs events)
unfolding with_events signals_at
next_word-hide start free logs events =
    let after : Logs = with_events logs events in
    let reset : Bool = asks_reset events in
    word_at-same start free after (signals_of (open_start free start) (hide after) reset).cpu
    (signals_of start after reset).cpu (signals_of-hide start free after reset).shape

next_reset : (start : Start) (logs : Logs) (events : List Event)
    → (next_signals start logs events).script_reset ≡ asks_reset events
unfolding signals_at
next_reset start logs events = refl

-- the line of a step
pub next_line-hide : (start : Start) (free more : List ℕ) (logs : Logs) (events : List Event)
    → IsSound logs.progress (last_pc logs.records)
    → free ≡ (next_logs start logs events).released_words ++ more
    → next_line (open_start free start) (hide logs) events ≡ next_line start logs events
next_line-hide start free more logs events sound split =
    let opened : Start = open_start free start in
    let entry : BusRecord = next_record start logs events in
    let step = step_hides start free more logs events sound split in
    ap
    (λ (e : BusRecord). line_with (blank_record e) (next_signals opened (hide logs) events)
    (logged_bounds opened (hide logs)) (exec_of (next_logs opened (hide logs) events)))
    step.entry
    ∙ (λ i. record {
      kind = entry.kind;
      pc = entry.pc;
      cpu = blank_access-twice entry.cpu i;
      dma = blank_access-twice entry.dma i;
      irq = entry.irq;
      asked = (next_reset opened (hide logs) events ∙ sym (next_reset start logs events)) i;
      word = next_word-hide start free logs events i;
      value = blank_value-twice entry.cpu entry.value i;
      dma_value = blank_value-twice entry.dma entry.dma_value i;
      bounds = logged_bounds-hide start free logs i;
      exec = (ap exec_of step.after ∙ exec-blank (next_logs start logs events).records) i;
      rule = entry.reset;
    })

pub trace_lines-hide : (start : Start) (free : List ℕ) (play : Play) (more : List ℕ)
    → free ≡ (logs_after start play).released_words ++ more
    → trace_lines start play ≡ trace_lines (open_start free start) play
unfolding trace_lines logs_after
trace_lines-hide start free [] more split = refl
trace_lines-hide start free (events ∷ play) more split =
    let logs : Logs = logs_after start play in
    let opened : Start = open_start free start in
    let rest = releases_before start free more logs events split in
    let before = play_hides start free play rest.0 rest.1 in
    let line = sym (next_line-hide start free more logs events (logs_after-sound start play) split)
    ∙ ap (λ (ls : Logs). next_line opened ls events) before.logs in
    λ i. line i ∷ trace_lines-hide start free play rest.0 rest.1 i

-- What a waveform shows of a play without its key.

byte_received_by-blank : (rule : Option Rule) (access : Option Access) (value : ℕ)
    → byte_received_by rule (blank_access access) (blank_value access value)
    ≡ byte_received_by rule access value
byte_received_by-blank rule access value = grind (arith, nat_tests)

-- the ports in a step
next_ports-hide : (start : Start) (free more : List ℕ) (logs : Logs) (events : List Event)
    → IsSound logs.progress (last_pc logs.records)
    → free ≡ (next_logs start logs events).released_words ++ more
    → next_ports (open_start free start) (hide logs) events ≡ next_ports start logs events
next_ports-hide start free more logs events sound split =
    let entry : BusRecord = next_record start logs events in
    ap (λ (e : BusRecord). ports_with (hide logs) events e)
    (step_hides start free more logs events sound split).entry
    ∙ (λ i. record {
      pins = pins_word (with_all_events logs.peripherals events).pins;
      sent = byte_sent_by-blank entry.reset entry.cpu i;
      received = byte_received_by-blank entry.reset entry.cpu entry.value i;
    })

-- the state after a play
state_of-hide : (start : Start) (free : List ℕ) (logs : Logs)
    → state_of (open_start free start) (hide logs) ≡ state_of start logs
state_of-hide start free logs =
    λ i. record {
      registers = last_registers-hide logs.progress i;
      aux = (flags_of-hide start free logs i).aux;
      timer_flag = timer_flag logs.peripherals.timer;
    }

play_state-hide : (start : Start) (free : List ℕ) (play : Play) (more : List ℕ)
    → free ≡ (logs_after start play).released_words ++ more
    → play_state start play ≡ play_state (open_start free start) play
play_state-hide start free play more split =
    sym (state_of-hide start free (logs_after start play))
    ∙ ap (λ (logs : Logs). state_of (open_start free start) logs)
    (play_hides start free play more split).logs

pub wave_samples-hide : (start : Start) (free : List ℕ) (play : Play) (more : List ℕ)
    → free ≡ (logs_after start play).released_words ++ more
    → wave_samples start play ≡ wave_samples (open_start free start) play
unfolding wave_samples logs_after
wave_samples-hide start free [] more split = refl
wave_samples-hide start free (events ∷ play) more split =
    let logs : Logs = logs_after start play in
    let opened : Start = open_start free start in
    let rest = releases_before start free more logs events split in
    let before = play_hides start free play rest.0 rest.1 in
    let sound = logs_after-sound start play in
    let line = sym (next_line-hide start free more logs events sound split)
    ∙ ap (λ (ls : Logs). next_line opened ls events) before.logs in
    let ports = sym (next_ports-hide start free more logs events sound split)
    ∙ ap (λ (ls : Logs). next_ports opened ls events) before.logs in
    let state = play_state-hide start free (events ∷ play) more split in
    let earlier = wave_samples-hide start free play rest.0 rest.1 in
    λ i. record { line = line i; ports = ports i; state = state i } ∷ earlier i

pub lines_keyless : (start : Start) (play : Play) → HasKeylessLines start play
lines_keyless start play more =
    record {
      lines = trace_lines-hide start (released_words start play ++ more) play more refl;
      samples = wave_samples-hide start (released_words start play ++ more) play more refl;
    }

-- two starts that look alike without their keys
alike : {A : Type 0} (shown : Start → A) (left right : A) (one two : Start)
    → left ≡ shown one → one ≡ two → right ≡ shown two → left ≡ right
alike shown left right one two before same after = before ∙ ap shown same ∙ sym after

pub same_trace_lines : (left right : Start) (play : Play) → SameButKey left right
    → ReleaseAlike left right play → IsKeyless left right play
same_trace_lines left right play same agree =
    let one = one_keyless left right play same agree in
    let before = lines_keyless left play one.after_left in
    let after = lines_keyless right play one.after_right in
    record {
      lines = alike (λ start. trace_lines start play) _ _ _ _ before.lines one.same after.lines;
      samples = alike (λ start. wave_samples start play) _ _ _ _ before.samples one.same
          after.samples;
    }
