-- What a device tells of its last step is the line of that step.
use Rattle.std.{proofs.Common.{◌≡◌, ◌≤◌, ◌∙◌, [], ◌∷◌, ℕ, suc, Bool, true, false, List, Option, Some, None, Ok, Result, option_map, refl, sym, ap, subst, length, arith}, specs.Option.option_or}
use Rattle.device_types.specs.{declared.{access.Access.{Access, TheVariants.{Fetch, Read, Write}}, bounds.Bounds.Bounds, bus_record.BusRecord.BusRecord, event.Event.Event, rule.Rule.{Rule, TheVariants.X0}, signals.Signals.Signals}}
use Rattle.outside_edge.specs.Sink.{Puts}
use Rattle.part_definitions.specs.FirstRule.{first_rule, rule_where}
use Rattle.device_trace.specs.{Trace.{Play, last_bounds, last_record, last_signals, logs_after, next_logs, trace}, Blank.{blank_value, blank_record, touches_secrets}, Logs.{Logs, exec_of, logged_bounds, with_events}, Signals.{proposed_access, signals_at, signals_of, step_kind, value_read, word_fetched}, Start.Start, Step.{access_recorded, asks_reset, next_record, next_signals, record_of}}
use Rattle.device_core.specs.Silence.{last_refused, where_refused}
use Rattle.key_isolation.proofs.Bytes.{zero_either}
use Rattle.trace_files.{specs.{declared.trace_line.TraceLine.TraceLine, LineText.trace_line, LineReadBack.{ArePrintable, IsPrintable}, LineGrammar.trace_of, TraceText.{last_line, next_line, trace_lines, trace_text, word_shown}}, proofs.LineReadBack.file_reads_back}
use Rattle.device_play.specs.{Accounts.trace_account, Limit.most_steps, TraceLine.{proposal_shown, value_shown, word_read}}

-- the word that a line shows goes by where the access is, which a record keeps
recorded_word : (rule : Option Rule) (access : Option Access) (word : ℕ)
    → blank_value access word ≡ blank_value (access_recorded rule access) word
recorded_word None access word = refl
recorded_word (Some rule) None word = refl
recorded_word (Some rule) (Some (Fetch place)) word = refl
recorded_word (Some rule) (Some (Read place size)) word = refl
recorded_word (Some rule) (Some (Write place size number)) word = refl

shown_word : (start : Start) (logs : Logs) (events : List Event)
    → word_shown (next_signals start logs events)
    ≡ blank_value (next_record start logs events).cpu (next_signals start logs events).word
unfolding next_record record_of
shown_word start logs events =
    recorded_word (next_record start logs events).reset (next_signals start logs events).cpu
    (next_signals start logs events).word

where_refused-Some : (rule : Option Rule) (now : Option Signals) (said : Signals)
    → where_refused rule now ≡ Some said → now ≡ Some said
where_refused-Some None now said is = absurd (cc is)
where_refused-Some (Some rule) now said is = is

where_refused-None : (rule : Option Rule) (now : Signals)
    → where_refused rule (Some now) ≡ None → rule ≡ None
where_refused-None None now is = refl
where_refused-None (Some rule) now is = absurd (cc is)

-- a refused step shows what it was about to do
pub refused-proposal : (start : Start) (play : Play) (entry : BusRecord)
    (said : Signals)
    → last_record (trace start play) ≡ Some entry
    → last_refused start play ≡ Some said
    → option_map proposal_shown (last_signals start play)
    ≡ Some (said.script_reset, blank_value entry.cpu said.word)
unfolding trace
refused-proposal start [] entry said same_entry is = absurd (cc same_entry)
refused-proposal start (events ∷ play) entry said same_entry is =
    let logs : Logs = logs_after start play in
    let is_entry : next_record start logs events ≡ entry = cc same_entry in
    let is_some : Some (next_signals start logs events) ≡ Some said =
    where_refused-Some (next_record start logs events).reset
    (Some (next_signals start logs events)) said is in
    let is_now : next_signals start logs events ≡ said = cc is_some in
    let word : word_shown said ≡ blank_value entry.cpu said.word =
    rw (is_now, is_entry) at (shown_word start logs events) in
    ap (λ (now : Signals). Some (proposal_shown now)) is_now
    ∙ ap (λ (shown : ℕ). Some (said.script_reset, shown)) word

not-asked : (asked : Bool) (others : Option Rule)
    → option_or (rule_where asked X0) others ≡ None → asked ≡ false
not-asked true others is = absurd (cc is)
not-asked false others is = refl

-- the word of a fetch is what it reads
fetched-shown : (start : Start) (logs : Logs) (access : Option Access)
    → blank_value access (word_fetched start logs access)
    ≡ word_read access (blank_value access (value_read start logs access))
fetched-shown start logs None = refl
fetched-shown start logs (Some (Fetch place)) = refl
fetched-shown start logs (Some (Read place size)) = zero_either (touches_secrets (Read place size))
fetched-shown start logs (Some (Write place size number)) =
    zero_either (touches_secrets (Write place size number))

-- what a step from these logs that broke no rule shows
made-shown : (start : Start) (logs : Logs) (reset : Bool)
    → (record_of start logs reset).reset ≡ None
    → proposal_shown (signals_of start logs reset)
    ≡ (
      false,
      word_read (record_of start logs reset).cpu
          (value_shown (record_of start logs reset)),
    )
unfolding record_of signals_at first_rule
made-shown start logs reset none =
    let access = proposed_access start logs (step_kind logs) in
    let asked : reset ≡ false = not-asked reset _ none in
    rw (none, asked) (ap (λ (w : ℕ). (false, w)) (fetched-shown start logs access))

-- and a step of a play that was made
pub made-proposal : (start : Start) (play : Play) (entry : BusRecord) (value : ℕ)
    → last_record (trace start play) ≡ Some entry
    → last_refused start play ≡ None
    → option_map value_shown (last_record (trace start play)) ≡ Some value
    → option_map proposal_shown (last_signals start play) ≡ Some (false, word_read entry.cpu value)
unfolding trace next_record
made-proposal start [] entry value same_entry none shown = absurd (cc same_entry)
made-proposal start (events ∷ play) entry value same_entry none shown =
    let logs : Logs = with_events (logs_after start play) events in
    let reset : Bool = asks_reset events in
    let is_entry : record_of start logs reset ≡ entry = cc same_entry in
    let is_value : value_shown (record_of start logs reset) ≡ value = cc shown in
    let unrefused = where_refused-None (record_of start logs reset).reset
    (signals_of start logs reset) none in
    let made = made-shown start logs reset unrefused in
    ap Some (rw (is_value, is_entry) at made)

-- the line with that word
abbrev pub shown_line : BusRecord → Bool × ℕ → Bounds → Bool → TraceLine
shown_line entry proposal bounds exec =
    let shown : BusRecord = blank_record entry in
    record {
      kind = shown.kind;
      pc = shown.pc;
      cpu = shown.cpu;
      dma = shown.dma;
      irq = shown.irq;
      asked = proposal.0;
      word = proposal.1;
      value = shown.value;
      dma_value = shown.dma_value;
      bounds = bounds;
      exec = exec;
      rule = shown.reset;
    }

-- what a device tells of its last step is the line of that step
pub told_line : (start : Start) (play : Play) (entry : BusRecord)
    (proposal : Bool × ℕ) (bounds : Bounds) (exec : Bool) (line : TraceLine)
    → last_record (trace start play) ≡ Some entry
    → option_map proposal_shown (last_signals start play) ≡ Some proposal
    → last_bounds start play ≡ Some bounds
    → exec ≡ exec_of (logs_after start play)
    → line ≡ shown_line entry proposal bounds exec
    → last_line start play ≡ Some line
unfolding trace logs_after
told_line start [] entry proposal bounds exec line same_entry same_proposal same_bounds same_exec is
    =
    absurd (cc same_entry)
told_line start (events ∷ play) entry proposal bounds exec line same_entry same_proposal same_bounds
    same_exec is =
    let logs : Logs = logs_after start play in
    let said : Bool × ℕ = proposal_shown (next_signals start logs events) in
    let flag : Bool = exec_of (next_logs start logs events) in
    let is_entry : next_record start logs events ≡ entry = cc same_entry in
    let is_said : said ≡ proposal = cc same_proposal in
    let is_bounds : logged_bounds start logs ≡ bounds = cc same_bounds in
    ap Some (ap (λ (e : BusRecord). shown_line e said (logged_bounds start logs) flag) is_entry
    ∙ (ap (λ (p : Bool × ℕ). shown_line entry p (logged_bounds start logs) flag) is_said
    ∙ (ap (λ (b : Bounds). shown_line entry proposal b flag) is_bounds
    ∙ (ap (λ (e : Bool). shown_line entry proposal bounds e) (sym same_exec) ∙ sym is))))

pub length-lines : (start : Start) (play : Play)
    → length (trace_lines start play) ≡ length play
unfolding trace_lines
length-lines start [] = refl
length-lines start (events ∷ play) = ap suc (length-lines start play)

next-is : (start : Start) (events : List Event) (play : Play) (line : TraceLine)
    → last_line start (events ∷ play) ≡ Some line
    → next_line start (logs_after start play) events ≡ line
next-is start events play line is = cc is

-- the line of one more step
pub lines-more : (start : Start) (events : List Event) (play : Play) (line : TraceLine)
    → last_line start (events ∷ play) ≡ Some line
    → trace_lines start (events ∷ play) ≡ line ∷ trace_lines start play
unfolding trace_lines
lines-more start events play line is =
    ap (λ (next : TraceLine). next ∷ trace_lines start play) (next-is start events play line is)

-- of a trace file
pub printable-more : (start : Start) (events : List Event) (play : Play) (line : TraceLine)
    → last_line start (events ∷ play) ≡ Some line
    → IsPrintable line
    → ArePrintable (trace_lines start play)
    → ArePrintable (trace_lines start (events ∷ play))
printable-more start events play line is printable before =
    rw (lines-more start events play line is) (printable, before)

pub puts-traced :
    {S V E : Type 0} {stands : S → List ℕ → Type 0} {old new : S} {result : Result V E}
    (start : Start) (events : List Event) (play : Play) (step : ℕ) (line : TraceLine)
    → step ≡ length play
    → last_line start (events ∷ play) ≡ Some line
    → Puts stands old new (trace_line step line) result
    → Puts stands old new (trace_account.step_text start events play) result
puts-traced {stands} {old} {new} {result} start events play step line number is puts =
    subst (λ text. Puts stands old new text result)
    (ap (trace_line step) (sym (next-is start events play line is))
    ∙ ap (λ (n : ℕ). trace_line n (next_line start (logs_after start play) events))
    (number ∙ sym (length-lines start play)))
    puts

-- the trace file of a play reads back
pub reads_back : (start : Start) (play : Play)
    → length play ≤ most_steps → ArePrintable (trace_lines start play)
    → trace_of (trace_text start play) ≡ Ok (trace_lines start play)
reads_back start play few printable =
    file_reads_back (trace_lines start play) printable
    (omega (arith, length-lines start play, few))
