-- Each line of a play is right.
use Rattle.std.{proofs.{Common.{◌≡◌, ℕ, Bool, List, [], ◌∷◌, Option, map, refl, ap, sym, ◌∙◌, arith, true, false, not, Some, None}, lemmas.Bool.{and_parts, eqb-true, cond-false, Decides.nat_tests}}, specs.{Prelude.◌&&◌, Option.option_or}}
use Rattle.device_types.specs.{declared.{bounds.Bounds.Bounds, event.Event.Event, rule.Rule.{Rule, TheVariants.{X0, I1}}, signals.Signals.Signals, access.Access.{Access, TheVariants.{Fetch, Read, Write}}}, Kind.is_cpu, ExecFlag.{exec, fetches_at, last_pc, SeenRecord, clears, starts_run}, Access.{some_writes, without_number}, Map.{touches, some_touches, key_region, stack_region}}
use Rattle.part_definitions.specs.{FirstRule.{first_rule, breaks_i1, rule_where}, MonitorRule.{in_rom, key_rule, atomicity_rule}}
use Rattle.device_trace.specs.{Trace.{Play, next_logs, logs_after}, Blank.{blank_record, touches_secrets, blank_access, blank_value}, Logs.{Logs, exec_of, logged_bounds, with_events, with_record}, Progress.last_registers, Signals.{value_read, signals_of}, Start.Start, Step.{asks_reset, dma_value_read, record_from, record_of, next_record, access_recorded}}
use Rattle.trace_facts.proofs.{BreaksNoRule.key_rule-none, OpcodeFetch.{opcode_in, logs_after-proper}}
use Rattle.trace_files.specs.{Clean.{signals_in, seen_in, right_rule, right_exec, IsClean}, TraceText.{line_with, next_line, trace_lines}}
use Rattle.key_isolation.proofs.{FlagBlank.exec-same, SameRule.first_rule-same}

-- The rules see of a step no more than its line tells.

abbrev with_dma : Signals → Option Access → Signals
with_dma now dma = record now { dma = dma }

key_rule-dma : (now : Signals) (dma : Option Access)
    → key_rule (with_dma now (without_number dma)) ≡ key_rule (with_dma now dma)
unfolding key_rule
key_rule-dma now dma = grind arith

atomicity_rule-dma : (last : Option ℕ) (now : Signals) (dma dma' : Option Access)
    → atomicity_rule last (with_dma now dma) ≡ atomicity_rule last (with_dma now dma')
unfolding atomicity_rule
atomicity_rule-dma last now dma dma' = refl

-- the signals as a line tells them, beside those of the step
pub record SameSight (line real : Signals) : Type 0 where
  pub kind : line.kind ≡ real.kind
  pub pc : line.pc ≡ real.pc
  pub cpu : without_number line.cpu ≡ without_number real.cpu
  pub dma : without_number line.dma ≡ without_number real.dma
  pub irq : line.irq ≡ real.irq
  pub opcode : line.opcode ≡ real.opcode
  pub script_reset : line.script_reset ≡ real.script_reset
  pub word : key_rule real ≡ None → real.opcode ≡ true → line.word ≡ real.word

first_rule-dma : (last : Option ℕ) (now : Signals) (dma : Option Access)
    → first_rule last (with_dma now (without_number dma)) ≡ first_rule last (with_dma now dma)
unfolding first_rule
first_rule-dma last now dma =
    λ i. option_or (rule_where now.script_reset X0)
    (option_or (atomicity_rule-dma last now (without_number dma) dma i)
    (option_or (key_rule-dma now dma i) (rule_where (breaks_i1 now) I1)))

pub first_rule-sight : (last : Option ℕ) (line real : Signals)
    → SameSight line real → first_rule last line ≡ first_rule last real
first_rule-sight last line real same =
    sym (first_rule-dma last line line.dma)
    ∙ (ap (λ (dma : Option Access). first_rule last (with_dma line dma)) same.dma
    ∙ (first_rule-dma last line real.dma
    ∙ first_rule-same last (with_dma line real.dma) real
    (record {
      kind = same.kind;
      pc = same.pc;
      shape = same.cpu;
      dma = refl;
      irq = same.irq;
      opcode = same.opcode;
      script_reset = same.script_reset;
      word = same.word;
    })))

-- an access as it is recorded and blanked
pub shape-told : (rule : Option Rule) (access : Option Access)
    → without_number (blank_access (access_recorded rule access)) ≡ without_number access
shape-told rule access = grind (arith, nat_tests)

pub fetches_at-told : (rule : Option Rule) (access : Option Access) (pc : ℕ)
    → fetches_at (blank_access (access_recorded rule access)) pc ≡ fetches_at access pc
fetches_at-told rule access pc = grind (arith, nat_tests)

-- an opcode fetch that breaks no key rule is of no secret
fetch_apart : (place pc : ℕ) → place ≡ pc
    → (touches (Fetch place) key_region && true && not (in_rom pc)) ≡ false
    → (touches (Fetch place) stack_region && not (in_rom pc)) ≡ false
    → touches_secrets (Fetch place) ≡ false
fetch_apart place pc here k1 k2 = grind (arith, nat_tests)

pub word_told : (cpu : Option Access) (pc word : ℕ)
    → fetches_at cpu pc ≡ true
    → (some_touches cpu key_region && not (some_writes cpu) && not (in_rom pc)) ≡ false
    → (some_touches cpu stack_region && not (in_rom pc)) ≡ false
    → blank_value cpu word ≡ word
word_told None pc word fetches k1 k2 = absurd (cc)
word_told (Some (Fetch place)) pc word fetches k1 k2 =
    cond-false (touches_secrets (Fetch place)) 0 word
    (fetch_apart place pc (eqb-true place pc fetches) k1 k2)
word_told (Some (Read place size)) pc word fetches k1 k2 = absurd (cc)
word_told (Some (Write place size number)) pc word fetches k1 k2 = absurd (cc)

-- The flag and the monitors see the same in the lines of a play as in its records.

-- what a line shows of a record: the secrets are blanked, and there are no registers
abbrev pub shown : SeenRecord → SeenRecord
shown now = record { entry = record (blank_record now.entry) { regs = [] }; bounds = now.bounds }

clears-shown : (last : Option ℕ) (now : SeenRecord) → clears last (shown now) ≡ clears last now
clears-shown last now = grind arith

starts_run-shown : (now : SeenRecord) → starts_run (shown now) ≡ starts_run now
starts_run-shown now = grind arith

pub last_pc-shown : (records : List SeenRecord) → last_pc (map shown records) ≡ last_pc records
last_pc-shown [] = refl
last_pc-shown (now ∷ before) = refl

pub exec-shown : (records : List SeenRecord) → exec (map shown records) ≡ exec records
exec-shown records = exec-same shown clears-shown starts_run-shown last_pc-shown records

-- the lines of a play are of its records
pub lines_seen : (start : Start) (play : Play)
    → map seen_in (trace_lines start play) ≡ map shown (logs_after start play).records
unfolding trace_lines logs_after with_record with_events
lines_seen start [] = refl
lines_seen start (events ∷ play) =
    ap (λ (rest : List SeenRecord). seen_in (next_line start (logs_after start play) events) ∷ rest)
    (lines_seen start play)

-- what the line of a step with these signals tells
sight : (now : Signals) (regs : List ℕ) (rule : Option Rule) (value dma_value : ℕ)
    (bounds : Bounds) (is_set : Bool)
    → (is_cpu now.kind && fetches_at now.cpu now.pc) ≡ now.opcode
    → SameSight (signals_in (line_with (blank_record (record_from regs now rule value dma_value))
    now bounds is_set)) now
sight now regs rule value dma_value bounds is_set opcode =
    record {
      kind = refl;
      pc = refl;
      cpu = shape-told rule now.cpu;
      dma = shape-told rule now.dma;
      irq = refl;
      opcode =
          ap (λ (fetches : Bool). is_cpu now.kind && fetches) (fetches_at-told rule now.cpu now.pc)
          ∙ opcode;
      script_reset = refl;
      word = λ none fetches.
          let unbroken = key_rule-none now none in
          let both = and_parts (is_cpu now.kind) (fetches_at now.cpu now.pc) (opcode ∙ fetches) in
          word_told now.cpu now.pc now.word both.1 unbroken.k1 unbroken.k2;
    }

last_pc-lines : (start : Start) (play : Play)
    → last_pc (map seen_in (trace_lines start play)) ≡ last_pc (logs_after start play).records
last_pc-lines start play =
    ap last_pc (lines_seen start play) ∙ last_pc-shown (logs_after start play).records

rule_right : (start : Start) (events : List Event) (play : Play)
    → (next_line start (logs_after start play) events).rule
    ≡ right_rule (trace_lines start play) (next_line start (logs_after start play) events)
unfolding next_record record_of with_events
rule_right start events play =
    let logs : Logs = with_events (logs_after start play) events in
    let now : Signals = signals_of start logs (asks_reset events) in
    sym (first_rule-sight (last_pc (map seen_in (trace_lines start play)))
    (signals_in (next_line start (logs_after start play) events)) now
    (sight now (last_registers logs.progress)
    (first_rule (last_pc (logs_after start play).records) now)
    (value_read start logs now.cpu) (dma_value_read start logs now)
    (logged_bounds start (logs_after start play))
    (exec_of (next_logs start (logs_after start play) events))
    (opcode_in start logs (asks_reset events) (logs_after-proper start play)))
    ∙ ap (λ (last : Option ℕ). first_rule last now) (last_pc-lines start play))

exec_right : (start : Start) (events : List Event) (play : Play)
    → (next_line start (logs_after start play) events).exec
    ≡ right_exec (next_line start (logs_after start play) events ∷ trace_lines start play)
unfolding trace_lines logs_after
exec_right start events play =
    sym (ap exec (lines_seen start (events ∷ play))
    ∙ exec-shown (logs_after start (events ∷ play)).records)

pub lines_clean : (start : Start) (play : Play) → IsClean (trace_lines start play)
unfolding trace_lines
lines_clean start [] = tt
lines_clean start (events ∷ play) = (
  record { rule = rule_right start events play; exec = exec_right start events play },
  lines_clean start play,
)
