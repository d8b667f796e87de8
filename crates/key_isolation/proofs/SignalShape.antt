-- With the secrets hidden the next step is about to do the same, but for what the rules do not see.
use Rattle.std.{proofs.Common.{arith, ◌≡◌, ℕ, Bool, true, false, List, Option, Some, None, length, refl, ap, sym, ◌∙◌, subst, not}, specs.Prelude.{◌&&◌, is_some}}
use Rattle.device_types.specs.{declared.{access.Access.Access, bounds.Bounds.Bounds, kind.Kind.{Kind, TheVariants.{Boot, Cpu, Idle, Irq, Rom}}}, Access.{some_writes, without_number}, Map.{some_touches, key_region, stack_region}}
use Rattle.part_definitions.specs.{BusAccess.fetch_at, Attestation.{CallItem, item_access, bounds_read, call_item}, CpuRegister.sp_of, CpuState.{Boundary, Executing, Entering}, MonitorRule.{in_rom, key_rule}, NextAccess.next_access}
use Rattle.device_trace.specs.{Blank.touches_secrets, Logs.{Logs, vector_of, step_progress}, Progress.{Progress, Held, Runs, InCall, next_pc_of, progress_within, access_of, fetches_opcode}, Signals.{word_fetched, step_kind, proposed_access, signals_at, signals_of}, Start.Start}
use Rattle.trace_facts.proofs.BreaksNoRule.{BreaksNoKeyRule, key_rule-none}
use Rattle.key_isolation.proofs.{HiddenWords.{hide_words, bounds_read-hide, call_item-hide}, Hiding.{open_start, hide_progress, hide, next_pc_of-hide, tells_irq-hide, fetches_opcode-hide, vector_of-hide, step_kind-hide, step_progress-hide}, Reading.{fetch_off, word_fetched-hide}, SameRule.SameSignals}

-- the accesses differ in the number of a write alone
item_access-shape : (sp : ℕ) (bounds : Bounds) (item : CallItem) (number number' : ℕ)
    → without_number (Some (item_access sp bounds item number'))
    ≡ without_number (Some (item_access sp bounds item number))
item_access-shape sp bounds item number number' = grind arith

-- the access of a call with the key's words hidden, with any number
pub item_access-hide : (sp : ℕ) (words : List ℕ) (number : ℕ)
    → item_access sp (bounds_read (hide_words words)) (call_item (hide_words words)) number
    ≡ item_access sp (bounds_read words) (call_item words) number
item_access-hide sp words number =
    λ i. item_access sp (bounds_read-hide words i) (call_item-hide words i) number

access_of-shape : (start : Start) (free : List ℕ) (releases : ℕ) (kind : Kind)
    (progress : Progress)
    → without_number (access_of (open_start free start) releases kind (hide_progress progress))
    ≡ without_number (access_of start releases kind progress)
access_of-shape start free releases kind Held = refl
access_of-shape start free releases kind (Runs cpu) = refl
access_of-shape start free releases kind (InCall regs words) =
    ap (λ (access : Access). without_number (Some access)) (item_access-hide (sp_of regs) words _)
    ∙ item_access-shape (sp_of regs) (bounds_read words) (call_item words) _ _

-- an opcode fetch is at the `pc` of its step
opcode_fetch : (start : Start) (releases : ℕ) (kind : Kind) (progress : Progress)
    (vector : Option ℕ)
    → fetches_opcode kind progress ≡ true
    → access_of start releases kind (progress_within progress kind vector)
    ≡ Some (fetch_at (next_pc_of (progress_within progress kind vector)))
unfolding next_access
opcode_fetch start releases Boot progress vector fetches = absurd (cc)
opcode_fetch start releases Cpu Held vector fetches = absurd (cc)
opcode_fetch start releases Cpu (Runs (Boundary regs)) vector fetches = refl
opcode_fetch start releases Cpu (Runs (Executing regs values)) vector fetches = absurd (cc)
opcode_fetch start releases Cpu (Runs (Entering regs choice values)) vector fetches = absurd (cc)
opcode_fetch start releases Cpu (InCall regs words) vector fetches = absurd (cc)
opcode_fetch start releases Idle progress vector fetches = absurd (cc)
opcode_fetch start releases Irq progress vector fetches = absurd (cc)
opcode_fetch start releases Rom progress vector fetches = absurd (cc)

opcode_off : (cpu : Option Access) (pc : ℕ)
    → cpu ≡ Some (fetch_at pc)
    → (some_touches cpu key_region && not (some_writes cpu) && not (in_rom pc)) ≡ false
    → (some_touches cpu stack_region && not (in_rom pc)) ≡ false
    → touches_secrets (fetch_at pc) ≡ false
opcode_off cpu pc fetch k1 k2 =
    fetch_off pc
    (subst (λ (c : Option Access).
    (some_touches c key_region && not (some_writes c) && not (in_rom pc)) ≡ false) fetch k1)
    (subst (λ (c : Option Access). (some_touches c stack_region && not (in_rom pc))
    ≡ false) fetch k2)

word-hide : (start : Start) (free : List ℕ) (logs : Logs) (kind : Kind) (reset : Bool)
    → key_rule (signals_at start logs kind reset) ≡ None
    → fetches_opcode kind logs.progress ≡ true
    → word_fetched (open_start free start) (hide logs)
    (proposed_access (open_start free start) (hide logs) kind)
    ≡ word_fetched start logs (proposed_access start logs kind)
unfolding signals_at
word-hide start free logs kind reset none fetches =
    let blank_start : Start = open_start free start in
    let pc : ℕ = next_pc_of (step_progress logs kind) in
    let key : BreaksNoKeyRule (signals_at start logs kind reset) = key_rule-none _ none in
    let real : proposed_access start logs kind ≡ Some (fetch_at pc) =
    opcode_fetch start (length logs.released_words) kind logs.progress (vector_of logs) fetches in
    let view : proposed_access blank_start (hide logs) kind
    ≡ Some (fetch_at (next_pc_of (step_progress (hide logs) kind))) =
    opcode_fetch blank_start (length logs.released_words) kind (hide_progress logs.progress)
    (vector_of (hide logs))
    (fetches_opcode-hide kind logs.progress ∙ fetches) in
    let same_pc : next_pc_of (step_progress (hide logs) kind) ≡ pc =
    ap next_pc_of (step_progress-hide logs kind) ∙ next_pc_of-hide (step_progress logs kind) in
    ap (word_fetched blank_start (hide logs)) (view ∙ ap (λ (p : ℕ). Some (fetch_at p)) same_pc)
    ∙ (word_fetched-hide start free logs pc
    (opcode_off (proposed_access start logs kind) pc real key.k1 key.k2)
    ∙ ap (word_fetched start logs) (sym real))

signals_at-hide : (start : Start) (free : List ℕ) (logs : Logs) (kind : Kind) (reset : Bool)
    → SameSignals (signals_at (open_start free start) (hide logs) kind reset)
    (signals_at start logs kind reset)
unfolding signals_at
signals_at-hide start free logs kind reset =
    record {
      kind = refl;
      pc = ap next_pc_of (step_progress-hide logs kind) ∙ next_pc_of-hide (step_progress logs kind);
      shape =
          ap
          (λ (progress : Progress). without_number
          (access_of (open_start free start) (length logs.released_words) kind progress))
          (step_progress-hide logs kind)
          ∙ access_of-shape start free (length logs.released_words) kind
          (step_progress logs kind);
      dma = refl;
      irq = λ i. tells_irq-hide logs.progress i && is_some (vector_of-hide logs i);
      opcode = fetches_opcode-hide kind logs.progress;
      script_reset = refl;
      word = word-hide start free logs kind reset;
    }

pub signals_of-hide : (start : Start) (free : List ℕ) (logs : Logs) (reset : Bool)
    → SameSignals (signals_of (open_start free start) (hide logs) reset)
    (signals_of start logs reset)
signals_of-hide start free logs reset =
    subst
    (λ (kind : Kind). SameSignals (signals_at (open_start free start) (hide logs) kind reset)
    (signals_of start logs reset))
    (sym (step_kind-hide logs)) (signals_at-hide start free logs (step_kind logs) reset)
