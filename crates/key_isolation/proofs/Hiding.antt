-- The logs of a play with the secrets hidden, and what stays of them.
use Rattle.std.{proofs.Common.{arith, ◌≡◌, ℕ, false, List, Option, Some, None, map, refl, ap, ◌∙◌}, specs.Prelude.if◌then◌else◌}
use Rattle.device_types.specs.{declared.{bus_record.BusRecord.BusRecord, kind.Kind.Kind}}
use Rattle.part_definitions.specs.{Attestation.item_pc, CpuRegister.allows_interrupts, CpuState.{Boundary, Executing, Entering}, Interrupt.first_vector}
use Rattle.device_trace.specs.{Blank.{is_secret, blank_record, blank_seen}, Progress.{level_after, Progress, Held, Runs, InCall, last_registers, next_pc_of, kind_of, progress_from_boundary, progress_within, tells_irq, fetches_opcode}, Logs.{Logs, flags_of, logged_byte, logged_bounds, vector_of, step_progress, vector_taken, finishes_call, call_decision, decision_after}, Peripherals.requests, Signals.step_kind, Start.{Start, without_key}}
use Rattle.key_isolation.proofs.{HiddenWords.{hide_words, hide_words-none, decision_read-hide, call_item-hide}, Bytes.{hide_write, byte_at-hide}, Numbers.bounds_in-outside, FlagBlank.{exec-blank, seen_by_flag-blank}}

-- the same start without its key, where the calls release these words
abbrev pub open_start : List ℕ → Start → Start
open_start words start = without_key start.second_flag words start.power.image

abbrev pub hide_progress : Progress → Progress
hide_progress Held = Held
hide_progress (Runs cpu) = Runs cpu
hide_progress (InCall regs words) = InCall regs (hide_words words)

abbrev pub hide : Logs → Logs
hide logs =
    record {
      progress = hide_progress logs.progress;
      memory = map hide_write logs.memory;
      peripherals = logs.peripherals;
      records = map blank_seen logs.records;
      released_words = logs.released_words;
      decision = logs.decision;
      level = logs.level;
    }

-- readers of the progress
pub last_registers-hide : (progress : Progress)
    → last_registers (hide_progress progress) ≡ last_registers progress
last_registers-hide progress = grind arith

pub next_pc_of-hide : (progress : Progress)
    → next_pc_of (hide_progress progress) ≡ next_pc_of progress
next_pc_of-hide Held = refl
next_pc_of-hide (Runs cpu) = refl
next_pc_of-hide (InCall regs words) = ap item_pc (call_item-hide words)

kind_of-hide : (progress : Progress) (vector : Option ℕ)
    → kind_of (hide_progress progress) vector ≡ kind_of progress vector
kind_of-hide progress vector = grind arith

pub tells_irq-hide : (progress : Progress) → tells_irq (hide_progress progress) ≡ tells_irq progress
tells_irq-hide progress = grind arith

pub fetches_opcode-hide : (kind : Kind) (progress : Progress)
    → fetches_opcode kind (hide_progress progress) ≡ fetches_opcode kind progress
fetches_opcode-hide kind progress = grind arith

pub vector_taken-hide : (progress : Progress) (kind : Kind) (vector : Option ℕ)
    → vector_taken (hide_progress progress) kind vector ≡ vector_taken progress kind vector
vector_taken-hide progress kind vector = grind arith

from_boundary-hide : (regs : List ℕ) (kind : Kind) (vector : Option ℕ)
    → progress_from_boundary regs kind vector
    ≡ hide_progress (progress_from_boundary regs kind vector)
from_boundary-hide regs kind vector = grind (arith, hide_words-none)

progress_within-hide : (progress : Progress) (kind : Kind) (vector : Option ℕ)
    → progress_within (hide_progress progress) kind vector
    ≡ hide_progress (progress_within progress kind vector)
progress_within-hide progress kind vector = grind (arith, from_boundary-hide)

-- the decision of a call is no secret
call_decision-hide : (progress : Progress)
    → call_decision (hide_progress progress) ≡ call_decision progress
call_decision-hide Held = refl
call_decision-hide (Runs cpu) = refl
call_decision-hide (InCall regs words) = ap (λ (n : ℕ). Some n) (decision_read-hide words)

pub level_after-hide : (before after : Progress) (level : ℕ)
    → level_after (hide_progress before) (hide_progress after) level
    ≡ level_after before after level
level_after-hide before Held level = refl
level_after-hide Held (Runs cpu) level = refl
level_after-hide Held (InCall regs words) level = refl
level_after-hide (Runs (Boundary from)) (Runs cpu) level = refl
level_after-hide (Runs (Boundary from)) (InCall regs words) level = refl
level_after-hide (Runs (Executing from values)) (Runs cpu) level = refl
level_after-hide (Runs (Executing from values)) (InCall regs words) level = refl
level_after-hide (Runs (Entering from vector values)) (Runs cpu) level = refl
level_after-hide (Runs (Entering from vector values)) (InCall regs words) level = refl
level_after-hide (InCall from passed) (Runs cpu) level = refl
level_after-hide (InCall from passed) (InCall regs words) level = refl

-- readers of the logs
pub vector_of-hide : (logs : Logs) → vector_of (hide logs) ≡ vector_of logs
vector_of-hide logs =
    ap
    (λ (regs : List ℕ).
    if allows_interrupts regs then first_vector (requests logs.peripherals) else None)
    (last_registers-hide logs.progress)

pub step_kind-hide : (logs : Logs) → step_kind (hide logs) ≡ step_kind logs
step_kind-hide logs =
    λ i. kind_of-hide logs.progress (vector_of-hide logs i) i

pub step_progress-hide : (logs : Logs) (kind : Kind)
    → step_progress (hide logs) kind ≡ hide_progress (step_progress logs kind)
step_progress-hide logs kind =
    λ i. progress_within-hide logs.progress kind (vector_of-hide logs i) i

-- the flags
pub flags_of-hide : (start : Start) (words : List ℕ) (logs : Logs)
    → flags_of (open_start words start) (hide logs) ≡ flags_of start logs
flags_of-hide start words logs =
    λ i. record {
      exec = exec-blank logs.records i;
      aux = start.second_flag (seen_by_flag-blank logs.records i);
    }

-- bytes
pub logged_byte-hide : (start : Start) (words : List ℕ) (logs : Logs) (place : ℕ)
    → is_secret place ≡ false
    → logged_byte (open_start words start) (hide logs) place ≡ logged_byte start logs place
logged_byte-hide start words logs place off =
    λ i. byte_at-hide start.power (flags_of-hide start words logs i) logs.memory place off i

pub logged_bounds-hide : (start : Start) (words : List ℕ) (logs : Logs)
    → logged_bounds (open_start words start) (hide logs) ≡ logged_bounds start logs
logged_bounds-hide start words logs =
    bounds_in-outside (logged_byte (open_start words start) (hide logs)) (logged_byte start logs)
    (logged_byte-hide start words logs)

pub decision_after-hide : (logs : Logs) (entry : BusRecord)
    → decision_after (step_progress (hide logs) entry.kind) (blank_record entry)
    ≡ decision_after (step_progress logs entry.kind) entry
decision_after-hide logs entry =
    ap (λ (decision : Option ℕ). if finishes_call entry then decision else None)
    (ap call_decision (step_progress-hide logs entry.kind)
    ∙ call_decision-hide (step_progress logs entry.kind))
