-- A step has at most one line.
use Rattle.std.proofs.{Common.{◌≡◌, ◌∙◌, ◌-◌, ◌&&◌, ◌==◌, if◌then◌else◌, length, ℕ, Bool, true, false, [], ◌∷◌, Option, Some, None, is_some, refl, sym, ap, arith}, lemmas.Bool.{eqb-true, false≢true, Decides.nat_tests}}
use Rattle.word_arith.specs.{declared.size.Size.{Size, TheVariants.{Byte, Word}}}
use Rattle.device_types.specs.{declared.{access.Access.{Access, TheVariants.{Fetch, Read, Write}}, bus_record.BusRecord.BusRecord, report_view.ReportView.ReportView, rule.Rule.Rule}, Report.fields_of, Access.some_writes, Kind.is_rom, Map.ROM_EXIT, ExecFlag.last_pc}
use Rattle.part_definitions.specs.{MonitorRule.{in_rom, is_written_by_rom, leaves_stack_and_mac}, PeripheralRegister.covers, Request.ATTESTS, Serial.SERIAL_SEND, FirstRule.first_rule}
use Rattle.device_trace.specs.{Logs.{Logs, finishes_call, with_events}, Signals.signals_of, Trace.{Play, trace, last_record, logs_after}, Start.Start, Step.{asks_reset, next_record, record_of}, Text.{byte_sent_by, byte_sent_in, denial_where, last_byte_sent, last_decision, report_of}}
use Rattle.device_core.{specs.{Silence.{is_silent, last_rule, IsLastLine, byte_in_line, denied_in_line, report_in_line, rule_in_line}, declared.step_line.StepLine.{StepLine, TheVariants.{Denied, Report}}}, proofs.{Decisions.{last_decision-Some, no_decision}, Histories.{last_byte_sent-Some, last_report-where, last_rule-Some, other-report}, Idle.{silent-parts, undecided-denial, undecided-report}}}
use Rattle.trace_facts.proofs.BreaksNoRule.{first_rule-none}

-- the register that sends lies where no call writes
sends-elsewhere :
    (place : ℕ) (size : Size)
    → covers place size SERIAL_SEND ≡ true → is_written_by_rom place ≡ false
sends-elsewhere place Byte covered = grind (arith, nat_tests)
sends-elsewhere place Word covered = grind (arith, nat_tests)

covers-sent :
    (place : ℕ) (size : Size) (number byte : ℕ) (covered : Bool)
    → covers place size SERIAL_SEND ≡ covered
    → byte_sent_by None (Some (Write place size number)) ≡ Some byte → covered ≡ true
covers-sent place size number byte true same sent = refl
covers-sent place size number byte false same sent =
    let none : None ≡ Some byte = rw same at sent in absurd cc

-- so a step that sends, and breaks no rule, is not the ROM's
sent-outside :
    (cpu : Option Access) (pc byte : ℕ)
    → (some_writes cpu && leaves_stack_and_mac cpu && in_rom pc) ≡ false
    → byte_sent_by None cpu ≡ Some byte → in_rom pc ≡ false
sent-outside None pc byte kept sent = absurd cc
sent-outside (Some (Fetch place)) pc byte kept sent = absurd cc
sent-outside (Some (Read place size)) pc byte kept sent = absurd cc
sent-outside (Some (Write place Byte number)) pc byte kept sent =
    rw (sends-elsewhere place Byte (covers-sent place Byte number byte _ refl sent)) at kept
sent-outside (Some (Write place Word number)) pc byte kept sent =
    rw (sends-elsewhere place Word (covers-sent place Word number byte _ refl sent)) at kept

exit-inside : (pc : ℕ) → in_rom pc ≡ false → (pc == ROM_EXIT) ≡ false
exit-inside pc outside = grind (arith, nat_tests)

middle-false : (first last : Bool) → (first && false && last) ≡ false
middle-false true last = refl
middle-false false last = refl

last-false : (first middle : Bool) → (first && middle && false) ≡ false
last-false true true = refl
last-false true false = refl
last-false false middle = refl

-- a step that sends a byte finishes no call
sent-unfinished :
    (start : Start) (logs : Logs) (reset : Bool) (byte : ℕ) (rule : Option Rule)
    → first_rule (last_pc logs.records) (signals_of start logs reset) ≡ rule
    → byte_sent_in (record_of start logs reset) ≡ Some byte
    → finishes_call (record_of start logs reset) ≡ false
unfolding record_of
sent-unfinished start logs reset byte None same sent =
    let now = signals_of start logs reset in
    let kept = (first_rule-none (last_pc logs.records) now same).key.k3 in
    let outside = sent-outside now.cpu now.pc byte kept (rw same at sent) in
    rw (exit-inside now.pc outside) (middle-false _ _)
sent-unfinished start logs reset byte (Some rule) same sent =
    let none : None ≡ Some byte = rw same at sent in absurd cc

-- nor does a refused one
refused-unfinished :
    (entry : BusRecord) (rule : Rule) → entry.reset ≡ Some rule → finishes_call entry ≡ false
refused-unfinished entry rule refused =
    rw refused (last-false (is_rom entry.kind) (entry.pc == ROM_EXIT))

none-where : {A : Type 0} (one : Option A) (finishes : Bool)
    → ((item : A) → one ≡ Some item → finishes ≡ false) → finishes ≡ true → one ≡ None
none-where None finishes excludes is = refl
none-where (Some item) finishes excludes is = absurd (false≢true (sym (excludes item refl) ∙ is))

-- so a step with a decision sent nothing and was not refused
decided-alone :
    (start : Start) (play : Play)
    → is_some (last_decision start play) ≡ true
    → (last_byte_sent (trace start play) ≡ None) × (last_rule (trace start play) ≡ None)
unfolding trace next_record
decided-alone start [] some = (refl, refl)
decided-alone start (events ∷ play) some =
    let logs = with_events (logs_after start play) events in
    let entry = record_of start logs (asks_reset events) in
    let finishes : finishes_call entry ≡ true =
    sym (last_decision-Some start (events ∷ play) entry refl) ∙ some in (
      none-where (byte_sent_in entry) (finishes_call entry)
          (λ byte sent. sent-unfinished start logs (asks_reset events) byte _ refl sent) finishes,
      none-where entry.reset (finishes_call entry)
          (λ rule refused. refused-unfinished entry rule refused) finishes,
    )

-- the line of a call that attests
pub report-line :
    (start : Start) (play : Play) (view : ReportView)
    → last_decision start play ≡ Some ATTESTS
    → fields_of view ≡ report_of start (logs_after start play) (length play - 1)
    → IsLastLine (Some (Report view)) start play
report-line start play view decided told =
    let (sent, refused) = decided-alone start play (rw decided refl) in
    record {
      sent = sym sent;
      refused = sym refused;
      report = ap Some told ∙ sym (last_report-where start play ∙ rw decided refl);
      denied = rw decided refl;
    }

other-denial : (decision : ℕ) (attests : Bool)
    → (decision == ATTESTS) ≡ attests → (decision ≡ ATTESTS → ⊥)
    → Some decision ≡ (if attests then None else Some decision)
other-denial decision true same other = absurd (other (eqb-true decision ATTESTS same))
other-denial decision false same other = refl

-- of a call that does not
pub denial-line :
    (start : Start) (play : Play) (decision : ℕ)
    → last_decision start play ≡ Some decision
    → (decision ≡ ATTESTS → ⊥)
    → IsLastLine (Some (Denied decision)) start play
denial-line start play decision decided other =
    let (sent, refused) = decided-alone start play (rw decided refl) in
    record {
      sent = sym sent;
      refused = sym refused;
      report = sym (other-report start play decision decided other);
      denied = rw decided (other-denial decision (decision == ATTESTS) refl other);
    }

pub denial-decided : (word : ℕ) (decision : Option ℕ)
    → Some word ≡ denial_where decision → is_some decision ≡ true
denial-decided word None denied = absurd cc
denial-decided word (Some decision) denied = refl

-- of a step that finished no call
pub plain-line :
    (start : Start) (play : Play) (entry : BusRecord) (line : Option StepLine)
    → last_record (trace start play) ≡ Some entry
    → finishes_call entry ≡ false
    → byte_in_line line ≡ byte_sent_in entry
    → rule_in_line line ≡ entry.reset
    → report_in_line line ≡ None
    → denied_in_line line ≡ None
    → IsLastLine line start play
plain-line start play entry line last unfinished sent refused report denied =
    let none = no_decision (last_decision start play)
    (last_decision-Some start play entry last ∙ unfinished) in
    record {
      sent = sent ∙ sym (last_byte_sent-Some (trace start play) entry last);
      refused = refused ∙ sym (last_rule-Some (trace start play) entry last);
      report = report ∙ sym (undecided-report start play none);
      denied = denied ∙ sym (undecided-denial start play none);
    }

-- and of one that is not kept
pub no-line :
    (start : Start) (play : Play) → is_silent start play ≡ true → IsLastLine None start play
no-line start play silent =
    let parts = silent-parts start play silent in
    record {
      sent = sym parts.0;
      refused = sym parts.1;
      report = sym (undecided-report start play parts.2);
      denied = sym (undecided-denial start play parts.2);
    }
