-- The text of a play is the same without the key.
use Rattle.std.{proofs.{Common.{◌≡◌, ℕ, zero, suc, ◌+◌, ◌-◌, ◌<◌, ◌≤◌, false, List, [], ◌∷◌, ◌++◌, length, Option, Some, None, inl, inr, refl, ap, sym, ◌∙◌, arith, lit≤}, lemmas.Bool.Decides.nat_tests}, specs.Prelude.{◌==◌, if◌then◌else◌}}
use Rattle.device_types.{specs.{declared.{bounds.Bounds.Bounds, bus_record.BusRecord.BusRecord, version.Version.TheVariants.Two}, Bounds.are_valid, Map.metadata_region, Report.ReportFields}, proofs.ValidRange.{IsValidRange, are_valid-ranges}}
use Rattle.part_definitions.specs.{Memory.bytes_from, Metadata.little_endian, Region.output_bytes, Request.ATTESTS}
use Rattle.printed_lines.specs.Line.{end_line, sent_line, reset_line, report_line, denied_line}
use Rattle.device_trace.specs.{Trace.{Play, next_logs, logs_after}, Blank.{is_secret, SameOutside, blank_record}, Logs.{Logs, logged_byte, logged_bounds}, Start.Start, Step.next_record, Text.{reported_output, report_of, report_where, denial_in, some_line, step_lines, lines_of, end_line_after, play_text}}
use Rattle.trace_facts.proofs.SoundPlay.{logs_after-sound}
use Rattle.key_isolation.proofs.{Bytes.same_if, FlagBlank.exec-blank, Hiding.{open_start, hide, next_pc_of-hide, flags_of-hide, logged_byte-hide, logged_bounds-hide}, Induction.{play_hides, releases_before}, LogsBlank.{step_hides, byte_sent_by-blank}}

-- bytes of a range with no secret
bytes_from-outside : (left right : ℕ → ℕ) → SameOutside left right → (place count : ℕ)
    → ((p : ℕ) → place ≤ p → p < place + count → is_secret p ≡ false)
    → bytes_from left place count ≡ bytes_from right place count
bytes_from-outside left right same place zero off = refl
bytes_from-outside left right same place (suc count) off =
    let rest = bytes_from-outside left right same (place + 1) count
    (λ p low high. off p (omega (arith, low)) (omega (arith, high))) in
    λ i. same place (off place (omega arith) (omega arith)) i ∷ rest i

ram_open : (place : ℕ) → 0x200 ≤ place → place ≤ 0x21FF → is_secret place ≡ false
ram_open place low high = grind (arith, nat_tests)

program_open : (place : ℕ) → 0xC000 ≤ place → place ≤ 0xFFDF → is_secret place ≡ false
program_open place low high = grind (arith, nat_tests)

pub ram_bytes : (left right : ℕ → ℕ) → SameOutside left right → (place count : ℕ)
    → 0x200 ≤ place → place + count ≤ 0x2200
    → bytes_from left place count ≡ bytes_from right place count
ram_bytes left right same place count low high =
    bytes_from-outside left right same place count
    (λ p above below. ram_open p (omega (arith, low, above)) (omega (arith, high, below)))

program_bytes : (left right : ℕ → ℕ) → SameOutside left right → (place count : ℕ)
    → 0xC000 ≤ place → place + count ≤ 0xFFE0
    → bytes_from left place count ≡ bytes_from right place count
program_bytes left right same place count low high =
    bytes_from-outside left right same place count
    (λ p above below. program_open p (omega (arith, low, above)) (omega (arith, high, below)))

pub valid_bytes : (left right : ℕ → ℕ) → SameOutside left right → (first last : ℕ)
    → IsValidRange metadata_region first last
    → bytes_from left first (last + 2 - first) ≡ bytes_from right first (last + 2 - first)
valid_bytes left right same first last range =
    let in_order : first ≤ last = range.ordered in
    elim range.place [
      | inl ram ↦
          let low : 0x200 ≤ first = ram.0 in
          let high : last + 1 ≤ 0x21FF = ram.1 in
          ram_bytes left right same first (last + 2 - first) low (omega arith)
      | inr program ↦
          let low : 0xC000 ≤ first = program.0 in
          let high : last + 1 ≤ 0xFFDF = program.1 in
          program_bytes left right same first (last + 2 - first) low (omega arith)
    ]

output-outside : (left right : ℕ → ℕ) → SameOutside left right → (bounds : Bounds)
    → reported_output left bounds ≡ reported_output right bounds
output-outside left right same bounds =
    same_if (are_valid bounds) (Some (output_bytes left bounds))
    (Some (output_bytes right bounds)) None None
    (λ valid.
    ap (λ (bytes : List ℕ). Some bytes)
    (valid_bytes left right same bounds.or_min bounds.or_max
    (are_valid-ranges metadata_region bounds valid).output))
    (λ invalid. refl)

-- the report
report_of-hide : (start : Start) (free : List ℕ) (logs : Logs) (step : ℕ)
    → report_of (open_start free start) (hide logs) step ≡ report_of start logs step
report_of-hide start free logs step =
    let left : ℕ → ℕ = logged_byte (open_start free start) (hide logs) in
    let right : ℕ → ℕ = logged_byte start logs in
    let same : SameOutside left right = logged_byte-hide start free logs in
    λ i. record {
      version = Two;
      step = step;
      exec = exec-blank logs.records i;
      aux = (flags_of-hide start free logs i).aux;
      count = little_endian (ram_bytes left right same 0x26C 4 (lit≤ tt) (lit≤ tt) i);
      chal = ram_bytes left right same 0x240 32 (lit≤ tt) (lit≤ tt) i;
      bounds = logged_bounds-hide start free logs i;
      output =
          (ap (reported_output left) (logged_bounds-hide start free logs)
          ∙ output-outside left right same (logged_bounds start logs)) i;
      mac = ram_bytes left right same 0x200 32 (lit≤ tt) (lit≤ tt) i;
    }

pub report_where-hide : (start : Start) (free : List ℕ) (logs : Logs) (step : ℕ)
    (decision : Option ℕ)
    → report_where (open_start free start) (hide logs) step decision
    ≡ report_where start logs step decision
report_where-hide start free logs step None = refl
report_where-hide start free logs step (Some decision) =
    ap (λ (report : ReportFields). if decision == ATTESTS then Some report else None)
    (report_of-hide start free logs step)

-- the lines of a step
step_lines-hide : (start : Start) (free : List ℕ) (step : ℕ) (entry : BusRecord) (logs : Logs)
    → step_lines (open_start free start) step (blank_record entry) (hide logs)
    ≡ step_lines start step entry logs
step_lines-hide start free step entry logs =
    λ i. some_line (sent_line step) (byte_sent_by-blank entry.reset entry.cpu i)
    ++ some_line (reset_line step) entry.reset
    ++ some_line report_line (report_where-hide start free logs step logs.decision i)
    ++ some_line (denied_line step) (denial_in logs)

pub end_line_after-hide :
    (steps : ℕ) (logs : Logs) → end_line_after steps (hide logs) ≡ end_line_after steps logs
end_line_after-hide steps logs =
    λ i. end_line steps (next_pc_of-hide logs.progress i) (exec-blank logs.records i)

pub lines_of-hide : (start : Start) (free : List ℕ) (play : Play) (more : List ℕ)
    → free ≡ (logs_after start play).released_words ++ more
    → lines_of start play ≡ lines_of (open_start free start) play
unfolding lines_of logs_after
lines_of-hide start free [] more split = refl
lines_of-hide start free (events ∷ play) more split =
    let logs : Logs = logs_after start play in
    let opened : Start = open_start free start in
    let entry : BusRecord = next_record start logs events in
    let rest = releases_before start free more logs events split in
    let before = play_hides start free play rest.0 rest.1 in
    let after = play_hides start free (events ∷ play) more split in
    let step = step_hides start free more logs events (logs_after-sound start play) split in
    let same : blank_record entry ≡ next_record opened (logs_after opened play) events =
    sym step.entry ∙ ap (λ (ls : Logs). next_record opened ls events) before.logs in
    let lines = sym (step_lines-hide start free (length play) entry (next_logs start logs events))
    ∙ (λ i. step_lines opened (length play) (same i) (after.logs i)) in
    λ i. lines_of-hide start free play rest.0 rest.1 i ++ lines i

pub play_text-hide : (start : Start) (free : List ℕ) (play : Play) (more : List ℕ)
    → free ≡ (logs_after start play).released_words ++ more
    → play_text start play ≡ play_text (open_start free start) play
unfolding play_text
play_text-hide start free play more split =
    let end = sym (end_line_after-hide (length play) (logs_after start play))
    ∙ ap (end_line_after (length play)) (play_hides start free play more split).logs in
    λ i. lines_of-hide start free play more split i ++ end i
