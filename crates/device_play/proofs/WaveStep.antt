-- What a device tells of its last step is what a waveform shows of it.
use Rattle.std.proofs.Common.{◌≡◌, [], ◌∷◌, ℕ, suc, List, Some, Result, refl, sym, ap, subst, length, ◌∙◌}
use Rattle.device_types.specs.{declared.{bus_record.BusRecord.BusRecord, event.Event.Event}}
use Rattle.outside_edge.specs.Sink.{Puts}
use Rattle.part_definitions.specs.Pins.{pins_word}
use Rattle.device_trace.specs.{Logs.{with_events, with_record}, Trace.{Play, last_record, logs_after, trace}, Start.Start, Step.next_record, Text.byte_sent_in}
use Rattle.trace_files.specs.{declared.{ports.Ports.Ports, sample.Sample.Sample}, WaveText.{last_shown, shown_after, step_text}, TraceText.{last_line, next_line}, WaveSamples.{byte_received_in, last_ports, last_sample, next_ports, next_sample, play_state, wave_samples}}
use Rattle.device_play.specs.Accounts.{change_text}

-- a step leaves the pins as its events set them
pub told_ports : (start : Start) (play : Play) (entry : BusRecord) (ports : Ports)
    → last_record (trace start play) ≡ Some entry
    → ports.pins ≡ pins_word (logs_after start play).peripherals.pins
    → ports.sent ≡ byte_sent_in entry
    → ports.received ≡ byte_received_in entry
    → last_ports start play ≡ Some ports
unfolding trace logs_after with_record with_events
told_ports start [] entry ports same_entry pins sent received = absurd (cc same_entry)
told_ports start (events ∷ play) entry ports same_entry pins sent received =
    let is_entry : next_record start (logs_after start play) events ≡ entry = cc same_entry in
    let is_sent = ap byte_sent_in is_entry ∙ sym sent in
    let is_received = ap byte_received_in is_entry ∙ sym received in
    λ i. Some (record { pins = sym pins i; sent = is_sent i; received = is_received i })

pub told_sample : (start : Start) (play : Play) (sample : Sample)
    → last_line start play ≡ Some sample.line
    → last_ports start play ≡ Some sample.ports
    → sample.state ≡ play_state start play
    → last_sample start play ≡ Some sample
told_sample start [] sample line ports state = absurd (cc line)
told_sample start (events ∷ play) sample line ports state =
    let is_line : next_line start (logs_after start play) events ≡ sample.line = cc line in
    let is_ports : next_ports start (logs_after start play) events ≡ sample.ports = cc ports in
    λ i. Some (record { line = is_line i; ports = is_ports i; state = sym state i })

pub sample-is : (start : Start) (events : List Event) (play : Play) (sample : Sample)
    → last_sample start (events ∷ play) ≡ Some sample
    → next_sample start events play ≡ sample
sample-is start events play sample is = cc is

pub length-samples : (start : Start) (play : Play)
    → length (wave_samples start play) ≡ length play
unfolding wave_samples
length-samples start [] = refl
length-samples start (events ∷ play) = ap suc (length-samples start play)

pub samples-more : (start : Start) (events : List Event) (play : Play) (sample : Sample)
    → next_sample start events play ≡ sample
    → wave_samples start (events ∷ play) ≡ sample ∷ wave_samples start play
unfolding wave_samples
samples-more start events play sample is =
    ap (λ (next : Sample). next ∷ wave_samples start play) is

pub puts-changes :
    {S V E : Type 0} {stands : S → List ℕ → Type 0} {old new : S} {result : Result V E}
    (start : Start) (events : List Event) (play : Play) (sample : Sample)
    → next_sample start events play ≡ sample
    → Puts stands old new
    (step_text (length (wave_samples start play)) (last_shown (wave_samples start play))
    (shown_after (wave_samples start play) sample)) result
    → Puts stands old new (change_text start events play) result
puts-changes {stands} {old} {new} {result} start events play sample is puts =
    let samples : List Sample = wave_samples start play in
    subst (λ text. Puts stands old new text result)
    (ap (λ (next : Sample). step_text (length samples) (last_shown samples)
    (shown_after samples next)) (sym is))
    puts
