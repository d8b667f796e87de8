-- A waveform is read as the steps that it was written of.
use Rattle.std.specs.Prelude.{◌≡◌, ◌<◌, ◌^◌, ℕ, List, [], ◌∷◌, length, map, Option, Some, IfSome, slice_index}
use Rattle.trace_files.specs.{declared.sample.Sample.Sample, LineReadBack.IsPrintable, Wire.wires, WireValue.wire_value, WaveText.{shown_after, wave_file}, WaveReader.{WavePoint, points_of, values_at}}

-- the values that a step has on the wires
abbrev pub values_of : Sample → List (Option ℕ)
values_of sample = map (λ wire. wire_value wire sample) wires

-- at the time of each step a reader finds its fields, and EXEC and the state before it
abbrev pub ShowSteps : List WavePoint → List Sample → Type 0
ShowSteps points [] = Unit {0}
ShowSteps points (sample ∷ before) =
    (values_at (length before) points ≡ values_of (shown_after before sample))
    × ShowSteps points before

-- and at the time after the last step EXEC and the state as they are then
abbrev pub ShowEnd : List WavePoint → List Sample → Type 0
ShowEnd points [] = Unit {0}
ShowEnd points (sample ∷ before) =
    values_at (length (sample ∷ before)) points ≡ values_of sample

pub record WaveReadsBack (samples : List Sample) : Type 0 where
  pub points : List WavePoint
  pub read : points_of (wave_file samples) ≡ Some points
  pub steps : ShowSteps points samples
  pub end : ShowEnd points samples

-- its line is printable, its registers and pins are words, and what it sent and received are bytes
pub record IsShowable (sample : Sample) : Type 0 where
  pub line : IsPrintable sample.line
  pub registers : (number : ℕ) → slice_index sample.state.registers number < 2 ^ 16
  pub pins : sample.ports.pins < 2 ^ 16
  pub sent : IfSome sample.ports.sent (λ byte. byte < 2 ^ 8)
  pub received : IfSome sample.ports.received (λ byte. byte < 2 ^ 8)

abbrev pub AreShowable : List Sample → Type 0
AreShowable [] = Unit {0}
AreShowable (sample ∷ before) = IsShowable sample × AreShowable before

abbrev pub WavesReadBack : Type 0
WavesReadBack =
    (samples : List Sample) → AreShowable samples → length samples < 2 ^ 32
    → WaveReadsBack samples
