-- The text of a waveform: a value change dump (IEEE 1364-2005, clause 18) with one unit of time for
-- each bus step.
use Rattle.std.specs.{Prelude.{◌++◌, ◌==◌, ℕ, Bool, true, false, not, List, [], ◌∷◌, length, replicate, Option, Some, None, if◌then◌else◌, codes, ◌≡◌}, Fmt.{decimal, digits}, List.{flat_map, list_any}}
use Rattle.trace_files.specs.{declared.{sample.Sample.Sample, state.State.State, wire.Wire.Wire, wave.Wave.Wave}, Wire.{wires, wire_name, wire_width, wire_code}, WireValue.{wire_value, is_same_value}}

abbrev pub is_bit : Wire → Bool
is_bit wire = wire_width wire == 1

-- the bits of a wire of several
abbrev pub range_text : Wire → List ℕ
range_text wire =
    if is_bit wire then [] else (if wire_width wire == 8 then codes " [7:0]"
    else if wire_width wire == 16 then codes " [15:0]" else codes " [31:0]")

abbrev pub declaration : Wire → List ℕ
declaration wire =
    codes "$var wire " ++ decimal (wire_width wire) ++ 32 ∷ wire_code wire ∷ 32 ∷ wire_name wire
    ++ range_text wire ++ codes " $end\n"

-- a format without a unit of time has none; no step is a nanosecond
unfoldable pub header : List ℕ
header =
    codes "$version foldgneiss $end\n"
    ++ codes "$comment one unit of time is one bus step $end\n"
    ++ codes "$timescale 1 ns $end\n"
    ++ codes "$scope module device $end\n"
    ++ flat_map declaration wires
    ++ codes "$upscope $end\n"
    ++ codes "$enddefinitions $end\n"

-- in binary without leading zeros; `z` where nothing drives the wire
abbrev pub digits_text : Option ℕ → List ℕ
digits_text None = codes "z"
digits_text (Some number) = digits 2 false number

-- the value of a wire from now on
abbrev pub change_text : Wire → Option ℕ → List ℕ
change_text wire value =
    if is_bit wire then digits_text value ++ wire_code wire ∷ codes "\n"
    else codes "b" ++ digits_text value ++ 32 ∷ wire_code wire ∷ codes "\n"

abbrev pub time_text : ℕ → List ℕ
time_text step = codes "#" ++ decimal step ++ codes "\n"

-- whether a wire is told: its value is another than before, or there is no step before
abbrev pub is_told : Option Sample → Sample → Wire → Bool
is_told None now wire = true
is_told (Some last) now wire = not (is_same_value (wire_value wire last) (wire_value wire now))

abbrev pub change_of : Option Sample → Sample → Wire → List ℕ
change_of last now wire =
    if is_told last now wire then change_text wire (wire_value wire now) else []

-- whether one of these wires is told
unfoldable pub is_any_told : Option Sample → Sample → List Wire → Bool
is_any_told last now wires = list_any (is_told last now) wires

-- the values that are told of these wires
unfoldable pub wires_text : Option Sample → Sample → List Wire → List ℕ
wires_text last now wires = flat_map (change_of last now) wires

-- of all
abbrev pub changes_text : Option Sample → Sample → List ℕ
changes_text last now = wires_text last now wires

-- a time, and the values that are told
abbrev pub told_text : ℕ → Option Sample → Sample → List ℕ
told_text step last now = time_text step ++ changes_text last now

-- all values
abbrev pub dump_text : Sample → List ℕ
dump_text now = codes "$dumpvars\n" ++ changes_text None now ++ codes "$end\n"

-- a step without a change says nothing
abbrev pub next_text : ℕ → Sample → Sample → List ℕ
next_text step last now =
    if is_any_told (Some last) now wires then told_text step (Some last) now else []

-- of the step before, if there is one, and this step
abbrev pub step_text : ℕ → Option Sample → Sample → List ℕ
step_text step None now = time_text step ++ dump_text now
step_text step (Some last) now = next_text step last now

-- the EXEC flag after these steps, the newest first
abbrev pub exec_after : List Sample → Bool
exec_after [] = false
exec_after (sample ∷ before) = sample.line.exec

-- and the state; before the first step nothing is set
abbrev pub state_after : List Sample → State
state_after [] = record { registers = replicate 16 0; aux = false; timer_flag = false }
state_after (sample ∷ before) = sample.state

-- a step as it is shown: with EXEC and the state before it, as the bounds are
abbrev pub shown_after : List Sample → Sample → Sample
shown_after before sample =
    record {
      line = record sample.line { exec = exec_after before };
      ports = sample.ports;
      state = state_after before;
    }

abbrev pub last_shown : List Sample → Option Sample
last_shown [] = None
last_shown (sample ∷ before) = Some (shown_after before sample)

-- of steps, the newest first: in their order, numbered from 0
unfoldable pub steps_text : List Sample → List ℕ
steps_text [] = []
steps_text (sample ∷ before) =
    steps_text before
    ++ step_text (length before) (last_shown before) (shown_after before sample)

-- the time after the last step, and what it changed of EXEC and the state
abbrev pub end_text : List Sample → List ℕ
end_text [] = []
end_text (sample ∷ before) =
    told_text (length (sample ∷ before)) (Some (shown_after before sample)) sample

-- the whole waveform of steps, the newest first
abbrev pub wave_file : List Sample → List ℕ
wave_file samples = header ++ steps_text samples ++ end_text samples

-- Which steps a waveform that is being written has told.

-- how many it has told
abbrev pub steps_told : Wave → ℕ
steps_told wave = wave.steps

-- a step with EXEC and the state as they are now
abbrev pub shown_now : Wave → Sample → Sample
shown_now wave sample =
    record {
      line = record sample.line { exec = wave.exec };
      ports = sample.ports;
      state = wave.state;
    }

-- the newest first
pub record WaveStandsFor (wave : Wave) (samples : List Sample) : Type 0 where
  pub same_steps : wave.steps ≡ length samples
  pub same_last : wave.last ≡ last_shown samples
  pub same_exec : wave.exec ≡ exec_after samples
  pub same_state : wave.state ≡ state_after samples
