-- What a reader has after the steps of a waveform.
use Rattle.std.{proofs.{Common.{suc, ◌≡◌, ◌∙◌, ℕ, ◌^◌, ◌<◌, ◌≤◌, Bool, true, false, List, [], ◌∷◌, ◌++◌, map, Option, Some, None, length, eqb-true, le-leb, refl, sym, ap, subst, true≢false, ⊎_elim, arith}, lemmas.{Bool.{cases_lt, false≢true, lt-leb, not-false, or_parts}, List.{get_or-replicate, get_or_past}}}, specs.{Prelude.{codes, replicate, slice_index, if◌then◌else◌}, List.list_any}}
use Rattle.trace_files.{specs.{declared.{sample.Sample.Sample, wire.Wire.Wire}, Wire.wires, WireValue.{is_same_value, wire_value}, WaveText.{changes_text, dump_text, end_text, is_any_told, is_told, last_shown, shown_after, state_after, step_text, steps_text, time_text, told_text, wires_text}, WaveReader.{WavePoint, last_values, values_at}, WaveReadBack.{AreShowable, IsShowable, ShowEnd, ShowSteps, values_of}}, proofs.{Fitting.suits, Reading.{Reads, point_at, reads_both, reads_dumpvars, reads_end, reads_nothing, reads_time}, Stages.numbered_wires, Changes.reads_changes}}

-- the values of a time

same-value : (left right : Option ℕ) → is_same_value left right ≡ true → left ≡ right
same-value None None is = refl
same-value (Some left) (Some right) is = ap Some (eqb-true left right is)
same-value None (Some right) is = absurd (false≢true is)
same-value (Some left) None is = absurd (false≢true is)

-- what the wires showed before
abbrev old_value : Option Sample → Wire → Option ℕ
old_value None wire = None
old_value (Some last) wire = wire_value wire last

untold : (last : Option Sample) (now : Sample) (wire : Wire) → is_told last now wire ≡ false
    → old_value last wire ≡ wire_value wire now
untold None now wire is = absurd (true≢false is)
untold (Some last) now wire is =
    same-value (wire_value wire last) (wire_value wire now)
    (not-false (is_same_value (wire_value wire last) (wire_value wire now)) is)

abbrev point_of : ℕ → Sample → WavePoint
point_of step sample = record { time = step; values = values_of sample }

reads-values : (step : ℕ) (last : Option Sample) (now : Sample) (points : List WavePoint)
    → IsShowable now → last_values points ≡ map (old_value last) wires
    → Reads (changes_text last now) (point_at step points ∷ points) (point_of step now ∷ points)
unfolding wires_text
reads-values step last now points showable is =
    subst
    (λ (values : List (Option ℕ)). Reads (changes_text last now)
    (record { time = step; values = values } ∷ points) (point_of step now ∷ points))
    (sym is)
    (reads_changes (is_told last now) (old_value last) (λ wire. wire_value wire now)
    (record { suits = suits now showable; untold = untold last now })
    step points wires 65 101 numbered_wires refl)

reads-told : (step : ℕ) (last : Option Sample) (now : Sample) (points : List WavePoint)
    → step < 2 ^ 32 → IsShowable now → last_values points ≡ map (old_value last) wires
    → Reads (told_text step last now) points (point_of step now ∷ points)
reads-told step last now points small showable is =
    reads_both (time_text step) (changes_text last now) points (point_at step points ∷ points)
    (point_of step now ∷ points) (reads_time step points small)
    (reads-values step last now points showable is)

reads-dump : (step : ℕ) (now : Sample) (points : List WavePoint)
    → IsShowable now → last_values points ≡ map (old_value None) wires
    → Reads (dump_text now) (point_at step points ∷ points) (point_of step now ∷ points)
reads-dump step now points showable is =
    let begun : List WavePoint = point_at step points ∷ points in
    let done : List WavePoint = point_of step now ∷ points in
    reads_both (codes "$dumpvars\n") (changes_text None now ++ codes "$end\n") begun begun done
    (reads_dumpvars begun)
    (reads_both (changes_text None now) (codes "$end\n") begun done done
    (reads-values step None now points showable is) (reads_end done))

-- the points of steps

-- a point where a step tells something
abbrev added : Bool → WavePoint → List WavePoint → List WavePoint
added true point points = point ∷ points
added false point points = points

abbrev tells : Option Sample → Sample → Bool
tells None now = true
tells (Some last) now = is_any_told (Some last) now wires

abbrev points_with : List Sample → Sample → List WavePoint → List WavePoint
points_with before sample points =
    let now : Sample = shown_after before sample in
    added (tells (last_shown before) now) (point_of (length before) now) points

pub points_for : List Sample → List WavePoint
points_for [] = []
points_for (sample ∷ before) = points_with before sample (points_for before)

reads-step : (step : ℕ) (last : Option Sample) (now : Sample) (points : List WavePoint)
    → step < 2 ^ 32 → IsShowable now → last_values points ≡ map (old_value last) wires
    → Reads (step_text step last now) points (added (tells last now) (point_of step now) points)
reads-step step None now points small showable is =
    reads_both (time_text step) (dump_text now) points (point_at step points ∷ points)
    (point_of step now ∷ points) (reads_time step points small)
    (reads-dump step now points showable is)
reads-step step (Some last) now points small showable is =
    by (is_any_told (Some last) now wires)
  where
    by : (some : Bool)
        → Reads (if some then told_text step (Some last) now else []) points
        (added some (point_of step now) points)
    by true = reads-told step (Some last) now points small showable is
    by false = reads_nothing points

-- a step that tells nothing shows what was shown before

none-told : (told : Wire → Bool) (old new : Wire → Option ℕ)
    → ((wire : Wire) → told wire ≡ false → old wire ≡ new wire)
    → (ws : List Wire) → list_any told ws ≡ false → map old ws ≡ map new ws
none-told told old new same [] is = refl
none-told told old new same (wire ∷ ws) is =
    let both = or_parts (told wire) (list_any told ws) is in
    ap (λ (value : Option ℕ). value ∷ map old ws) (same wire both.0)
    ∙ ap (λ (values : List (Option ℕ)). new wire ∷ values) (none-told told old new same ws both.1)

quiet : (last : Option Sample) (now : Sample) → tells last now ≡ false
    → map (old_value last) wires ≡ values_of now
unfolding is_any_told
quiet None now is = absurd (true≢false is)
quiet (Some last) now is =
    none-told (is_told (Some last) now) (old_value (Some last)) (λ wire. wire_value wire now)
    (untold (Some last) now) wires is

last-added : (some : Bool) (point : WavePoint) (points : List WavePoint)
    → (some ≡ false → last_values points ≡ point.values)
    → last_values (added some point points) ≡ point.values
last-added true point points same = refl
last-added false point points same = same refl

last_is : (samples : List Sample)
    → last_values (points_for samples) ≡ map (old_value (last_shown samples)) wires
unfolding points_for
last_is [] = refl
last_is (sample ∷ before) =
    let now : Sample = shown_after before sample in
    last-added (tells (last_shown before) now) (point_of (length before) now) (points_for before)
    (λ none. last_is before ∙ quiet (last_shown before) now none)

-- what a reader has read

clear-words : (number : ℕ) → slice_index (replicate 16 0) number < 2 ^ 16
clear-words number =
    ⊎_elim
    (λ within. omega (arith, get_or-replicate {A = ℕ} 16 number 0 0 within))
    (λ past. omega (arith, get_or_past {X = ℕ} (replicate 16 0) number 0 past))
    (cases_lt number 16)

registers-showable : (before : List Sample) → AreShowable before
    → (number : ℕ) → slice_index (state_after before).registers number < 2 ^ 16
registers-showable [] showable = clear-words
registers-showable (sample ∷ before) showable = showable.0.registers

shown-showable : (before : List Sample) (sample : Sample) → AreShowable before
    → IsShowable sample → IsShowable (shown_after before sample)
shown-showable before sample earlier showable = record {
  line = record {
    pc = showable.line.pc;
    cpu = showable.line.cpu;
    dma = showable.line.dma;
    word = showable.line.word;
    value = showable.line.value;
    dma_value = showable.line.dma_value;
    bounds = showable.line.bounds;
  };
  registers = registers-showable before earlier;
  pins = showable.pins;
  sent = showable.sent;
  received = showable.received;
}

pub reads_steps : (samples : List Sample) → AreShowable samples → length samples < 2 ^ 32
    → Reads (steps_text samples) [] (points_for samples)
unfolding steps_text points_for
reads_steps [] showable few = reads_nothing []
reads_steps (sample ∷ before) showable few =
    reads_both (steps_text before)
    (step_text (length before) (last_shown before) (shown_after before sample)) []
    (points_for before) (points_for (sample ∷ before))
    (reads_steps before showable.1 (omega (arith, few)))
    (reads-step (length before) (last_shown before) (shown_after before sample) (points_for before)
    (omega (arith, few)) (shown-showable before sample showable.1 showable.0) (last_is before))

pub all_points : List Sample → List WavePoint
all_points [] = []
all_points (sample ∷ before) =
    point_of (length (sample ∷ before)) sample ∷ points_for (sample ∷ before)

pub reads_ends : (samples : List Sample) → AreShowable samples → length samples < 2 ^ 32
    → Reads (end_text samples) (points_for samples) (all_points samples)
unfolding points_for all_points
reads_ends [] showable few = reads_nothing []
reads_ends (sample ∷ before) showable few =
    reads-told (length (sample ∷ before)) (Some (shown_after before sample)) sample
    (points_for (sample ∷ before)) few showable.0 (last_is (sample ∷ before))

-- what it finds there

abbrev IsBy : ℕ → List WavePoint → Type 0
IsBy time [] = Unit {0}
IsBy time (point ∷ earlier) = point.time ≤ time

by-later : (time : ℕ) (points : List WavePoint) → IsBy time points → IsBy (suc time) points
by-later time [] is = tt
by-later time (point ∷ earlier) is = omega (arith, is)

by-added : (some : Bool) (point : WavePoint) (points : List WavePoint) (time : ℕ)
    → point.time ≤ time → IsBy time points → IsBy time (added some point points)
by-added true point points time now is = now
by-added false point points time now is = is

by_now : (sample : Sample) (before : List Sample) → IsBy (length before) (points_for before)
    → IsBy (length before) (points_for (sample ∷ before))
unfolding points_for
by_now sample before is =
    let now : Sample = shown_after before sample in
    by-added (tells (last_shown before) now) (point_of (length before) now) (points_for before)
    (length before) (omega arith) is

by-points : (samples : List Sample) → IsBy (length samples) (points_for samples)
unfolding points_for
by-points [] = tt
by-points (sample ∷ before) =
    by-later (length before) (points_for (sample ∷ before))
    (by_now sample before (by-points before))

at-last : (time : ℕ) (points : List WavePoint) → IsBy time points
    → values_at time points ≡ last_values points
at-last time [] is = refl
at-last time (point ∷ earlier) is =
    ap (λ (by : Bool). if by then point.values else values_at time earlier)
    (le-leb point.time time is)

shows-more : (point : WavePoint) (points : List WavePoint) (samples : List Sample)
    → length samples ≤ point.time → ShowSteps points samples → ShowSteps (point ∷ points) samples
shows-more point points [] later shows = tt
shows-more point points (sample ∷ before) later shows = (
  ap (λ (by : Bool). if by then point.values else values_at (length before) points)
      (lt-leb point.time (length before) (omega (arith, later)))
      ∙ shows.0,
  shows-more point points before (omega (arith, later)) shows.1,
)

shows-added : (some : Bool) (point : WavePoint) (points : List WavePoint)
    (samples : List Sample)
    → length samples ≤ point.time → ShowSteps points samples
    → ShowSteps (added some point points) samples
shows-added true point points samples later shows = shows-more point points samples later shows
shows-added false point points samples later shows = shows

shows-points : (samples : List Sample) → ShowSteps (points_for samples) samples
unfolding points_for
shows-points [] = tt
shows-points (sample ∷ before) =
    let now : Sample = shown_after before sample in (
      at-last (length before) (points_for (sample ∷ before))
          (by_now sample before (by-points before))
          ∙ last_is (sample ∷ before),
      shows-added (tells (last_shown before) now) (point_of (length before) now)
          (points_for before) before (omega arith) (shows-points before),
    )

pub shows_steps : (samples : List Sample) → ShowSteps (all_points samples) samples
unfolding all_points
shows_steps [] = tt
shows_steps (sample ∷ before) =
    shows-more (point_of (length (sample ∷ before)) sample) (points_for (sample ∷ before))
    (sample ∷ before) (omega arith) (shows-points (sample ∷ before))

pub shows_end : (samples : List Sample) → ShowEnd (all_points samples) samples
unfolding all_points
shows_end [] = tt
shows_end (sample ∷ before) =
    let points : List WavePoint = points_for (sample ∷ before) in
    at-last (length (sample ∷ before)) (point_of (length (sample ∷ before)) sample ∷ points)
    (omega arith)
