-- A waveform is read as the steps that it was written of.
use Rattle.std.{proofs.{Common.{◌≡◌, ◌∙◌, ◌^◌, ◌<◌, ℕ, Bool, List, [], ◌++◌, Some, None, append-nil, append_assoc, length, take, drop, refl, sym, ap}, Math.Seq.{drop-append_seam, take-append_seam}, lemmas.Slice.Eq.bytes_eq-Decides}, specs.{Prelude.if◌then◌else◌, Str.{bytes_eq, Lines.lines}}}
use Rattle.trace_files.{specs.{declared.sample.Sample.Sample, WaveText.{end_text, header, steps_text}, WaveReader.{points_after, points_of}, WaveReadBack.{AreShowable, WavesReadBack}}, proofs.{Reading.reads_both, Steps.{all_points, points_for, reads_ends, reads_steps, shows_end, shows_steps}}}
use Rattle.trace_files.proofs.wave_law.wave_reads_back.Goals as goal

-- a text that begins as it should is read from there on
cut : (head rest : List ℕ)
    → (if bytes_eq (take (length head) (head ++ rest)) head
    then points_after [] (lines (drop (length head) (head ++ rest)))
    else None)
    ≡ points_after [] (lines rest)
cut head rest =
    ap
    (λ (front : List ℕ). if bytes_eq front head
    then points_after [] (lines (drop (length head) (head ++ rest)))
    else None)
    (take-append_seam head rest)
    ∙ ap
    (λ (back : List ℕ). if bytes_eq head head then points_after [] (lines back) else None)
    (drop-append_seam head rest)
    ∙ ap (λ (same : Bool). if same then points_after [] (lines rest) else None)
    ((bytes_eq-Decides head head).1 refl)

reads-whole : (samples : List Sample) → AreShowable samples → length samples < 2 ^ 32
    → points_after [] (lines (steps_text samples ++ end_text samples)) ≡ Some (all_points samples)
unfolding points_after
reads-whole samples showable few =
    let text : List ℕ = steps_text samples ++ end_text samples in
    ap (λ (told : List ℕ). points_after [] (lines told)) (sym (append-nil text))
    ∙ reads_both (steps_text samples) (end_text samples) [] (points_for samples)
    (all_points samples) (reads_steps samples showable few) (reads_ends samples showable few) []

waves_read_back : WavesReadBack
waves_read_back samples showable few = record {
  points = all_points samples;
  read = ap (λ (text : List ℕ). points_of text)
      (append_assoc header (steps_text samples) (end_text samples))
      ∙ cut header (steps_text samples ++ end_text samples)
      ∙ reads-whole samples showable few;
  steps = shows_steps samples;
  end = shows_end samples;
}

pub returns : goal.returns
returns c = waves_read_back
