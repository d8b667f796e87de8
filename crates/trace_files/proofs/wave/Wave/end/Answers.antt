-- What a waveform that stands for steps puts at their end.
use Rattle.std.{proofs.Common.{◌≡◌, [], ◌∷◌, List, Some, refl, ℕ, Option, ◌∙◌, ap, subst, sym}, specs.Prelude.option_copied}
use Rattle.trace_files.specs.{declared.{sample.Sample.Sample, wave.Wave.Wave}, WaveText.{WaveStandsFor, shown_now, end_text, shown_after, told_text}}
use Rattle.outside_edge.specs.Sink.{Puts}
use Rattle.trace_files.proofs.wave.Wave.end.Goals as goal

end_told : (wave : Wave) (samples : List Sample) (last : Sample)
    → WaveStandsFor wave samples → wave.last ≡ Some last
    → end_text samples ≡ told_text wave.steps wave.last (shown_now wave last)
end_told wave [] last stands is = absurd (cc (is, stands.same_last))
end_told wave (sample ∷ before) last stands is =
    let same : last ≡ shown_after before sample = cc (is, stands.same_last) in
    rw (stands.same_steps, stands.same_last, same, stands.same_exec, stands.same_state) refl

pub returns-clause-puts : goal.returns-clause-puts
returns-clause-puts g c = λ samples stands.
    let wave = c.args.self.now in
    let last = c.in-Some.last in
    subst (λ (text : List ℕ). Puts g.W.Sink.stands c.args.sink.now c.print_told.new.sink text
    c.print_told.result)
    (ap (λ (after : Sample). told_text wave.steps (option_copied c.as_ref.result) after)
    c.shown_sample-after.ensures
    ∙ ap (λ (before : Option Sample). told_text wave.steps before (shown_now wave last))
    c.as_ref.ensures.value
    ∙ sym (end_told wave samples last stands c.in-Some.is))
    c.print_told.ensures.puts
