use Rattle.std.proofs.Common.{◌∷◌, arith}
use Rattle.trace_files.specs.WaveSamples.{wave_samples}
use Rattle.device_play.{specs.Accounts.wave_account, proofs.{SeenStep.{seen-all, seen-failed}, WaveStep.{length-samples, puts-changes, sample-is, samples-more}}}
use Rattle.device_play.proofs.wave_watcher.WaveWatcherWatcher.see.Goals as goal

pub tell-requires : goal.tell-requires
tell-requires g c =
    let (start, events, play, shown) = c.requires.shown in
    omega (
      arith,
      shown.counted.same_steps,
      length-samples start play,
      shown.number,
      c.requires.few,
    )

pub returns-in_err-tell-clause-seen : goal.returns-in_err-tell-clause-seen
returns-in_err-tell-clause-seen g c = λ start events play shown.
    let sample = c.last_wave_sample.result in
    let is = sample-is start events play sample
    (c.last_wave_sample.ensures start (events ∷ play) shown.device) in
    seen-failed {account = wave_account} c.from_residual.result c.from_residual.ensures.1
    (puts-changes start events play sample is
    (c.in_err-tell.ensures.puts (wave_samples start play) shown.counted)).prefix

pub returns-clause-seen : goal.returns-clause-seen
returns-clause-seen g c = λ start events play shown.
    let sample = c.last_wave_sample.result in
    let is = sample-is start events play sample
    (c.last_wave_sample.ensures start (events ∷ play) shown.device) in
    seen-all {account = wave_account}
    (rw (samples-more start events play sample is)
    (c.in_ok-tell.ensures.stands (wave_samples start play) shown.counted))
    (puts-changes start events play sample is
    (c.in_ok-tell.ensures.puts (wave_samples start play) shown.counted)).all
