use Rattle.std.proofs.Common.{append-nil}
use Rattle.trace_files.specs.{WaveText.{header, steps_text}, WaveSamples.wave_samples}
use Rattle.device_play.proofs.GoesOn.{wave-goes_on}
use Rattle.device_play.proofs.wave_watcher.WaveWatcherWatcher.begin.Goals as goal

pub returns-in_err-begin-clause-goes_on : goal.returns-in_err-begin-clause-goes_on
returns-in_err-begin-clause-goes_on g c = λ digest. wave-goes_on

pub returns-clause-goes_on : goal.returns-clause-goes_on
returns-clause-goes_on g c = λ digest. wave-goes_on

pub returns-clause-tally : goal.returns-clause-tally
unfolding wave_samples
returns-clause-tally g c = λ digest start. c.new-wave.ensures.stands

pub returns-clause-puts : goal.returns-clause-puts
unfolding wave_samples steps_text
returns-clause-puts g c = λ digest start. record {
  all = rw (append-nil header) c.in_ok-begin.ensures.puts.all;
  prefix = tt;
}
