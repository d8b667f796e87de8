use Rattle.trace_files.specs.declared.sample.Sample.{Sample}
use Rattle.device_play.proofs.WaveStep.{told_sample}
use Rattle.device_play.proofs.wave_sample.last_wave_sample.Goals as goal

pub returns : goal.returns
returns g c = λ start play stands.
    let sample : Sample = record {
      line = c.last_trace_line.result;
      ports = c.last_ports.result;
      state = c.state.result;
    } in
    told_sample start play sample
    (c.last_trace_line.ensures.line start play stands)
    (c.last_ports.ensures start play stands)
    (c.state.ensures start play stands)
