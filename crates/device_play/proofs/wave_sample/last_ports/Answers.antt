use Rattle.std.proofs.Common.{ℕ, Option, ap}
use Rattle.trace_files.specs.declared.ports.Ports.{Ports}
use Rattle.device_play.proofs.WaveStep.{told_ports}
use Rattle.device_play.proofs.wave_sample.last_ports.Goals as goal

pub returns : goal.returns
returns g c = λ start play stands.
    let bytes = c.serial_bytes-sent in
    let ports : Ports = record {
      pins = c.pins.result;
      sent = bytes.result.0;
      received = bytes.result.1;
    } in
    told_ports start play c.entry.result.now ports
    (c.entry.ensures.last start play stands)
    (c.pins.ensures start play stands)
    (ap (λ (two : Option ℕ × Option ℕ). two.0) bytes.ensures)
    (ap (λ (two : Option ℕ × Option ℕ). two.1) bytes.ensures)
