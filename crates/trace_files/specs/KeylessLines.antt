-- The lines of a play without its key.
use Rattle.std.specs.Prelude.{◌≡◌, List}
use Rattle.word_arith.specs.Number.{Word16}
use Rattle.device_trace.specs.{Trace.Play, Start.Start}
use Rattle.key_isolation.specs.Keyless.{keyless}
use Rattle.trace_files.specs.{TraceText.trace_lines, WaveSamples.wave_samples}

-- the trace lines of a play, so its trace file, and what its waveform shows are those that it has
-- without the key, where the calls release the same words
pub record IsKeyless (start other : Start) (play : Play) : Type 0 where
  pub lines : trace_lines start play ≡ trace_lines other play
  pub samples : wave_samples start play ≡ wave_samples other play

abbrev pub HasKeylessLines : Start → Play → Type 0
HasKeylessLines start play =
    (more : List Word16) → IsKeyless start (keyless start play more) play
