use Rattle.trace_facts.proofs.SoundPlay.{trace-in_call}
use Rattle.trace_facts.proofs.law.rom_runs_in_calls_alone.Goals as goal

pub returns : goal.returns
returns c = trace-in_call
