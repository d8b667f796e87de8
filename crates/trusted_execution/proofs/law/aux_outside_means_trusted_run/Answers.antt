use Rattle.device_trace.specs.RegionRun.{TrustedInterrupts}
use Rattle.proof_of_execution.proofs.Plays.{outside-run}
use Rattle.trusted_execution.proofs.law.aux_outside_means_trusted_run.Goals as goal

pub returns : goal.returns
returns c = outside-run TrustedInterrupts
