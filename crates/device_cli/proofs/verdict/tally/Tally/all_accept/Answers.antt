use Rattle.device_cli.proofs.Tallies.{counted-all}
use Rattle.device_cli.proofs.verdict.tally.Tally.all_accept.Goals as goal

pub returns : goal.returns
returns c = λ decisions counts. counted-all decisions c.args.self.now counts
