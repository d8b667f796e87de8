use Rattle.std.proofs.Common.{◌∙◌}
use Rattle.device_cli.specs.Round.{round_row_with}
use Rattle.device_cli.proofs.command.round.RoundTask.from_arguments.Goals as goal

pub returns : goal.returns
returns c = c.with_all.ensures ∙ c.split_all-all.ensures round_row_with
