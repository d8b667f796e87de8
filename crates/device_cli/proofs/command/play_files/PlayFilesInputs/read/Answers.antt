use Rattle.std.proofs.Common.{refl}
use Rattle.input_files.proofs.ReadInTurn.{first-refused}
use Rattle.device_cli.proofs.NamedRead.{named-read}
use Rattle.device_cli.proofs.command.play_files.PlayFilesInputs.read.Goals as goal

pub returns-in_err-values : goal.returns-in_err-values
returns-in_err-values g c = λ onward.
    first-refused _ _ (c.in_err-values.ensures onward) c.from_residual.ensures.1

pub returns : goal.returns
returns g c = λ onward. named-read _ _ (c.in_ok-values.ensures onward) refl
