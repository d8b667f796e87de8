use Rattle.std.proofs.Common.{◌++◌, ap}
use Rattle.device_types.specs.Address.{Bytes}
use Rattle.device_trace.specs.Text.{play_text}
use Rattle.device_play.specs.Accounts.{end_line_of}
use Rattle.device_cli.proofs.RoundLines.{device-lines}
use Rattle.device_cli.proofs.law.round_is_play_with_verdicts.Goals as goal

pub returns : goal.returns
unfolding play_text
returns c = λ judge start play.
    ap (λ (text : Bytes). text ++ end_line_of start play) (device-lines judge start play)
