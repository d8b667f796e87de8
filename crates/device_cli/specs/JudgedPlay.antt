-- What a round says of a play.
use Rattle.device_trace.specs.{Trace.Play, Start.Start}
use Rattle.report_verifier.specs.Judge.{Judge}
use Rattle.device_play.specs.{Account.Account, Accounts.end_line_of}
use Rattle.device_cli.specs.{declared.verdict.tally.Tally.Tally, RoundText.{piece_of_step, piece_text, reports_in, round_cuts, round_lines}, Verdicts.{Counts, verdicts}}

-- the tally of the verdicts on the reports of a play
abbrev pub CountsVerdicts : Judge → Start → Play → Tally → Type 0
CountsVerdicts judge start play tally = Counts (verdicts judge (reports_in start play)) tally

abbrev pub judge_account : Judge → Account Tally
judge_account judge =
    record {
      tallies = CountsVerdicts judge;
      text = round_lines judge;
      step_text = λ start events play. piece_text (piece_of_step judge start events play);
      end_text = end_line_of;
      cuts = round_cuts judge;
    }
