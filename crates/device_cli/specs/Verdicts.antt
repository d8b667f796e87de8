-- The verdicts on reports in their order.
use Rattle.std.specs.{Prelude.{◌+◌, ◌++◌, ◌&&◌, ℕ, Bool, true, false, List, [], ◌∷◌, ◌≡◌, ◌==◌, length, if◌then◌else◌}, List.prefix_len}
use Rattle.device_types.specs.Report.{ReportFields}
use Rattle.report_text.specs.VerdictLine.{verdict_line}
use Rattle.report_verifier.specs.{declared.verdict.Verdict.{Verdict, TheVariants.Accept}, Judge.{Judge, verdict_at}}
use Rattle.device_cli.specs.declared.verdict.tally.Tally.{Tally}

-- of which the first is expected to answer this request, counted from 0
abbrev pub verdicts_from : Judge → ℕ → List ReportFields → List Verdict
verdicts_from judge i [] = []
verdicts_from judge i (report ∷ reports) =
    verdict_at judge i report ∷ verdicts_from judge (i + 1) reports

-- report i is expected to answer request i
abbrev pub verdicts : Judge → List ReportFields → List Verdict
verdicts judge reports = verdicts_from judge 0 reports

-- their lines, of which the first has this number
abbrev pub lines_from : ℕ → List Verdict → List ℕ
lines_from number [] = []
lines_from number (decision ∷ decisions) =
    verdict_line number decision ++ lines_from (number + 1) decisions

abbrev pub is_accept : Verdict → Bool
is_accept Accept = true
is_accept decision = false

abbrev pub all_accept : List Verdict → Bool
all_accept [] = true
all_accept (decision ∷ decisions) = is_accept decision && all_accept decisions

-- A tally of verdicts.

-- how many verdicts there are, and how many of them stand before the first that is not `accept`
pub record Counts (decisions : List Verdict) (tally : Tally) : Type 0 where
  pub verdicts : tally.verdicts ≡ length decisions
  pub leading_accepts : tally.leading_accepts ≡ prefix_len is_accept decisions

-- with one more
abbrev pub tally_with : Tally → Verdict → Tally
tally_with tally decision =
    record {
      verdicts = tally.verdicts + 1;
      leading_accepts =
          if (tally.leading_accepts == tally.verdicts) && is_accept decision
          then tally.leading_accepts + 1
          else tally.leading_accepts;
    }
