use Rattle.std.proofs.Common.{◌≡◌, ◌+◌, ◌++◌, List, ℕ, take}
use Rattle.outside_edge.specs.Sink.{Takes}
use Rattle.report_verifier.specs.Judge.{judge_of}
use Rattle.device_cli.{specs.Verdicts.{Counts, verdicts, lines_from}, proofs.Tallies.verdicts_ahead}
use Rattle.device_cli.proofs.verdict.verdict_text.print_verdicts.Given as goal

-- the lines so far and those ahead are the whole text, and the verdicts so far are counted
abbrev pub invariant-loop-i : goal.invariant-loop-i
invariant-loop-i g l =
    let judge = judge_of g.D.Digest32.hash.digest_of l.verifier in
    record {
      taken : (before : List ℕ) × Takes g.W.Sink.stands l.fn.sink l.sink before
          × (before ++ lines_from (l.i + 1) (verdicts_ahead judge l.reports l.i)
          ≡ lines_from 1 (verdicts judge l.reports));
      tally : Counts (verdicts judge (take l.i l.reports)) l.tally;
      quiet : g.W.Sink.faults l.sink ≡ g.W.Sink.faults l.fn.sink;
    }
