use Rattle.std.proofs.{Common.{◌∙◌, ◌+◌, ◌++◌, ◌<◌, ◌^◌, [], refl, arith, append-nil, take}, lemmas.{List.length-take-le, Result.err_from_is_err_and}}
use Rattle.outside_edge.proofs.SinkLemmas.{takes_both, prefix_after, prefix_of_more}
use Rattle.report_verifier.specs.Judge.{judge_of}
use Rattle.report_text.specs.VerdictLine.{verdict_line}
use Rattle.device_cli.{specs.Verdicts.{lines_from, verdicts}, proofs.Tallies.{counted-few, counts-more, verdicts_ahead, ahead-next, ahead-end, lines-next, verdicts-all, verdicts-taken}}
use Rattle.device_play.proofs.WriteCounts.{takes-nothing}
use Rattle.device_cli.proofs.verdict.verdict_text.print_verdicts.Goals as goal

pub loop-i-init : goal.loop-i-init
loop-i-init g c = record {
  taken = ([], takes-nothing g.W.Sink.stands c.args.sink.now, refl);
  tally = c.new-tally.ensures;
  quiet = refl;
}

pub loop-i-preserved : goal.loop-i-preserved
loop-i-preserved g c =
    let at = c.loop-i in
    let judge = judge_of g.D.Digest32.hash.digest_of c.args.verifier.now in
    let reports = c.args.reports.now in
    let decision = c.verdict_at-decision.result in
    let line = verdict_line (at.i + 1) decision in
    let next = ahead-next judge reports at.i decision c.verdict_at-decision.ensures in
    let takes = at.invariant.taken in
    record {
      taken = (
        takes.0 ++ line,
        takes_both g.W.Sink.stands c.args.sink.now at.sink c.print_verdict.new.sink takes.0 line
            takes.1 c.in_ok-print_verdict.ensures.puts.all,
        lines-next judge reports at.i decision takes.0 _ next takes.2,
      );
      tally = rw (
        c.with_verdict-tally.ensures,
        verdicts-taken judge reports at.i decision c.verdict_at-decision.ensures,
      ) (counts-more (verdicts judge (take at.i reports)) at.tally decision at.invariant.tally);
      quiet = c.in_ok-print_verdict.ensures.counts.quiet ∙ at.invariant.quiet;
    }

pub returns-in_err-print_verdict-clause-puts : goal.returns-in_err-print_verdict-clause-puts
returns-in_err-print_verdict-clause-puts g c =
    let at = c.loop-i in
    let judge = judge_of g.D.Digest32.hash.digest_of c.args.verifier.now in
    let reports = c.args.reports.now in
    let decision = c.verdict_at-decision.result in
    let line = verdict_line (at.i + 1) decision in
    let rest = lines_from (at.i + 1 + 1) (verdicts_ahead judge reports (at.i + 1)) in
    let next = ahead-next judge reports at.i decision c.verdict_at-decision.ensures in
    let takes = at.invariant.taken in
    let p = err_from_is_err_and c.from_residual.result c.from_residual.ensures.1 in
    rw p.1 (record {
      all = tt;
      prefix = rw (← lines-next judge reports at.i decision takes.0 _ next takes.2)
          (prefix_of_more g.W.Sink.stands c.args.sink.now c.print_verdict.new.sink
          (takes.0 ++ line) rest
          (prefix_after g.W.Sink.stands c.args.sink.now at.sink c.print_verdict.new.sink takes.0
          line takes.1 c.in_err-print_verdict.ensures.puts.prefix));
    })

pub returns-clause-puts : goal.returns-clause-puts
returns-clause-puts g c =
    let at = c.loop-i in
    let none = ahead-end (judge_of g.D.Digest32.hash.digest_of c.args.verifier.now)
    c.args.reports.now at.i (omega (arith, c.loop-i-test.false, c.count_of-i-end.ensures.count)) in
    let takes = at.invariant.taken in
    record {
      all = rw (← (rw (none, append-nil) at takes.2)) takes.1;
      prefix = tt;
    }

pub with_verdict-tally-requires : goal.with_verdict-tally-requires
with_verdict-tally-requires g c =
    let at = c.loop-i in
    let reports = c.args.reports.now in
    let before = c.loop-i-test.true in
    omega (
      arith,
      (counted-few (judge_of g.D.Digest32.hash.digest_of c.args.verifier.now) (take at.i reports)
          at.tally at.invariant.tally).0,
      length-take-le at.i reports (omega (arith, before, c.count_of-i-end.ensures.count)),
      before,
      c.count_of-i-end.ensures.few,
    )

pub returns-clause-few : goal.returns-clause-few
returns-clause-few g c =
    let at = c.loop-i in
    let judge = judge_of g.D.Digest32.hash.digest_of c.args.verifier.now in
    let reports = c.args.reports.now in
    let counts = rw (verdicts-all judge reports at.i (omega (
      arith,
      c.loop-i-test.false,
      c.count_of-i-end.ensures.count,
    ))) at at.invariant.tally in
    let few : at.tally.verdicts < 2 ^ 63 = omega (
      arith,
      (counted-few judge reports at.tally counts).0,
      c.count_of-i-end.ensures.count,
      c.count_of-i-end.ensures.few,
    ) in few

pub returns-clause-tally : goal.returns-clause-tally
returns-clause-tally g c =
    let at = c.loop-i in
    rw (verdicts-all (judge_of g.D.Digest32.hash.digest_of c.args.verifier.now)
    c.args.reports.now at.i (omega (arith, c.loop-i-test.false, c.count_of-i-end.ensures.count)))
    at at.invariant.tally
