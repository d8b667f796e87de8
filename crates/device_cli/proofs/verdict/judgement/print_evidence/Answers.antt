use Rattle.std.proofs.{Common.{List, ℕ, ap}, Math.Path.subst}
use Rattle.device_types.specs.Report.{fields_of}
use Rattle.part_definitions.specs.Memory.{byte_at}
use Rattle.outside_edge.{specs.Sink.{Takes, TakesPrefix}, proofs.SinkLemmas.puts-failed}
use Rattle.report_verifier.specs.Judge.{judge_of}
use Rattle.device_trace.specs.Text.{some_line}
use Rattle.device_cli.{specs.Judgement.pair_line, proofs.IsJudged.{accepted-fits_expect, no-pair, none-shown, shown-by, stops-at_pair}}
use Rattle.device_play.proofs.WriteCounts.{counts-nothing, nothing-begun, nothing-put}
use Rattle.device_cli.proofs.verdict.judgement.print_evidence.Goals as goal

pub returns-in_default : goal.returns-in_default
returns-in_default g c =
    record {
      puts = λ start flags writes stands fits.
          rw (none-shown (judge_of g.D.Digest32.hash.digest_of c.args.verifier.now) c.args.expect
          c.args.verdict (fields_of c.args.report.now) (byte_at start flags writes)
          c.in_default.not-Accept-1)
          (nothing-put g.W.Sink.stands c.args.sink.now tt);
      memory = λ start flags writes stands fits. tt;
      counts = counts-nothing g.W.Sink.faults c.args.sink.now tt;
    }

pub returns-in_err-first-clause-puts : goal.returns-in_err-first-clause-puts
returns-in_err-first-clause-puts g c = λ start flags writes stands fits.
    puts-failed g.W.Sink.stands _ _ _ c.from_residual.result c.from_residual.ensures.0
    (nothing-begun g.W.Sink.stands c.args.sink.now _)

pub returns-in_err-first-clause-memory : goal.returns-in_err-first-clause-memory
returns-in_err-first-clause-memory g c = λ start flags writes stands fits.
    let accept = c.in-Some-Accept in
    let report = fields_of c.args.report.now in
    stops-at_pair g.W.Sink.stands c.args.sink.now
    (judge_of g.D.Digest32.hash.digest_of c.args.verifier.now) c.args.expect c.args.verdict report
    (byte_at start flags writes) accept.expect c.from_residual.result accept.is-0 accept.is-1
    (c.in_err-first.ensures start flags writes stands
    (accepted-fits_expect c.args.expect c.args.verdict report.output accept.expect accept.is-0
    accept.is-1 fits))

pub returns-in_err-print_collision-in-Pair-clause-puts :
    goal.returns-in_err-print_collision-in-Pair-clause-puts
returns-in_err-print_collision-in-Pair-clause-puts g c = λ start flags writes stands fits.
    let accept = c.in-Some-Accept in
    let report = fields_of c.args.report.now in
    let shows = shown-by (judge_of g.D.Digest32.hash.digest_of c.args.verifier.now)
    c.args.expect
    c.args.verdict report (byte_at start flags writes) accept.expect c.in_ok-first.field-0
    accept.is-0 accept.is-1
    (c.in_ok-first.ensures start flags writes stands
    (accepted-fits_expect c.args.expect c.args.verdict report.output accept.expect accept.is-0
    accept.is-1 fits)) in
    puts-failed g.W.Sink.stands _ _ _ c.from_residual-in_err-print_collision-in-Pair.result
    c.from_residual-in_err-print_collision-in-Pair.ensures.0
    (subst (λ (lines : List ℕ). TakesPrefix g.W.Sink.stands c.args.sink.now
    c.print_collision.new.sink lines)
    (ap (some_line pair_line) (rw c.in-Pair.is at shows))
    (rw (c.as_slice.ensures, c.as_slice-in-Pair.ensures)
    at c.in_err-print_collision-in-Pair.ensures.puts.prefix))

pub returns-in_ok-print_collision-in-Pair-clause-puts :
    goal.returns-in_ok-print_collision-in-Pair-clause-puts
returns-in_ok-print_collision-in-Pair-clause-puts g c = λ start flags writes stands fits.
    let accept = c.in-Some-Accept in
    let report = fields_of c.args.report.now in
    let shows = shown-by (judge_of g.D.Digest32.hash.digest_of c.args.verifier.now)
    c.args.expect
    c.args.verdict report (byte_at start flags writes) accept.expect c.in_ok-first.field-0
    accept.is-0 accept.is-1
    (c.in_ok-first.ensures start flags writes stands
    (accepted-fits_expect c.args.expect c.args.verdict report.output accept.expect accept.is-0
    accept.is-1 fits)) in
    record {
      all = subst (λ (lines : List ℕ). Takes g.W.Sink.stands c.args.sink.now
          c.print_collision.new.sink lines)
          (ap (some_line pair_line) (rw c.in-Pair.is at shows))
          (rw (c.as_slice.ensures, c.as_slice-in-Pair.ensures)
          at c.in_ok-print_collision-in-Pair.ensures.puts.all);
      prefix = tt;
    }

pub returns-in-Same : goal.returns-in-Same
returns-in-Same g c =
    record {
      puts = λ start flags writes stands fits.
          let accept = c.in-Some-Accept in
          let report = fields_of c.args.report.now in
          let shows = shown-by (judge_of g.D.Digest32.hash.digest_of c.args.verifier.now)
          c.args.expect c.args.verdict report (byte_at start flags writes) accept.expect
          c.in_ok-first.field-0 accept.is-0 accept.is-1
          (c.in_ok-first.ensures start flags writes stands
          (accepted-fits_expect c.args.expect c.args.verdict report.output accept.expect accept.is-0
          accept.is-1 fits)) in
          rw (← shows, no-pair c.in_ok-first.field-0 c.in-Same.is)
          (nothing-put g.W.Sink.stands c.args.sink.now tt);
      memory = λ start flags writes stands fits. tt;
      counts = counts-nothing g.W.Sink.faults c.args.sink.now tt;
    }
