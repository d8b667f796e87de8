use Rattle.std.proofs.Common.{Ok, Err}
use Rattle.device_types.specs.Report.{fields_of}
use Rattle.part_definitions.specs.Memory.{byte_at}
use Rattle.outside_edge.proofs.SinkLemmas.{puts-failed}
use Rattle.report_verifier.specs.Judge.{Judge, judge_of}
use Rattle.device_cli.proofs.IsJudged.{is-judged, evidence-fits, verdict-begun, evidence-put, stops-behind_verdict}
use Rattle.device_cli.proofs.verdict.judgement.judge.Goals as goal

pub returns-in_err-print_verdict-clause-puts : goal.returns-in_err-print_verdict-clause-puts
returns-in_err-print_verdict-clause-puts g c = λ start flags writes stands tells.
    let judge : Judge = judge_of g.D.Digest32.hash.digest_of c.args.verifier.now in
    let report = fields_of c.args.report.now in
    let is = is-judged judge c.args.i report c.expect-expect.ensures.expectation
    c.verdict-verdict.ensures in
    puts-failed g.W.Sink.stands _ _ _ c.from_residual.result c.from_residual.ensures.0
    (verdict-begun g.W.Sink.stands _ _ judge c.args.i (byte_at start flags writes) report is
    c.in_err-print_verdict.ensures.puts.prefix)

pub returns-in_err-print_evidence-clause-puts : goal.returns-in_err-print_evidence-clause-puts
returns-in_err-print_evidence-clause-puts g c = λ start flags writes stands tells.
    let judge : Judge = judge_of g.D.Digest32.hash.digest_of c.args.verifier.now in
    let report = fields_of c.args.report.now in
    let bytes = byte_at start flags writes in
    let is = is-judged judge c.args.i report c.expect-expect.ensures.expectation
    c.verdict-verdict.ensures in
    puts-failed g.W.Sink.stands _ _ _ c.from_residual-in_err-print_evidence.result
    c.from_residual-in_err-print_evidence.ensures.0
    (evidence-put g.W.Sink.stands _ _ _ judge c.args.i bytes report
    (Err c.in_err-print_evidence.field-0.0) is c.in_ok-print_verdict.ensures.puts.all
    (c.in_err-print_evidence.ensures.puts start flags writes stands
    (evidence-fits judge c.args.i bytes report is tells))).prefix

pub returns-in_err-print_evidence-clause-memory : goal.returns-in_err-print_evidence-clause-memory
returns-in_err-print_evidence-clause-memory g c = λ start flags writes stands tells.
    let judge : Judge = judge_of g.D.Digest32.hash.digest_of c.args.verifier.now in
    let report = fields_of c.args.report.now in
    let bytes = byte_at start flags writes in
    let is = is-judged judge c.args.i report c.expect-expect.ensures.expectation
    c.verdict-verdict.ensures in
    stops-behind_verdict g.W.Sink.stands _ _ _ judge c.args.i bytes report
    c.in_err-print_evidence.field-0.0 c.from_residual-in_err-print_evidence.result is
    c.from_residual-in_err-print_evidence.ensures.1 c.in_ok-print_verdict.ensures.puts.all
    (c.in_err-print_evidence.ensures.memory start flags writes stands
    (evidence-fits judge c.args.i bytes report is tells))

pub returns-clause-puts : goal.returns-clause-puts
returns-clause-puts g c = λ start flags writes stands tells.
    let judge : Judge = judge_of g.D.Digest32.hash.digest_of c.args.verifier.now in
    let report = fields_of c.args.report.now in
    let bytes = byte_at start flags writes in
    let is = is-judged judge c.args.i report c.expect-expect.ensures.expectation
    c.verdict-verdict.ensures in
    record {
      all = (evidence-put g.W.Sink.stands _ _ _ judge c.args.i bytes report
          (Ok tt) is c.in_ok-print_verdict.ensures.puts.all
          (c.in_ok-print_evidence.ensures.puts start flags writes stands
          (evidence-fits judge c.args.i bytes report is tells))).all;
      prefix = tt;
    }
