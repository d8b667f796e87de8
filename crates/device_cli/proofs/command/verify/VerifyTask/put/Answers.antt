use Rattle.std.proofs.Common.{arith}
use Rattle.mem_map.specs.Image.{byte_in}
use Rattle.outside_edge.proofs.SinkLemmas.{prefix_of_more}
use Rattle.report_verifier.specs.Judge.{Judge, judge_with}
use Rattle.device_trace.specs.Text.{some_line}
use Rattle.device_cli.{specs.{Unanswered.{unanswered_if, unanswered_line}, Verdicts.{lines_from, verdicts}, Verify.{verdicts_outcome, verify_outcome}}, proofs.{Unanswered.{fails, end-failed, ended}, Tallies.leading-few}}
use Rattle.device_cli.proofs.command.verify.VerifyTask.put.Goals as goal

pub end_verdicts-requires : goal.end_verdicts-requires
end_verdicts-requires g c =
    omega (
      arith,
      leading-few _ c.in_ok-tally.tally c.in_ok-tally.ensures.tally,
      c.in_ok-tally.ensures.few,
    )

pub returns-in_err-tally-clause-puts : goal.returns-in_err-tally-clause-puts
returns-in_err-tally-clause-puts g c =
    let values = c.args.values.now in
    let all = c.args.self.now.all in
    let judge : Judge = judge_with values.key (byte_in values.image) values.policy in
    let reports = c.deref.result.now in
    let decisions = verdicts judge reports in
    rw (← c.deref.ensures.value)
    (fails g.W.Sink.stands g.W.Sink.faults c.args.sink.now c.print_verdicts.new.sink
    (verify_outcome all judge reports) c.from_residual.result c.from_residual.ensures.1
    (prefix_of_more g.W.Sink.stands c.args.sink.now c.print_verdicts.new.sink
    (lines_from 1 decisions)
    (some_line unanswered_line (unanswered_if all judge.policy.requests decisions))
    c.in_err-tally.ensures.puts.prefix)
    c.in_err-tally.ensures.counts.failed)

pub returns-in_err-end_verdicts-clause-puts : goal.returns-in_err-end_verdicts-clause-puts
returns-in_err-end_verdicts-clause-puts g c =
    let values = c.args.values.now in
    let all = c.args.self.now.all in
    let judge : Judge = judge_with values.key (byte_in values.image) values.policy in
    let reports = c.deref.result.now in
    let decisions = verdicts judge reports in
    rw (← c.deref.ensures.value)
    (end-failed g.W.Sink.stands g.W.Sink.faults c.args.sink.now c.print_verdicts.new.sink
    c.end_verdicts.new.sink (verdicts_outcome decisions)
    (unanswered_if all judge.policy.requests decisions)
    c.from_residual-in_err-end_verdicts.result c.from_residual-in_err-end_verdicts.ensures.1
    c.in_ok-tally.ensures.puts.all c.in_ok-tally.ensures.counts.quiet
    (c.in_err-end_verdicts.ensures.puts decisions c.in_ok-tally.ensures.tally).prefix
    c.in_err-end_verdicts.ensures.counts.failed)

pub returns-clause-puts : goal.returns-clause-puts
returns-clause-puts g c =
    let values = c.args.values.now in
    let all = c.args.self.now.all in
    let judge : Judge = judge_with values.key (byte_in values.image) values.policy in
    let reports = c.deref.result.now in
    let decisions = verdicts judge reports in
    rw (← c.deref.ensures.value)
    (ended g.W.Sink.stands g.W.Sink.faults c.args.sink.now c.print_verdicts.new.sink
    c.end_verdicts.new.sink (verdicts_outcome decisions)
    (unanswered_if all judge.policy.requests decisions) _
    (c.in_ok-end_verdicts.ensures.ending decisions c.in_ok-tally.ensures.tally)
    c.in_ok-tally.ensures.puts.all
    (c.in_ok-end_verdicts.ensures.puts decisions c.in_ok-tally.ensures.tally).all)
