use Rattle.std.proofs.Common.{◌∷◌, arith}
use Rattle.device_trace.specs.{Logs.flags_of, Trace.logs_after, Text.{lines_of_step, some_line}}
use Rattle.outside_edge.proofs.SinkLemmas.{prefix_of_more}
use Rattle.report_verifier.specs.Judge.{Judge, judge_of}
use Rattle.device_play.proofs.{SeenStep.seen-failed, WriteCounts.counts-passed}
use Rattle.device_cli.{specs.{JudgedPlay.judge_account, Judgement.remark_lines, RoundText.reports_in}, proofs.{RoundLines.{judged-failed, judged-seen, remark, last_report-output}, Tallies.{counted-few, verdicts-few}}}
use Rattle.device_cli.proofs.verdict.judging.JudgingWatcher.see.Goals as goal

pub judge_last-requires : goal.judge_last-requires
judge_last-requires g c =
    let (start, events, play, shown) = c.requires.shown in
    omega (
      arith,
      (verdicts-few (judge_of g.D.Digest32.hash.digest_of c.args.self.now.verifier.now) start play
          c.args.tally.now shown.counted).0,
      shown.number,
      c.requires.few,
    )

pub returns-in_err-print_last_step-clause-seen : goal.returns-in_err-print_last_step-clause-seen
returns-in_err-print_last_step-clause-seen g c = λ start events play shown.
    let judge : Judge = judge_of g.D.Digest32.hash.digest_of c.args.self.now.verifier.now in
    seen-failed {account = judge_account judge} c.from_residual.result c.from_residual.ensures.1
    (prefix_of_more g.W.Sink.stands c.args.sink.now c.print_last_step.new.sink
    (lines_of_step start events play)
    (some_line remark_lines (remark judge start events play))
    (c.in_err-print_last_step.ensures.puts start events play shown.device
    shown.number).prefix)

pub returns-in_err-tally-clause-seen : goal.returns-in_err-tally-clause-seen
returns-in_err-tally-clause-seen g c = λ start events play shown.
    let judge : Judge = judge_of g.D.Digest32.hash.digest_of c.args.self.now.verifier.now in
    let logs = logs_after start (events ∷ play) in
    let last = c.report-report.ensures.last start (events ∷ play) shown.device in
    let size = (counted-few judge (reports_in start play) c.args.tally.now shown.counted).0 in
    let memory = c.memory-memory.ensures start (events ∷ play) shown.device in
    judged-failed g.W.Sink.stands c.args.sink.now c.print_last_step.new.sink c.judge_last.new.sink
    judge start events play c.args.tally.now c.in_err-tally.field-0.0
    c.from_residual-in_err-tally.result c.from_residual-in_err-tally.ensures.1
    (c.in_ok-print_last_step.ensures.puts start events play shown.device
    shown.number).all
    (rw (last, size) at (c.in_err-tally.ensures.puts start.power
    (flags_of start logs) logs.memory memory
    (rw last (last_report-output start (events ∷ play)))))
    (rw (last, size) at (c.in_err-tally.ensures.memory start.power
    (flags_of start logs) logs.memory memory
    (rw last (last_report-output start (events ∷ play)))))

pub returns-clause-seen : goal.returns-clause-seen
returns-clause-seen g c = λ start events play shown.
    let judge : Judge = judge_of g.D.Digest32.hash.digest_of c.args.self.now.verifier.now in
    let logs = logs_after start (events ∷ play) in
    let last = c.report-report.ensures.last start (events ∷ play) shown.device in
    let size = (counted-few judge (reports_in start play) c.args.tally.now shown.counted).0 in
    judged-seen g.W.Sink.stands c.args.sink.now c.print_last_step.new.sink c.judge_last.new.sink
    judge start events play c.args.tally.now _ _ shown.counted
    (rw last at c.in_ok-tally.ensures.tally)
    (c.in_ok-print_last_step.ensures.puts start events play shown.device
    shown.number).all
    (rw (last, size) at (c.in_ok-tally.ensures.puts start.power
    (flags_of start logs) logs.memory (c.memory-memory.ensures start (events ∷ play) shown.device)
    (rw last (last_report-output start (events ∷ play)))).all)

pub returns-in_err-tally-clause-counts : goal.returns-in_err-tally-clause-counts
returns-in_err-tally-clause-counts g c =
    counts-passed g.W.Sink.faults c.args.sink.now c.print_last_step.new.sink c.judge_last.new.sink
    c.in_err-tally.field-0.0 c.from_residual-in_err-tally.result
    c.from_residual-in_err-tally.ensures.1 c.in_ok-print_last_step.ensures.counts.quiet
    c.in_err-tally.ensures.counts
