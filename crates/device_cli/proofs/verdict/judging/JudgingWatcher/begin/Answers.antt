use Rattle.device_play.proofs.WriteCounts.{takes-nothing}
use Rattle.report_verifier.specs.Judge.{judge_of}
use Rattle.device_cli.{specs.RoundText.round_pieces, proofs.{RoundLines.judge-goes_on, Tallies.tally-none}}
use Rattle.device_cli.proofs.verdict.judging.JudgingWatcher.begin.Goals as goal

pub returns-clause-goes_on : goal.returns-clause-goes_on
returns-clause-goes_on g c = λ digest.
    judge-goes_on (judge_of digest c.args.self.now.verifier.now)

pub returns-clause-tally : goal.returns-clause-tally
returns-clause-tally g c = λ digest start.
    tally-none (judge_of digest c.args.self.now.verifier.now) start c.new.result c.new.ensures

pub returns-clause-puts : goal.returns-clause-puts
unfolding round_pieces
returns-clause-puts g c = λ digest start.
    record { all = takes-nothing g.W.Sink.stands c.args._sink.now; prefix = tt }
