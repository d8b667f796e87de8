use Rattle.outside_edge.proofs.SinkLemmas.{puts-failed}
use Rattle.device_cli.proofs.verdict.judgement.judge_last.Goals as goal

pub returns-in_err-verdict-clause-puts : goal.returns-in_err-verdict-clause-puts
returns-in_err-verdict-clause-puts g c = λ start flags writes stands tells.
    rw c.in-Some.is
    (puts-failed g.W.Sink.stands _ _ _ c.from_residual.result c.from_residual.ensures.0
    (c.in_err-verdict.ensures.puts start flags writes stands (rw c.in-Some.is at tells)).prefix)

pub returns-clause-puts : goal.returns-clause-puts
returns-clause-puts g c = λ start flags writes stands tells.
    rw c.in-Some.is (record {
      all = (c.in_ok-verdict.ensures.puts start flags writes stands (rw c.in-Some.is at tells)).all;
      prefix = tt;
    })
