use Rattle.std.proofs.Common.{None}
use Rattle.debug_link.proofs.{Interrupts.none-came, Parties.{long_failed, long_put}}
use Rattle.debug_link.proofs.serving.answer_body.Goals as goal

pub returns-in_err-put-in-None-clause-answers : goal.returns-in_err-put-in-None-clause-answers
returns-in_err-put-in-None-clause-answers g c = λ session bytes stood long. (
  None,
  none-came (g.A.Answerer.left c.args.answerer.now),
  long_failed g.A.Answerer.stands g.W.Sink (g.A.Answerer.reply None) _ _ _ session bytes _
      (rw c.in-None.is at long) c.in_err-put-in-None.ensures.puts.prefix
      c.from_residual.ensures.0,
)

pub returns-in_ok-put-in-None-clause-answers : goal.returns-in_ok-put-in-None-clause-answers
returns-in_ok-put-in-None-clause-answers g c = λ session bytes stood long. (
  None,
  none-came (g.A.Answerer.left c.args.answerer.now),
  long_put g.A.Answerer.stands g.W.Sink (g.A.Answerer.reply None) _ _ _ session bytes stood
      (rw c.in-None.is at long) c.in_ok-put-in-None.ensures.puts.all c.put.ensures.last,
)
