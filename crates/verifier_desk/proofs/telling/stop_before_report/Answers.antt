use Rattle.std.proofs.Common.{[], ◌∷◌}
use Rattle.verifier_desk.proofs.{HeldReplies.answered_of_told, MoreLines.fails_more}
use Rattle.verifier_desk.proofs.telling.stop_before_report.Goals as goal

pub returns-in-Ok-clause-stops : goal.returns-in-Ok-clause-stops
returns-in-Ok-clause-stops g c = λ fields earlier line first told report. (
  report,
  answered_of_told g.M.Memory g.W.Sink first fields _ earlier
      (c.in-Ok.ensures.puts fields earlier first told).all,
)

pub returns-in-Err-clause-stops : goal.returns-in-Err-clause-stops
returns-in-Err-clause-stops g c = λ fields earlier line first told report.
    fails_more g.M.Memory g.W.Sink first _ fields (line ∷ []) earlier c.in-Err.halt
    (c.in-Err.ensures.puts fields earlier first told).fails
