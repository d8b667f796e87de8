use Rattle.std.proofs.Common.{◌≤◌, length}
use Rattle.source_server.{proofs.LineLemmas.IsAnsweredTo, specs.Responder.Moment}
use Rattle.source_server.proofs.lines.answer_lines.Given as goal

abbrev pub decreases-loop-end : goal.decreases-loop-end
decreases-loop-end g l = length l.rest

-- the lines that end before what is left are answered
abbrev pub invariant-loop-end : goal.invariant-loop-end
invariant-loop-end g l = record {
  within : length l.rest ≤ length l.piece;
  tells : (start : g.L.LineResponder.Start) → IsAnsweredTo (g.L.LineResponder.promise start)
      l.piece l.rest l.fn.held l.held
      (record { responder = l.fn.responder; edge = l.fn.edge })
      (record { responder = l.responder; edge = l.edge });
  grows : (first : Moment g.row.L.Denot g.row.E.Denot) → g.L.LineResponder.since first
      (record { responder = l.fn.responder; edge = l.fn.edge })
      → g.L.LineResponder.since first (record { responder = l.responder; edge = l.edge });
}
