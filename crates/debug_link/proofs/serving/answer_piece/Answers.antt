use Rattle.std.proofs.{Common.{◌+◌, Ok, Err, arith, drop, refl, take, List, ℕ}, lemmas.List.{take-append-drop, take_all}}
use Rattle.debug_link.{specs.declared.connection.Connection.TheVariants.{Open, Closed}, proofs.Parties.{by_byte, by_closed, by_failed, by_none}}
use Rattle.debug_link.proofs.serving.answer_piece.Goals as goal

pub loop-byte-init : goal.loop-byte-init
loop-byte-init g c =
    record {
      goes = by_none g.A.Answerer.stands g.A.Answerer.left g.W.Sink g.A.Answerer.reply _;
      rises = omega arith;
    }

pub returns-in_err-answer_byte-clause-goes_on : goal.returns-in_err-answer_byte-clause-goes_on
returns-in_err-answer_byte-clause-goes_on g c =
    let piece : List ℕ = c.args.piece.now in
    let at : ℕ = c.loop-byte.byte-index in
    rw (take-append-drop (at + 1) piece) at
    (by_failed g.A.Answerer.stands g.A.Answerer.left g.W.Sink g.A.Answerer.reply _ _
    (take (at + 1) piece)
    (drop (at + 1) piece) c.in_err-answer_byte.field-0.0 _ c.from_residual.ensures.0
    (by_byte g.A.Answerer.stands g.A.Answerer.left g.W.Sink g.A.Answerer.reply _ _ _ piece at
    _
    (Err c.in_err-answer_byte.field-0.0) c.loop-byte-test.true refl c.loop-byte.invariant.goes
    c.in_err-answer_byte.ensures.goes_on))

pub returns-in-Closed-clause-goes_on : goal.returns-in-Closed-clause-goes_on
returns-in-Closed-clause-goes_on g c =
    let piece : List ℕ = c.args.piece.now in
    let at : ℕ = c.loop-byte.byte-index in
    rw (take-append-drop (at + 1) piece) at
    (by_closed g.A.Answerer.stands g.A.Answerer.left g.W.Sink g.A.Answerer.reply _ _
    (take (at + 1) piece)
    (drop (at + 1) piece)
    (by_byte g.A.Answerer.stands g.A.Answerer.left g.W.Sink g.A.Answerer.reply _ _ _ piece at
    _ (Ok Closed)
    c.loop-byte-test.true refl c.loop-byte.invariant.goes
    (rw c.in-Closed.is at c.in_ok-answer_byte.ensures.goes_on)))

pub loop-byte-preserved : goal.loop-byte-preserved
loop-byte-preserved g c =
    record {
      goes = by_byte g.A.Answerer.stands g.A.Answerer.left g.W.Sink g.A.Answerer.reply _ _ _
          c.args.piece.now
          c.loop-byte.byte-index _ (Ok Open) c.loop-byte-test.true refl
          c.loop-byte.invariant.goes (rw c.in-Open.is at c.in_ok-answer_byte.ensures.goes_on);
      rises = omega (
        arith,
        c.loop-byte.invariant.rises,
        c.in_ok-answer_byte.ensures.counts.counted,
      );
    }

pub returns-clause-goes_on : goal.returns-clause-goes_on
returns-clause-goes_on g c =
    rw (take_all c.loop-byte.byte-index c.args.piece.now
    (omega (arith, c.loop-byte-test.false))) at c.loop-byte.invariant.goes
