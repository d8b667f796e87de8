use Rattle.std.proofs.Common.{◌∙◌, None, refl, sym}
use Rattle.debug_link.proofs.{Interrupts.none-came, Parties.{byte_answered, byte_marked, mark_failed, mark_put}}
use Rattle.debug_link.proofs.serving.answer_byte.Goals as goal

pub returns-in_err-put_mark-clause-goes_on : goal.returns-in_err-put_mark-clause-goes_on
returns-in_err-put_mark-clause-goes_on g c = λ talk first still so. (
  None,
  none-came (g.A.Answerer.left c.args.answerer.now),
  mark_failed g.A.Answerer.stands g.W.Sink (g.A.Answerer.reply None) first _ _ talk
      c.args.byte _ still so
      (c.in_err-put_mark.ensures.puts _ (c.take-heard.ensures.heard talk.link so.reads)).prefix
      c.from_residual.ensures.0,
)

pub returns-in-Whole-clause-goes_on : goal.returns-in-Whole-clause-goes_on
returns-in-Whole-clause-goes_on g c = λ talk first still so.
    let heard = c.take-heard.ensures.heard talk.link so.reads in
    byte_answered g.A.Answerer.stands g.A.Answerer.left g.W.Sink g.A.Answerer.reply first
    (record {
      reader = c.take-heard.new.self;
      answerer = c.args.answerer.now;
      packets = c.put_mark.new.packets;
    })
    _ talk c.args.byte _ _ still
    (mark_put g.A.Answerer.stands g.W.Sink first _ _ talk c.args.byte so
    (c.in_ok-put_mark.ensures.puts _ heard).all (c.take-heard.ensures.link talk.link so.reads) refl
    c.put_mark.ensures.last)
    (c.take-heard.ensures.link talk.link so.reads) (sym heard ∙ c.in-Whole.is)
    (c.take-heard.ensures.body talk.link so.reads) c.body.ensures.bytes
    c.answer_body.ensures.answers

pub returns-in_default : goal.returns-in_default
returns-in_default g c =
    record {
      goes_on = λ talk first still so.
          let heard = c.take-heard.ensures.heard talk.link so.reads in (
            None,
            none-came (g.A.Answerer.left c.args.answerer.now),
            byte_marked g.A.Answerer.stands g.W.Sink (g.A.Answerer.reply None) first _ talk
                c.args.byte still
                (mark_put g.A.Answerer.stands g.W.Sink first _ _ talk c.args.byte so
                (c.in_ok-put_mark.ensures.puts _ heard).all
                (c.take-heard.ensures.link talk.link so.reads) refl c.put_mark.ensures.last)
                (λ is. c.in_default.not-Whole (heard ∙ is)),
          );
      counts = record { failed = tt; counted = c.put_mark.ensures.counts.counted };
    }
