use Rattle.std.proofs.{Common.{◌∙◌, arith}, lemmas.List.take_all}
use Rattle.debug_link.proofs.{AddedText.put_none, Faults.counts_unwritten}
use Rattle.device_debug.proofs.ToldTexts.{texts-failed, texts-next}
use Rattle.device_debug.proofs.waiting_lines.WaitingLines.tell.Goals as goal

pub loop-text-init : goal.loop-text-init
loop-text-init g c = record { put = put_none _ _; rises = omega arith }

pub returns-in_err-put_text-clause-tells : goal.returns-in_err-put_text-clause-tells
returns-in_err-put_text-clause-tells g c =
    rw (c.deref-text-items.ensures.value, c.self.view_is) at
    (texts-failed _ _ _ c.loop-text-test.true c.text-item.is c.from_residual.ensures.0
    c.loop-text.invariant.put (rw c.as_slice.ensures at c.in_err-put_text.ensures.puts))

pub returns-in_err-put_text-clause-counts : goal.returns-in_err-put_text-clause-counts
returns-in_err-put_text-clause-counts g c =
    counts_unwritten _ _ _ _ _ c.loop-text.invariant.rises
    c.in_err-put_text.ensures.counts.failed c.in_err-put_text.ensures.counts.counted

pub loop-text-preserved : goal.loop-text-preserved
loop-text-preserved g c = record {
  put = texts-next _ _ _ c.loop-text-test.true c.text-item.is c.loop-text.invariant.put
      (rw c.as_slice.ensures at c.in_ok-put_text.ensures.puts.all);
  rises = omega (arith, c.loop-text.invariant.rises, c.in_ok-put_text.ensures.counts.counted);
}

pub returns-clause-tells : goal.returns-clause-tells
returns-clause-tells g c =
    let whole = take_all c.loop-text.text-index c.deref-text-items.result.now
    c.loop-text-test.false ∙ c.deref-text-items.ensures.value ∙ c.self.view_is in
    record { all = rw whole at c.loop-text.invariant.put; prefix = tt }

pub returns-clause-counts : goal.returns-clause-counts
returns-clause-counts g c = record { failed = tt; counted = c.loop-text.invariant.rises }
