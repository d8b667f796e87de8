use Rattle.std.proofs.Common.{arith}
use Rattle.debug_link.proofs.{AddedText.{added_both, prefix_behind, prefix_end, puts_failed, text_finished, texts_failed}, Faults.{counts_passed, counts_unwritten}}
use Rattle.device_debug.proofs.monitor.tell_steps.Goals as goal

pub returns-in_err-add_texts-clause-tells : goal.returns-in_err-add_texts-clause-tells
returns-in_err-add_texts-clause-tells g c = λ run track after most.
    rw (← track.same_run)
    (texts_failed _ _ _ _ _ _ _ c.from_residual.ensures.0 c.new-text.ensures
    ((c.in_err-add_texts.ensures.adds after most).prefix c.args.end.now))

pub returns-in_err-add_texts-clause-counts : goal.returns-in_err-add_texts-clause-counts
returns-in_err-add_texts-clause-counts g c =
    counts_passed _ _ _ _ _ _ c.from_residual.ensures.1 (omega arith)
    c.in_err-add_texts.ensures.counts

pub returns-in_err-add-clause-tells : goal.returns-in_err-add-clause-tells
returns-in_err-add-clause-tells g c = λ run track after most.
    rw (← track.same_run)
    (texts_failed _ _ _ _ _ _ _ c.from_residual-in_err-add.ensures.0 c.new-text.ensures
    (prefix_behind _ _ _ c.add.new.packets _ _ _ _
    (c.in_ok-add_texts.ensures.adds after most).all
    (prefix_end g.W.Sink c.add_texts.new.packets c.add.new.packets c.add_texts.new.text
    c.args.end.now c.in_err-add.ensures.adds.prefix)))

pub returns-in_err-add-clause-counts : goal.returns-in_err-add-clause-counts
returns-in_err-add-clause-counts g c =
    counts_unwritten _ _ _ _ _ c.in_ok-add_texts.ensures.counts.counted
    c.in_err-add.ensures.counts.failed c.in_err-add.ensures.counts.counted

pub returns-in_err-finish-clause-tells : goal.returns-in_err-finish-clause-tells
returns-in_err-finish-clause-tells g c = λ run track after most.
    rw (← track.same_run)
    (text_finished _ _ _ _ _ _ _ _ c.new-text.ensures
    (added_both _ _ _ _ _ _ _ _ _ (c.in_ok-add_texts.ensures.adds after most).all
    c.in_ok-add.ensures.adds.all)
    (puts_failed _ _ _ _ _ c.from_residual-in_err-finish.ensures.0
    c.in_err-finish.ensures.puts.prefix))

pub returns-in_err-finish-clause-counts : goal.returns-in_err-finish-clause-counts
returns-in_err-finish-clause-counts g c =
    counts_unwritten _ _ _ _ _
    (omega (
      arith,
      c.in_ok-add_texts.ensures.counts.counted,
      c.in_ok-add.ensures.counts.counted,
    ))
    c.in_err-finish.ensures.counts.failed c.in_err-finish.ensures.counts.counted

pub returns-clause-tells : goal.returns-clause-tells
returns-clause-tells g c = λ run track after most.
    rw (← track.same_run)
    (text_finished _ _ _ _ _ _ _ _ c.new-text.ensures
    (added_both _ _ _ _ _ _ _ _ _ (c.in_ok-add_texts.ensures.adds after most).all
    c.in_ok-add.ensures.adds.all)
    (record { all = c.in_ok-finish.ensures.puts.all; prefix = tt }))

pub returns-clause-counts : goal.returns-clause-counts
returns-clause-counts g c =
    record {
      failed = tt;
      counted = omega (
        arith,
        c.in_ok-add_texts.ensures.counts.counted,
        c.in_ok-add.ensures.counts.counted,
        c.in_ok-finish.ensures.counts.counted,
      );
    }
