use Rattle.std.proofs.Common.{◌≡◌, ◌∙◌, ◌++◌, ℕ, List, ap, codes}
use Rattle.printed_lines.specs.Line.{reset_line}
use Rattle.debug_link.proofs.AddedText.{puts_failed}
use Rattle.device_debug.{specs.Telling.GrownText, proofs.{Refusals.{grown-all, has-grown, puts-none}, forwards.tell_refusal.{Given.Over, Goals.After-put_text}}}
use Rattle.device_debug.proofs.forwards.tell_refusal.Goals as goal

text-is : (g : Over) (c : After-put_text g)
    → c.as_slice.result.now ≡ codes "stops before " ++ reset_line c.args.step c.args.rule
text-is g c =
    c.as_slice.ensures
    ∙ has-grown _ _ _ _ c.print_reset.ensures.puts c.in_ok-memory_result-2.ensures.same
    ∙ ap (λ (front : List ℕ). front ++ reset_line c.args.step c.args.rule)
    (grown-all _ _ _ _ (ap (λ (text : GrownText). text.bytes) c.new-text.ensures)
    c.in_ok-memory_result.ensures.same c.put_all.ensures.puts)

pub returns-in_err-memory_result-clause-tells : goal.returns-in_err-memory_result-clause-tells
returns-in_err-memory_result-clause-tells g c =
    puts-none g.W.Sink _ _ _ c.from_residual.ensures.0

pub returns-in_err-memory_result-2-clause-tells : goal.returns-in_err-memory_result-2-clause-tells
returns-in_err-memory_result-2-clause-tells g c =
    puts-none g.W.Sink _ _ _ c.from_residual-in_err-memory_result-2.ensures.0

pub returns-in_err-put_text-clause-tells : goal.returns-in_err-put_text-clause-tells
returns-in_err-put_text-clause-tells g c =
    let text = text-is g (goal.at.returns-in_err-put_text-clause-tells g c).After-put_text in
    puts_failed g.W.Sink _ _ _ _ c.from_residual-in_err-put_text.ensures.0
    (rw text at c.in_err-put_text.ensures.puts).prefix

pub returns-clause-tells : goal.returns-clause-tells
returns-clause-tells g c =
    let text = text-is g (goal.at.returns-clause-tells g c).After-put_text in
    let puts = rw text at c.in_ok-put_text.ensures.puts in
    record { all = puts.all; prefix = tt }
