use Rattle.debug_link.proofs.AddedText.{prefix_end, text_failed, text_finished}
use Rattle.debug_link.proofs.console_text.put_text.Goals as goal

pub returns-in_err-add-clause-puts : goal.returns-in_err-add-clause-puts
returns-in_err-add-clause-puts g c =
    text_failed g.W.Sink c.args.packets.now c.add.new.packets _ c.args.text.now _
    c.from_residual.ensures.0 c.new-console.ensures
    (prefix_end g.W.Sink c.args.packets.now c.add.new.packets _ c.args.text.now
    c.in_err-add.ensures.adds.prefix)

pub returns-clause-puts : goal.returns-clause-puts
returns-clause-puts g c =
    text_finished g.W.Sink _ _ _ _ _ _ _ c.new-console.ensures c.in_ok-add.ensures.adds.all
    c.finish.ensures.puts
