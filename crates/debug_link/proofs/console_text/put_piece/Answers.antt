use Rattle.debug_link.{specs.Console.text_body, proofs.AddedText.put_one}
use Rattle.debug_link.proofs.console_text.put_piece.Goals as goal

pub returns-clause-puts : goal.returns-clause-puts
returns-clause-puts g c =
    put_one g.W.Sink c.args.packets.now c.put.new.self (text_body c.args.piece.now) c.put.result
    (rw c.write_body.ensures at c.put.ensures.puts) (rw c.write_body.ensures at c.put.ensures.last)
