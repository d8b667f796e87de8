use Rattle.std.proofs.{Common.{◌≡◌, ◌<◌, length, arith, List, ℕ, subst}, lemmas.Bool.Decides.nat_tests}
use Rattle.debug_link.{specs.{Console.console, Writing.PutsPackets}, proofs.AddedText.{no_rest, rest_put}}
use Rattle.debug_link.proofs.console_text.ConsoleText.finish.Goals as goal

pub returns-then-is_empty-clause-puts : goal.returns-then-is_empty-clause-puts
returns-then-is_empty-clause-puts g c =
    let none : length c.self.inside.rest.items ≡ 0 =
    grind (arith, nat_tests, c.if-is_empty.ensures) in
    no_rest g.W.Sink c.args.packets.now c.self.inside.rest.items c.args.self.now _ c.self.view_is
    none

pub returns-else-is_empty-clause-puts : goal.returns-else-is_empty-clause-puts
returns-else-is_empty-clause-puts g c =
    let some : 0 < length c.self.inside.rest.items =
    grind (arith, nat_tests, c.if-is_empty.ensures) in
    subst
    (λ (rest : List ℕ). PutsPackets g.W.Sink c.args.packets.now c.put_piece.new.packets
    (console rest) c.put_piece.result)
    c.self.view_is
    (rest_put g.W.Sink c.args.packets.now c.put_piece.new.packets c.deref.result.now
    c.self.inside.rest.items c.put_piece.result c.deref.ensures.0 some
    (rw c.deref.ensures.0 at c.deref.ensures.1) c.put_piece.ensures.puts)
