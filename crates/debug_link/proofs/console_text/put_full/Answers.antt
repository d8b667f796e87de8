use Rattle.std.proofs.{Common.{◌≡◌, [], length, arith}, lemmas.Bool.Decides.nat_tests}
use Rattle.debug_link.{specs.Console.MOST_TEXT, proofs.AddedText.{added_full, added_none, adds_failed, full_failed}}
use Rattle.debug_link.proofs.console_text.put_full.Goals as goal

pub returns-in_err-put_piece-clause-adds : goal.returns-in_err-put_piece-clause-adds
returns-in_err-put_piece-clause-adds g c =
    let full : length c.args.rest.now.items ≡ MOST_TEXT =
    grind (arith, nat_tests, c.if-is_full.ensures.value) in
    adds_failed g.W.Sink c.args.packets.now c.put_piece.new.packets c.args.rest.now.items [] _ _
    c.from_residual.ensures.0
    (full_failed g.W.Sink c.args.packets.now c.put_piece.new.packets _ c.args.rest.now.items
    c.deref.ensures.0 full c.in_err-put_piece.ensures.puts.prefix)

pub returns-in_ok-put_piece-clause-adds : goal.returns-in_ok-put_piece-clause-adds
returns-in_ok-put_piece-clause-adds g c =
    let full : length c.args.rest.now.items ≡ MOST_TEXT =
    grind (arith, nat_tests, c.if-is_full.ensures.value) in
    record {
      all = rw c.clear.ensures
          (added_full g.W.Sink _ _ _ _ c.deref.ensures.0 full c.in_ok-put_piece.ensures.puts.all);
      prefix = tt;
    }

pub returns-else-is_full-clause-adds : goal.returns-else-is_full-clause-adds
returns-else-is_full-clause-adds g c =
    record { all = added_none g.W.Sink _ _; prefix = tt }
