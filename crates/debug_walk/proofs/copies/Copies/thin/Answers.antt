use Rattle.std.{proofs.{Common.{sym, subst, drop, suc, take}, lemmas.List.Elements.{All-append, All-drop, All-take}}, specs.List.All}
use Rattle.debug_walk.specs.Copies.{IsCopy}
use Rattle.debug_walk.proofs.copies.Copies.thin.Goals as goal

pub loop-at-preserved : goal.loop-at-preserved
loop-at-preserved g c = λ run are.
    let before = c.loop-at.invariant run are in
    let is = IsCopy g.D.Digest32.hash run in
    let items = c.loop-at.self.far.items in
    let at = c.loop-at.at in
    record {
      far = subst (All is) (sym c.remove.ensures.items)
          (All-append is (take at items) (drop (suc at) items) (All-take is at items before.far)
          (All-drop is (suc at) items before.far));
      near = before.near;
    }

pub returns : goal.returns
returns g c = λ run are.
    let before = c.loop-at.invariant run are in
    record { far = before.far; near = before.near }
