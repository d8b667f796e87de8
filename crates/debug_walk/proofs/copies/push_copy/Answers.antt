use Rattle.std.{proofs.{Common.{◌++◌, Bool, true, false, List, [], ◌∷◌, sym, subst}, lemmas.List.Elements.All-push}, specs.{List.All, Prelude.if◌then◌else◌}}
use Rattle.debug_walk.specs.Copies.{IsCopy}
use Rattle.debug_walk.proofs.copies.push_copy.Goals as goal

with-one : {A : Type 0} (is : A → Type 0) (items : List A) (item : A) (fits : Bool)
    → All is items → is item → All is (if fits then items ++ item ∷ [] else items)
with-one is items item true all one = All-push is items item all one
with-one is items item false all one = all

pub returns : goal.returns
returns g c = λ run all one.
    let is = IsCopy g.D.Digest32.hash run in
    subst (All is) (sym c.push.ensures.items)
    (with-one is c.args.copies.now.items c.args.copy _ all one)
