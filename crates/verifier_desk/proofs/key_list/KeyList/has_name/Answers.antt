use Rattle.std.proofs.Common.{◌∙◌}
use Rattle.verifier_desk.proofs.KeyPlaces.{is_named}
use Rattle.verifier_desk.proofs.key_list.KeyList.has_name.Goals as goal

pub returns : goal.returns
returns c =
    c.is_some.ensures
    ∙ is_named c.args.name.now c.args.self.now c.place_of.result c.place_of.ensures.key
    c.place_of.ensures.none
