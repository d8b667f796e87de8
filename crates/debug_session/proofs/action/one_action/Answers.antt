use Rattle.std.proofs.lemmas.List.Sums.{position_or_len_is}
use Rattle.debug_session.{specs.Action.ends_action, proofs.Cuts.before_is}
use Rattle.debug_session.proofs.action.one_action.Goals as goal

pub returns : goal.returns
returns c =
    let text = c.args.text.now in
    let end = c.action_len-end in
    before_is ends_action text end.result
    (position_or_len_is ends_action text end.result 0 end.ensures.within end.ensures.before
    end.ensures.end)
