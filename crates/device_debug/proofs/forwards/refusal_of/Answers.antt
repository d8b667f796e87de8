use Rattle.std.proofs.Common.{◌∙◌}
use Rattle.debug_session.specs.Place.{play_to}
use Rattle.debug_walk.specs.Walk.{place_of}
use Rattle.device_debug.proofs.Refusals.{refusal-was}
use Rattle.device_debug.proofs.forwards.refusal_of.Goals as goal

pub returns : goal.returns
returns g c = λ run walks before is.
    let place = place_of c.args.walk.now in
    let line = c.line.ensures run.start (play_to run place) (rw c.live.ensures walks.stands) in
    c.told_rule.ensures
    ∙ refusal-was run before place c.broken_rule.result is c.requires
    (c.broken_rule.ensures ∙ line.refused)
