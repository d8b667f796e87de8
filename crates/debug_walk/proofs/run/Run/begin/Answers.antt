use Rattle.std.proofs.Common.{◌≡◌, ◌∙◌, refl, sym, subst}
use Rattle.device_core.specs.declared.live.Live.TheVariants.{Held}
use Rattle.device_play.proofs.WatchedPlay.{at-count}
use Rattle.play_script.specs.Script.{events_of}
use Rattle.debug_walk.specs.{Copies.played_run, Stretch.stretch_from, Walk.IsStretch}
use Rattle.debug_walk.proofs.run.Run.begin.Goals as goal

pub returns-clause-walks : goal.returns-clause-walks
returns-clause-walks g c =
    let device = c.in_ok-device.device in
    let events = events_of c.args.self.now.script.now in
    rw (c.at.ensures.live, c.at.ensures.playback)
    (record {
      stands = at-count (Held device) events (sym c.in_ok-device.ensures.steps)
          c.in_ok-device.ensures.stands;
      left = λ later from. c.playback.ensures later;
    })

pub returns-clause-stretch : goal.returns-clause-stretch
returns-clause-stretch g c = λ watches.
    let begun : c.at.result.stretch ≡ stretch_from 0 c.at.result.stretch.level =
    c.at.ensures.begin ∙ rw c.in_ok-device.ensures.steps refl in
    subst (IsStretch watches (played_run g.D.Digest32.hash c.args.self.now) 0) (sym begun)
    (record {
      begin = refl;
      begins = λ highest. refl;
      boot = refl;
      first = refl;
      last = refl;
      refused = refl;
    })
