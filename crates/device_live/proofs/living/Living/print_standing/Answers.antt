use Rattle.std.proofs.Common.{◌≡◌, ◌∙◌}
use Rattle.device_play.proofs.WatchedPlay.{length-play_of}
use Rattle.device_live.{specs.Life.{events_in, play_lived}, proofs.Alive.{alive, never-gone}}
use Rattle.device_live.proofs.living.Living.print_standing.Goals as goal

pub returns-in-Some-clause-puts : goal.returns-in-Some-clause-puts
returns-in-Some-clause-puts g c = λ start life stands.
    let live = alive g.D.Digest32.hash g.G.TraceFlag.flag c.args.self.now start life stands
    c.in-Some.live c.in-Some.is in
    let steps : c.steps.result ≡ life.steps =
    c.steps.ensures.stands start (play_lived life) live
    ∙ length-play_of (events_in life) life.steps in
    rw (
      steps,
      c.next_pc.ensures start (play_lived life) live,
      c.exec.ensures start
          (play_lived life) live,
    ) at
    c.print_place.ensures.puts

pub returns-in-None-clause-puts : goal.returns-in-None-clause-puts
returns-in-None-clause-puts g c = λ start life stands.
    absurd (never-gone g.D.Digest32.hash g.G.TraceFlag.flag c.args.self.now start life stands
    c.in-None.is)
