use Rattle.std.proofs.Common.{◌≡◌, ◌∙◌, Some, refl, sym}
use Rattle.device_live.proofs.{Alive.alive, ToCome.keeps-later}
use Rattle.device_live.proofs.living.Living.live_on.Goals as goal

pub returns-clause-lives : goal.returns-clause-lives
returns-clause-lives g c = λ start life stands on.
    let is : c.args.self.now.live ≡ Some c.in-Some.live =
    sym c.take.ensures.value ∙ c.in-Some.is in
    let live = alive g.D.Digest32.hash g.G.TraceFlag.flag c.args.self.now start life stands
    c.in-Some.live is in
    let so = c.in_ok-play_and_print.ensures.plays start life live stands.to_come on in (
      record {
        live = c.in_ok-play_and_print.field-0;
        there = refl;
        stands = so.0;
        to_come = rw c.forget_before.ensures.events
            (keeps-later c.args.self.now.to_come.events life c.args.steps on stands.to_come);
        latest = stands.latest;
        greatest = c.forget_before.ensures.greatest ∙ stands.greatest;
      },
      so.1,
    )
