use Rattle.std.proofs.Common.{◌∙◌}
use Rattle.device_live.proofs.Alive.{never-gone, steps-of-life}
use Rattle.device_live.proofs.living.Living.steps.Goals as goal

pub returns-in-Some : goal.returns-in-Some
returns-in-Some g c = λ start life stands.
    c.steps.ensures.made
    ∙ steps-of-life g.D.Digest32.hash g.G.TraceFlag.flag c.args.self.now start life stands
    c.in-Some.live c.in-Some.is

pub returns-in-None : goal.returns-in-None
returns-in-None g c = λ start life stands.
    absurd (never-gone g.D.Digest32.hash g.G.TraceFlag.flag c.args.self.now start life stands
    c.in-None.is)
