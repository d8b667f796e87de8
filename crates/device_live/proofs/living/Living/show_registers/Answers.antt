use Rattle.device_live.proofs.Alive.{alive, never-gone}
use Rattle.device_live.proofs.living.Living.show_registers.Goals as goal

pub returns-in-Some-clause-puts : goal.returns-in-Some-clause-puts
returns-in-Some-clause-puts g c = λ start life stands.
    c.print_registers.ensures.puts start life
    (alive g.D.Digest32.hash g.G.TraceFlag.flag c.args.self.now start life stands
    c.in-Some.live c.in-Some.is)

pub returns-in-None-clause-puts : goal.returns-in-None-clause-puts
returns-in-None-clause-puts g c = λ start life stands.
    absurd (never-gone g.D.Digest32.hash g.G.TraceFlag.flag c.args.self.now start life stands
    c.in-None.is)
