use Rattle.std.proofs.Common.{rules}
use Rattle.swatt_rom.proofs.Steps.{decided-first}
use Rattle.swatt_rom.proofs.phase.Phase.end_request.Goals as goal

pub returns : goal.returns
returns g c =
    decided-first g.D.Digest32.hash.digest_of c.decide.result c.args.words (search rules)
    c.decide.ensures.words c.decide.ensures.decision c.decide.ensures.low c.decide.ensures.high
