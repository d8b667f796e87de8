use Rattle.mem_map.specs.Image.{byte_in}
use Rattle.std.proofs.Common.{[]}
use Rattle.verifier_desk.specs.Desk.{desk_with}
use Rattle.desk_cli.proofs.desk.serve_alone.Goals as goal

pub returns-clause-served : goal.returns-clause-served
returns-clause-served g c =
    let values = c.args.values in (
      _,
      _,
      c.serve_from.ensures.served (desk_with values.devices (byte_in values.image) values.policy [])
          c.new-desk.ensures
          (record { has = tt; keeps = λ honest found may. absurd may; whole = λ honest. tt }),
    )
