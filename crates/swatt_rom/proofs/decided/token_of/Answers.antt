use Rattle.std.proofs.{Common.{◌-◌, length, drop, arith}, lemmas.List.{take_all, length-drop}}
use Rattle.swatt_rom.proofs.decided.token_of.Goals as goal

pub returns-clause-token : goal.returns-clause-token
returns-clause-token c =
    take_all (length c.args.metadata.now - 48) (drop 48 c.args.metadata.now)
    (omega (arith, length-drop 48 c.args.metadata.now))
