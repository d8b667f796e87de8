use Rattle.std.proofs.Common.{◌≡◌, drop}
use Rattle.verifier_desk.specs.DeviceKey.{first_gone}
use Rattle.verifier_desk.proofs.gone.first_gone.Given as goal

abbrev pub invariant-loop-place : goal.invariant-loop-place
invariant-loop-place l =
    first_gone l.entries 0 l.keys ≡ first_gone l.entries l.place (drop l.place l.keys)
