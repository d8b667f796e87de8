-- What blanking the records leaves.
use Rattle.std.proofs.Common.{◌≡◌, List, [], ◌∷◌, map, refl, arith}
use Rattle.device_types.specs.ExecFlag.{SeenRecord, last_pc, starts_run}
use Rattle.device_trace.specs.Blank.{blank_seen}

pub last_pc-blank : (records : List SeenRecord) → last_pc (map blank_seen records) ≡ last_pc records
last_pc-blank [] = refl
last_pc-blank (now ∷ before) = refl

pub starts_run-blank : (now : SeenRecord) → starts_run (blank_seen now) ≡ starts_run now
starts_run-blank now = grind arith
