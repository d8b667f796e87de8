use Rattle.std.proofs.Common.{◌+◌, ℕ, Bool, cond, List, ap₂}
use Rattle.sqlite_disk.specs.Events.{Event, replay}
use Rattle.sqlite_wal.specs.Recovery.{Image}
use Rattle.desk_database.proofs.FilesLemmas.{fresh_faults, fresh_leaves}
use Rattle.desk_database.proofs.system_places.SystemPlacesMemoryPlacesFileFrom.make.Goals as goal

abbrev image : List ℕ → List ℕ → Image
image log db = record { log = log; db = db }

abbrev seen : List ℕ → List ℕ → Bool → List Event → List ℕ
seen log db is_log history = (replay (cond is_log log db) history).seen

pub returns-in-Ok-clause-fresh : goal.returns-in-Ok-clause-fresh
returns-in-Ok-clause-fresh g c =
    let (log, db) = c.in-Ok.ensures.fresh in
    record {
      holds = ap₂ image (ap₂ (seen g.S.Start.log g.S.Start.db) log.0 log.1)
          (ap₂ (seen g.S.Start.log g.S.Start.db) db.0 db.1);
      leaves = λ after may.
          ap₂ image
          (fresh_leaves _ g.S.Start.log g.S.Start.db _ _ _ _ _ log.0 log.1 may.0)
          (fresh_leaves _ g.S.Start.log g.S.Start.db _ _ _ _ _ db.0 db.1 may.1);
      sound = ap₂ (λ (m n : ℕ). m + n)
          (fresh_faults g.S.Start.log g.S.Start.db _ _ _ _ log.0 log.1)
          (fresh_faults g.S.Start.log g.S.Start.db _ _ _ _ db.0 db.1);
    }
