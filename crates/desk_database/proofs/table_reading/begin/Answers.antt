use Rattle.desk_database.proofs.Moved.{begun}
use Rattle.desk_database.proofs.table_reading.begin.Goals as goal

pub returns-clause-begun : goal.returns-clause-begun
returns-clause-begun g c clean =
    let seek = c.in_ok-seek.ensures in
    begun (g.S.Store.view c.args.store.now) _ _ _ _ c.new-key.ensures (seek.sound clean)
    (seek.ok clean)
