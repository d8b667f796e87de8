use Rattle.desk_database.proofs.opening.copied_store.Goals as goal

pub returns-in-Ok-clause-kept : goal.returns-in-Ok-clause-kept
returns-in-Ok-clause-kept g c db may =
    c.rollback.ensures.quiet.outcomes db (c.checkpoint.ensures.quiet.outcomes db may)
