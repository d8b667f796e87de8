use Rattle.std.proofs.Common.{◌≡◌, subst, subst₂}
use Rattle.desk_database.{specs.Opening.{FailsAs, IsMadeOver, WhyUnmade}, proofs.FilesLemmas.kept_leaves}
use Rattle.desk_database.proofs.opening.make_memory.Goals as goal

pub returns-in-Ok-make_files-clause-made : goal.returns-in-Ok-make_files-clause-made
returns-in-Ok-make_files-clause-made g c clean =
    let memory = c.in-Ok-make_files.memory in
    subst (λ i. IsMadeOver i memory.store)
    c.in-Ok.ensures.fresh.holds (c.in-Ok-make_files.ensures.made clean)

pub returns-in-Err-make_files-clause-cause : goal.returns-in-Err-make_files-clause-cause
returns-in-Err-make_files-clause-cause g c clean =
    subst₂ (λ n i. FailsAs WhyUnmade n i c.in-Err-make_files.left c.in-Err-make_files.fault)
    c.in-Ok.ensures.fresh.sound c.in-Ok.ensures.fresh.holds
    (c.in-Err-make_files.ensures.refused.cause clean)

pub returns-in-Err-make_files-clause-spared : goal.returns-in-Err-make_files-clause-spared
returns-in-Err-make_files-clause-spared g c clean =
    kept_leaves _ (λ after. after ≡ g.P.MemoryPlaces.image c.args.name.now) _ _
    c.in-Ok.ensures.fresh.leaves c.in-Ok.ensures.fresh.holds c.in-Err-make_files.left
    (c.in-Err-make_files.ensures.refused.spared clean)
