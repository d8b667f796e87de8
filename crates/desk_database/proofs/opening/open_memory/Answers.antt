use Rattle.std.proofs.Common.{◌≡◌, subst, subst₂}
use Rattle.desk_database.{specs.Opening.{FailsAs, IsOpenOver, WhyUnopened}, proofs.FilesLemmas.spared_leaves}
use Rattle.desk_database.proofs.opening.open_memory.Goals as goal

pub returns-in-Ok-open_files-clause-opened : goal.returns-in-Ok-open_files-clause-opened
returns-in-Ok-open_files-clause-opened g c clean =
    let memory = c.in-Ok-open_files.memory in
    subst (λ i. IsOpenOver i memory.store memory.desk.items memory.entries.items)
    c.in-Ok.ensures.fresh.holds (c.in-Ok-open_files.ensures.opened clean)

pub returns-in-Err-open_files-clause-cause : goal.returns-in-Err-open_files-clause-cause
returns-in-Err-open_files-clause-cause g c clean =
    subst₂ (λ n i. FailsAs WhyUnopened n i c.in-Err-open_files.left c.in-Err-open_files.fault)
    c.in-Ok.ensures.fresh.sound c.in-Ok.ensures.fresh.holds
    (c.in-Err-open_files.ensures.refused.cause clean)

pub returns-in-Err-open_files-clause-spared : goal.returns-in-Err-open_files-clause-spared
returns-in-Err-open_files-clause-spared g c clean =
    spared_leaves _ (λ after. after ≡ g.P.MemoryPlaces.image c.args.name.now) _ _
    c.in-Ok.ensures.fresh.leaves c.in-Ok.ensures.fresh.holds c.in-Err-open_files.left
    (c.in-Err-open_files.ensures.refused.spared clean)
