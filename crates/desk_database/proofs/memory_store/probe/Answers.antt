use Rattle.std.{proofs.Common.{IsTrue, sym, subst}, specs.Prelude.◌↔◌}
use Rattle.sqlite_pool.specs.Opening.{IsBlankFile}
use Rattle.desk_database.{specs.{Opening.image_of, MemoryTables.page_size}, proofs.{FailLemmas.from_log, FilesLemmas.read_image}}
use Rattle.desk_database.proofs.memory_store.probe.Goals as goal

pub returns-in-Err-clause-cause : goal.returns-in-Err-clause-cause
returns-in-Err-clause-cause g c clean =
    let old = c.args.files.now in
    let now = c.probe_log.new.files in
    let read = c.probe_log.ensures.same in
    rw c.probe_fault.ensures (from_log _ _ (image_of g.D.Disk old) _ c.in-Err.error
    (read_image old now read.log read.db) (c.in-Err.ensures.cause clean))

pub returns-in-Ok-probe_blank-clause-blank : goal.returns-in-Ok-probe_blank-clause-blank
returns-in-Ok-probe_blank-clause-blank g c clean =
    let read = c.probe_log.ensures.same in
    let is_blank = c.in-Ok-probe_blank.is_blank in
    let known = rw c.requires.size at (c.in-Ok-probe_blank.ensures.ok clean) in
    subst (λ i. IsTrue is_blank ↔ IsBlankFile page_size i)
    (sym (read_image c.args.files.now c.probe_log.new.files read.log read.db)) known
