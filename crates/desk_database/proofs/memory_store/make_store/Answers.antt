use denote.Enum.Bare.{sameb}
use Rattle.std.{proofs.Common.{◌≡◌, ◌∙◌, IsTrue, false, sym, subst, true≢false}, specs.Prelude.◌↔◌}
use Rattle.sqlite_pool.specs.Opening.{IsBlankFile}
use Rattle.sqlite_wal.specs.Recovery.{Image}
use Rattle.desk_database.{specs.{contracts.log_fit.LogFit.the_type, declared.log_fit.LogFit.{LogFit, TheVariants.{Begun, Fits, Other}}, Log.{FitsMaking, IsLogFit}, Held.IsKept, Opening.{WhyUnmade, image_of}, MemoryTables.page_size}, proofs.{FailLemmas.why_more, FilesLemmas.{kept_by_files, looked_kept, now_clean, same_image}, HeldLemmas.can_replay, LogLemmas.is_of_making, StepLemmas.{cause_on, over_files}}}
use Rattle.desk_database.proofs.memory_store.make_store.Goals as goal

-- what was not told to be another's is of no other opening
no_other : (image : Image) (fit : LogFit) → sameb the_type fit Other ≡ false
    → IsLogFit image fit → FitsMaking image
no_other image Fits same found = is_of_making image found
no_other image Begun same found = found.0
no_other image Other same found = absurd (true≢false same)

pub returns-in-Ok-make_tables-clause-fits : goal.returns-in-Ok-make_tables-clause-fits
returns-in-Ok-make_tables-clause-fits g c clean =
    let read = c.probe.ensures.same in
    no_other (image_of g.D.Disk c.args.files) c.in-Ok.found.log (sym c.eq.ensures ∙ c.if-eq.false)
    (c.in-Ok.ensures.fit (now_clean c.args.files c.probe.new.files read.log read.db
    c.in-Ok-unopened.fresh c.in-Ok-unopened.ensures.files
    (c.in-Ok-make_tables.ensures.given.honest clean)))

pub make_tables-requires-clause-blank : goal.make_tables-requires-clause-blank
make_tables-requires-clause-blank g c clean =
    let read = c.probe.ensures.same in
    let old = c.args.files in
    let now = c.probe.new.files in
    let fresh = c.in-Ok-unopened.fresh in
    let made = c.in-Ok-unopened.ensures.files in
    let is_blank = c.in-Ok.found.is_blank in
    subst (λ i. IsTrue is_blank ↔ IsBlankFile page_size i)
    (sym (same_image old now read.log read.db fresh made))
    (c.in-Ok.ensures.blank (now_clean old now read.log read.db fresh made clean))

pub returns-in-Ok-make_tables-clause-given : goal.returns-in-Ok-make_tables-clause-given
returns-in-Ok-make_tables-clause-given g c =
    let read = c.probe.ensures.same in
    over_files c.args.files c.probe.new.files read.log read.db c.in-Ok-unopened.fresh
    c.in-Ok-unopened.ensures.files c.in-Ok-make_tables.store read.counts c.in-Ok.ensures.replays
    c.in-Ok-make_tables.ensures.given

-- the files could not be read
pub returns-in-Err-clause-refused : goal.returns-in-Err-clause-refused
returns-in-Err-clause-refused g c =
    let image = image_of g.D.Disk c.args.files in
    record {
      cause = λ clean. why_more _ _ _ image (WhyUnmade image) c.in-Err.fault
          (λ none may. none (can_replay image may)) (c.in-Err.ensures.cause clean);
      spared = λ clean. looked_kept c.args.files c.probe.new.files c.probe.ensures.same;
    }

pub returns-in-Err-make_tables-clause-refused : goal.returns-in-Err-make_tables-clause-refused
returns-in-Err-make_tables-clause-refused g c =
    let read = c.probe.ensures.same in
    let old = c.args.files in
    let now = c.probe.new.files in
    let fresh = c.in-Ok-unopened.fresh in
    let made = c.in-Ok-unopened.ensures.files in
    let refused = c.in-Err-make_tables.ensures.refused in
    record {
      cause = λ clean. rw c.store_fault.ensures (cause_on old now read.log read.db fresh made IsKept
          (WhyUnmade (image_of g.D.Disk old)) c.in-Err-make_tables.error c.in-Err-make_tables.left
          read.counts (λ none. none) refused clean);
      spared = λ clean after may. kept_by_files old now read.log read.db fresh made after
          ((refused.spared clean).crash after may);
    }
