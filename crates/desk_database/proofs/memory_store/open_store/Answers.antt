use denote.Enum.Bare.{sameb}
use Rattle.std.proofs.Common.{◌≡◌, ◌∙◌, false, true, inl, inr, not, sym, true≢false}
use Rattle.sqlite_wal.specs.Recovery.{Image}
use Rattle.desk_database.{specs.{contracts.log_fit.LogFit.the_type, declared.log_fit.LogFit.{LogFit, TheVariants.{Begun, Fits, Other}}, Log.{FitsLog, IsLogFit}, Begun.IsBegun, Held.IsSpared, Opening.{WhyUnopened, image_of}}, proofs.{FailLemmas.why_more, FilesLemmas.{looked_spared, now_clean, spared_by_files}, HeldLemmas.can_replay, LogLemmas.is_of_making, StepLemmas.{begun_is_spared, cause_on, lacks_on, over_files, something_on}}}
use Rattle.desk_database.proofs.memory_store.open_store.Goals as goal

is_fit : (image : Image) (fit : LogFit) → not (sameb the_type fit Fits) ≡ false
    → IsLogFit image fit → FitsLog image
is_fit image Fits same found = found
is_fit image Begun same found = absurd (true≢false same)
is_fit image Other same found = absurd (true≢false same)

is_not_fit : (image : Image) (fit : LogFit) → not (sameb the_type fit Fits) ≡ true
    → IsLogFit image fit → ¬ FitsLog image
is_not_fit image Fits same found = absurd (true≢false (sym same))
is_not_fit image Begun same found = found.1
is_not_fit image Other same found = λ fits. found (is_of_making image fits)

-- the log is another's
pub returns-then-ne-clause-refused : goal.returns-then-ne-clause-refused
returns-then-ne-clause-refused g c = record {
  cause = λ clean.
      is_not_fit (image_of g.D.Disk c.args.files) c.in-Ok.found.log
      (sym c.ne.ensures ∙ c.if-ne.true) (c.in-Ok.ensures.fit clean);
  spared = λ clean. looked_spared c.args.files c.probe.new.files c.probe.ensures.same;
}

-- the files could not be read
pub returns-in-Err-clause-refused : goal.returns-in-Err-clause-refused
returns-in-Err-clause-refused g c =
    let image = image_of g.D.Disk c.args.files in
    record {
      cause = λ clean. why_more _ _ _ image (WhyUnopened image) c.in-Err.fault
          (λ none may. none (can_replay image may)) (c.in-Err.ensures.cause clean);
      spared = λ clean. looked_spared c.args.files c.probe.new.files c.probe.ensures.same;
    }

-- a store
pub returns-in-Ok-open_tables-clause-given : goal.returns-in-Ok-open_tables-clause-given
returns-in-Ok-open_tables-clause-given g c =
    let read = c.probe.ensures.same in
    over_files c.args.files c.probe.new.files read.log read.db c.in-Ok-unopened.fresh
    c.in-Ok-unopened.ensures.files c.in-Ok-open_tables.store read.counts c.in-Ok.ensures.replays
    c.in-Ok-open_tables.ensures.given

pub returns-in-Ok-open_tables-clause-fits : goal.returns-in-Ok-open_tables-clause-fits
returns-in-Ok-open_tables-clause-fits g c clean =
    let read = c.probe.ensures.same in
    is_fit (image_of g.D.Disk c.args.files) c.in-Ok.found.log (sym c.ne.ensures ∙ c.if-ne.false)
    (c.in-Ok.ensures.fit (now_clean c.args.files c.probe.new.files read.log read.db
    c.in-Ok-unopened.fresh c.in-Ok-unopened.ensures.files
    (c.in-Ok-open_tables.ensures.given.honest clean)))

-- no tables
pub returns-then-found-clause-refused : goal.returns-then-found-clause-refused
returns-then-found-clause-refused g c = record {
  cause = λ clean.
      ∣ (c.in-Ok.ensures.replays clean, inl ((c.in-Ok.ensures.blank clean).0 c.if-found.true)) ∣₁;
  spared = λ clean. looked_spared c.args.files c.probe.new.files c.probe.ensures.same;
}

pub open_tables-requires-clause-something : goal.open_tables-requires-clause-something
open_tables-requires-clause-something g c clean =
    let read = c.probe.ensures.same in
    something_on c.args.files c.probe.new.files read.log read.db c.in-Ok-unopened.fresh
    c.in-Ok-unopened.ensures.files c.in-Ok.found.is_blank c.in-Ok.ensures.blank c.if-found.false
    clean

pub returns-in-Err-None-default-clause-refused : goal.returns-in-Err-None-default-clause-refused
returns-in-Err-None-default-clause-refused g c =
    let read = c.probe.ensures.same in
    let old = c.args.files in
    let now = c.probe.new.files in
    let fresh = c.in-Ok-unopened.fresh in
    let made = c.in-Ok-unopened.ensures.files in
    let size = c.in-Ok-unopened.ensures.size in
    let left = c.in-Err-None-default.left in
    let begun : IsBegun fresh left =
    rw c.in-Err-None-default.field-0-0-is at c.in-Err-None-default.ensures.lacks in
    let something =
    something_on old now read.log read.db fresh made c.in-Ok.found.is_blank c.in-Ok.ensures.blank
    c.if-found.false in
    record {
      cause = λ clean. ∣ (
        c.in-Ok.ensures.replays
            (now_clean old now read.log read.db fresh made (begun.honest clean)),
        inr (inl (lacks_on old now read.log read.db fresh made left size something begun clean)),
      ) ∣₁;
      spared = λ clean. begun_is_spared old now read.log read.db fresh made left size begun clean;
    }

-- an error
pub returns-in-Err-Some-default-clause-refused : goal.returns-in-Err-Some-default-clause-refused
returns-in-Err-Some-default-clause-refused g c =
    let read = c.probe.ensures.same in
    let old = c.args.files in
    let now = c.probe.new.files in
    let fresh = c.in-Ok-unopened.fresh in
    let made = c.in-Ok-unopened.ensures.files in
    let refused = rw c.in-Err-Some-default.field-0-0-is at c.in-Err-Some-default.ensures.lacks in
    record {
      cause = λ clean. rw c.store_fault.ensures (cause_on old now read.log read.db fresh made
          IsSpared (WhyUnopened (image_of g.D.Disk old)) c.in-Err-Some-default.error
          c.in-Err-Some-default.left read.counts (λ none. none) refused clean);
      spared = λ clean after may. spared_by_files old now read.log read.db fresh made after
          ((refused.spared clean).crash after may);
    }
