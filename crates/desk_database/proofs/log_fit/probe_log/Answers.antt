use Rattle.std.proofs.{Common.{◌≡◌, length, rules, arith}, lemmas.Result.err_from_is_err_and}
use Rattle.sqlite_wal.{proofs.{CleanLemmas.halves, OutcomeLemmas.HasCause-weaker}, specs.{Files.seen_image, Opening.RefusesLog}}
use Rattle.desk_database.{specs.Log.stored_page, proofs.LogLemmas.{fits_by_file, fits_by_log, fits_without}}
use Rattle.desk_database.proofs.log_fit.probe_log.Goals as goal

pub returns-in_err-numbers-clause-cause : goal.returns-in_err-numbers-clause-cause
returns-in_err-numbers-clause-cause g c =
    let p = err_from_is_err_and c.from_residual.result c.from_residual.ensures.1 in
    let cause = rw c.requires.size at c.in_err-numbers.ensures.cause in
    let why = RefusesLog stored_page (g.D.Disk.seen c.args.files.now.log) in
    rw (p.1, p.2) (λ both. HasCause-weaker _ _ _ _ why why c.in_err-numbers.field-0.0
    (λ more. omega (arith, more)) (λ x. x) (cause.0 (halves g.D.Disk _ _ both).0))

pub returns-then-is_empty-clause-fit : goal.returns-then-is_empty-clause-fit
returns-then-is_empty-clause-fit g c clean =
    let image = seen_image g.D.Disk c.args.files.now.log c.args.files.now.db in
    let frames = rw c.requires.size at (c.in_ok-numbers.ensures.ok (halves g.D.Disk _ _ clean).0) in
    let none : length c.in_ok-numbers.numbers.items ≡ 0 = search rules in
    fits_without image _ frames.0 none

pub returns-in_default-clause-fit : goal.returns-in_default-clause-fit
returns-in_default-clause-fit g c clean =
    let both = halves g.D.Disk _ _ clean in
    let image = seen_image g.D.Disk c.args.files.now.log c.args.files.now.db in
    let frames = rw c.requires.size at (c.in_ok-numbers.ensures.ok both.0) in
    let whole = rw c.in-Whole.is at (c.in_ok-read_first_page.ensures.page both.1) in
    let page = rw c.deref.ensures.value at c.in_default.ensures.page in
    fits_by_file image _ frames.0 (omega (arith, whole.0.0)) (page image.log image.db frames.1)

pub returns-clause-fit : goal.returns-clause-fit
returns-clause-fit g c clean =
    let both = halves g.D.Disk _ _ clean in
    let image = seen_image g.D.Disk c.args.files.now.log c.args.files.now.db in
    let in_log = c.read_number.ensures.same.clean both.0 in
    let frames = rw c.requires.size at (c.in_ok-numbers.ensures.ok in_log) in
    let whole = rw c.in-Whole.is at (c.in_ok-read_first_page.ensures.page both.1) in
    let page = rw c.deref.ensures.value at c.in-Some.ensures.page in
    let within = rw c.deref.ensures.value at c.in-Some.ensures.within in
    let log = rw (c.probe_frames.ensures.same.seen, c.version_offset.ensures)
    at (c.in_ok-log.ensures.value both.0) in
    fits_by_log image _ frames.0 c.in-Some.frame c.in-Whole.version c.in_ok-log.log c.fit_of.result
    (page image.log image.db frames.1) whole.1 log (λ none. absurd (omega (arith, within, none)))
    whole.0 c.fit_of.ensures
