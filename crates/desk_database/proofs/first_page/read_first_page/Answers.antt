use Rattle.std.proofs.Common.{◌≡◌, ◌≤◌, List, ℕ, length, sym, ap, subst, ◌∙◌, arith, true≢false}
use Rattle.sqlite_format.specs.Bytes.{u32_at}
use Rattle.sqlite_disk.specs.Disk.{Holds}
use Rattle.sqlite_wal.{proofs.PartLemmas.held_is_part, specs.Recovery.file_page}
use Rattle.desk_database.{specs.{Log.{EndsWithSum, stored_page}, MemoryTables.page_size}, proofs.LogLemmas.version_in_file}
use Rattle.desk_database.proofs.first_page.read_first_page.Goals as goal

pub returns-then-ends_with_sum-clause-page : goal.returns-then-ends_with_sum-clause-page
returns-then-ends_with_sum-clause-page g c clean =
    let file = g.D.Disk.seen c.args.db.now in
    let bytes = c.read_at.new.buf in
    let holds : Holds file 0 bytes =
    rw c.len.ensures.seen at (c.in_ok-read_at.ensures.read clean (omega arith)) in
    let page : file_page stored_page file 1 ≡ bytes =
    held_is_part file bytes 0 4096 holds c.read_at.auto.buf in
    let long : 4096 ≤ length file = omega (arith, holds.within, c.read_at.auto.buf) in (
      (
        long,
        subst (EndsWithSum page_size) (sym page)
            (c.ends_with_sum.ensures.0 c.if-ends_with_sum.true),
      ),
      c.get_u32.ensures ∙ ap (λ (p : List ℕ). u32_at p 60) (sym page) ∙ version_in_file file,
    )

pub returns-else-ends_with_sum-clause-page : goal.returns-else-ends_with_sum-clause-page
returns-else-ends_with_sum-clause-page g c clean =
    let file = g.D.Disk.seen c.args.db.now in
    let bytes = c.read_at.new.buf in
    let holds : Holds file 0 bytes =
    rw c.len.ensures.seen at (c.in_ok-read_at.ensures.read clean (omega arith)) in
    let page : file_page stored_page file 1 ≡ bytes =
    held_is_part file bytes 0 4096 holds c.read_at.auto.buf in (
      omega (arith, holds.within, c.read_at.auto.buf),
      λ whole. true≢false
          (sym (c.ends_with_sum.ensures.1 (subst (EndsWithSum page_size) page whole.1))
          ∙ c.if-ends_with_sum.false),
    )
