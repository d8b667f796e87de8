use Rattle.std.{proofs.{Common.{inl, sym, true≢false, ◌∙◌}, lemmas.Result.{IfErr-weaker, IfOk-weaker}}, specs.Prelude.IsTrue}
use Rattle.sqlite_pool.specs.Opening.{IsBlankFile}
use Rattle.sqlite_store.specs.Unopened.{image, state_of}
use Rattle.desk_database.{specs.{Begun.IsBegun, Held.IsKept, MemoryTables.page_size}, proofs.StepLemmas.{given_through, refused_as, refused_kept, refused_through}}
use Rattle.desk_database.proofs.memory_store.make_tables.Goals as goal

pub returns-then-is_blank-clause-refused : goal.returns-then-is_blank-clause-refused
returns-then-is_blank-clause-refused g c =
    IfErr-weaker c.create_tables.result _ _ (λ e refused. refused_as IsKept _ _ c.args.files e.0 e.1
    (λ clean may. inl ((c.requires.blank clean).0 c.if-is_blank.true)) refused)
    c.create_tables.ensures.refused

pub returns-in-Err-None-default-clause-given : goal.returns-in-Err-None-default-clause-given
returns-in-Err-None-default-clause-given g c =
    let files = c.args.files in
    let begun = c.in-Err-None-default.begun in
    let something : IsTrue (state_of files).is_clean → ¬ IsBlankFile page_size (image files) =
    λ clean blank.
    true≢false (sym ((c.requires.blank clean).1 blank) ∙ c.if-is_blank.false) in
    let lacks : IsBegun files begun =
    rw c.in-Err-None-default.field-0-0-is at c.in-Err-None-default.ensures.lacks in
    IfOk-weaker c.create_tables-in-Err-None-default.result _ _
    (λ store given. given_through files begun c.requires.size something lacks store given)
    c.create_tables-in-Err-None-default.ensures.given

pub returns-in-Err-None-default-clause-refused : goal.returns-in-Err-None-default-clause-refused
returns-in-Err-None-default-clause-refused g c =
    let files = c.args.files in
    let begun = c.in-Err-None-default.begun in
    let something : IsTrue (state_of files).is_clean → ¬ IsBlankFile page_size (image files) =
    λ clean blank.
    true≢false (sym ((c.requires.blank clean).1 blank) ∙ c.if-is_blank.false) in
    let lacks : IsBegun files begun =
    rw c.in-Err-None-default.field-0-0-is at c.in-Err-None-default.ensures.lacks in
    IfErr-weaker c.create_tables-in-Err-None-default.result _ _
    (λ e refused. refused_through files begun c.requires.size something lacks e.0 e.1 refused)
    c.create_tables-in-Err-None-default.ensures.refused

pub returns-in-Err-Some-default-clause-refused : goal.returns-in-Err-Some-default-clause-refused
returns-in-Err-Some-default-clause-refused g c =
    let files = c.args.files in
    let something : IsTrue (state_of files).is_clean → ¬ IsBlankFile page_size (image files) =
    λ clean blank.
    true≢false (sym ((c.requires.blank clean).1 blank) ∙ c.if-is_blank.false) in
    refused_kept _ files c.in-Err-Some-default.error c.in-Err-Some-default.left something
    (rw c.in-Err-Some-default.field-0-0-is at c.in-Err-Some-default.ensures.lacks)
