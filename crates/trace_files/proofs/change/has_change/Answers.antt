use Rattle.std.{proofs.Common.refl, specs.Prelude.option_copied}
use Rattle.trace_files.proofs.Others.{any_in_two}
use Rattle.trace_files.proofs.change.has_change.Goals as goal

pub returns-then-is_any_told : goal.returns-then-is_any_told
returns-then-is_any_told c =
    rw (
      any_in_two (option_copied c.args.last) c.args.now.now,
      ← c.is_any_told.ensures,
      c.if-is_any_told.true,
    ) refl

pub returns-then-not-has_same_others : goal.returns-then-not-has_same_others
returns-then-not-has_same_others c =
    rw (
      any_in_two (option_copied c.args.last) c.args.now.now,
      ← c.is_any_told.ensures,
      c.if-is_any_told.false,
    )
    c.is_any_told-then-not-has_same_others.ensures

pub returns-else-not-has_same_others : goal.returns-else-not-has_same_others
returns-else-not-has_same_others c =
    rw (
      any_in_two (option_copied c.args.last) c.args.now.now,
      ← c.is_any_told.ensures,
      c.if-is_any_told.false,
      c.has_same_others.ensures c.if-not-has_same_others.false,
      c.if-not-has_same_others.false,
    ) refl
