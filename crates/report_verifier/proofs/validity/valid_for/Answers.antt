use Rattle.std.proofs.Common.{◌∙◌, ap, sym}
use Rattle.report_verifier.specs.Validity.{are_valid_for}
use Rattle.report_verifier.proofs.validity.valid_for.Goals as goal

pub returns-in-One : goal.returns-in-One
returns-in-One c =
    c.valid_one.ensures ∙ ap (λ version. are_valid_for version c.args.bounds.now) (sym c.in-One.is)

pub returns-in-Two : goal.returns-in-Two
returns-in-Two c =
    c.valid.ensures ∙ ap (λ version. are_valid_for version c.args.bounds.now) (sym c.in-Two.is)
