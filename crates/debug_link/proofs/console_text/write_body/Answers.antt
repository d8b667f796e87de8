use Rattle.std.proofs.Common.{◌∙◌, ◌∷◌, List, ℕ, ap, arith}
use Rattle.debug_link.proofs.AddedText.{written-behind}
use Rattle.debug_link.proofs.console_text.write_body.Goals as goal

pub returns : goal.returns
returns c =
    written-behind c.args.body.now c.encode_to_slice.new.output 79 (omega arith)
    ∙ ap (λ (digits : List ℕ). 79 ∷ digits) c.in-Ok.ensures.written
