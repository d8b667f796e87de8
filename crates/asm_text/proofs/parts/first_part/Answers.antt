use Rattle.std.{proofs.{Common.{◌+◌, ◌<◌, ◌∷◌, ◌∙◌, ap, sym, arith, take, length}, lemmas.List.take_rest}, specs.List.slice_split}
use Rattle.asm_text.{specs.Operand.is_comma, proofs.Cuts.{parts-cut, parts-uncut}}
use Rattle.asm_text.proofs.parts.first_part.Goals as goal

pub returns-then-end-tokens : goal.returns-then-end-tokens
returns-then-end-tokens c =
    parts-uncut c.args.tokens.now c.part_len-end.result c.part_len-end.ensures.count
    c.if-end-tokens.true

pub returns : goal.returns
returns c =
    let tokens = c.args.tokens.now in
    let end = c.part_len-end.result in
    let below : end < length tokens = omega (
      arith,
      c.part_len-end.ensures.within,
      c.if-end-tokens.false,
    ) in
    parts-cut tokens end c.part_len-end.ensures.count below
    ∙ ap (λ rest. take end tokens ∷ slice_split is_comma rest) (sym (take_rest tokens (end + 1)))
