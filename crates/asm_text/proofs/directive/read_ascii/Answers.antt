use Rattle.std.proofs.Common.{◌++◌, ◌∷◌, [], refl}
use Rattle.asm_text.{specs.Statement.is_readable, proofs.Behind.gathered-more}
use Rattle.asm_text.proofs.directive.read_ascii.Goals as goal

pub loop-part-preserved : goal.loop-part-preserved
loop-part-preserved c =
    let at = c.loop-part.invariant in (
      at.0 ++ tt ∷ [],
      gathered-more is_readable at.0 (at.0 ++ tt ∷ []) c.loop-part.part-iterator c.next.new.self
          c.in-Some.part.now tt at.1 c.in-Some.ensures.steps c.in_ok-check_readable.ensures
          refl,
    )
