-- What an expression is seen as.
use Rattle.std.specs.Prelude.{Bool}
use Rattle.asm_text.specs.declared.term.Term.{Term}

-- a term, and whether it is subtracted
abbrev pub SignedTerm : Type 0
SignedTerm = Bool × Term
