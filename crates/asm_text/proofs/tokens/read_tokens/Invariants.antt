use Rattle.std.proofs.Common.{length, ◌-◌}
use Rattle.asm_text.{specs.Token.tokens_of, proofs.TokenSteps.ReadTo}
use Rattle.asm_text.proofs.tokens.read_tokens.Given as goal

abbrev pub invariant-loop-at : goal.invariant-loop-at
invariant-loop-at l = ReadTo (tokens_of l.line) l.at l.line l.tokens

abbrev pub decreases-loop-at : goal.decreases-loop-at
decreases-loop-at l = length l.line - l.at
