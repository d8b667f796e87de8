use Rattle.std.proofs.Common.{◌≡◌, ◌++◌, ◌∷◌, []}
use Rattle.asm_text.{specs.Source.statement_of, proofs.{Behind.gathered-more, TokenSteps.ok_of_map_err}}
use Rattle.asm_text.proofs.source_reader.read_lines.Goals as goal

pub loop-number-preserved : goal.loop-number-preserved
loop-number-preserved c =
    let adds : c.add.new.self ≡ c.loop-number.source ++ c.in_ok-statement.statement ∷ [] =
    rw (ok_of_map_err _ c.add.result c.map_err.result _ c.map_err.ensures.cases
    c.map_err.ensures.variant c.in_ok-map_err.was) at c.add.ensures in
    gathered-more statement_of c.loop-number.source c.add.new.self c.loop-number.number-iterator
    c.next.new.self (c.in-Some.number, c.in-Some.line.now) c.in_ok-statement.statement
    c.loop-number.invariant c.in-Some.ensures.steps c.in_ok-statement.ensures adds
