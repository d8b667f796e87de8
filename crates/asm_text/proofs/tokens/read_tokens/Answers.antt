use Rattle.std.proofs.Common.{◌∙◌, ap, Ok, ◌≡◌, ◌++◌, ◌∷◌, []}
use Rattle.asm_text.proofs.TokenSteps.{ok_of_map_err, read_to-blank, read_to-comment, read_to-token, read_to-stray, read_to-end, piece_gives, token_within}
use Rattle.asm_text.proofs.tokens.read_tokens.Goals as goal

pub loop-at-preserved-in-Blank : goal.loop-at-preserved-in-Blank
loop-at-preserved-in-Blank c =
    read_to-blank c.loop-at.invariant c.loop-at-test.true
    (piece_gives _ _ _ c.loop-at.at c.args.line.now c.map_err.ensures.cases
    c.map_err.ensures.variant c.in_ok-map_err.was c.piece_of.ensures.piece
    ∙ c.in-Blank.is)

pub returns-in-Comment : goal.returns-in-Comment
returns-in-Comment c =
    read_to-comment c.loop-at.invariant c.loop-at-test.true
    (piece_gives _ _ _ c.loop-at.at c.args.line.now c.map_err.ensures.cases
    c.map_err.ensures.variant c.in_ok-map_err.was c.piece_of.ensures.piece
    ∙ c.in-Comment.is)

pub loop-at-preserved : goal.loop-at-preserved
loop-at-preserved c =
    let fits = token_within _ _ _ _ c.map_err.ensures.cases c.map_err.ensures.variant
    (c.in_ok-map_err.was ∙ ap (λ p. Ok p) c.in-Token.is) c.piece_of.ensures.within
    c.loop-at.invariant.within in
    let adds : c.add.new.self ≡ c.loop-at.tokens ++ c.in-Token.token ∷ [] =
    rw (ok_of_map_err _ c.add.result c.map_err-in-Token.result _ c.map_err-in-Token.ensures.cases
    c.map_err-in-Token.ensures.variant
    c.in_ok-map_err-in-Token.was) at c.add.ensures in
    read_to-token c.add.new.self c.in-Token.token c.in-Token.count c.loop-at.invariant
    c.loop-at-test.true fits.0 fits.1
    (piece_gives _ _ _ c.loop-at.at c.args.line.now c.map_err.ensures.cases
    c.map_err.ensures.variant c.in_ok-map_err.was c.piece_of.ensures.piece
    ∙ c.in-Token.is) adds

pub returns-in-Stray : goal.returns-in-Stray
returns-in-Stray c =
    read_to-stray c.loop-at.invariant c.loop-at-test.true
    (piece_gives _ _ _ c.loop-at.at c.args.line.now c.map_err.ensures.cases
    c.map_err.ensures.variant c.in_ok-map_err.was c.piece_of.ensures.piece
    ∙ c.in-Stray.is)

pub returns : goal.returns
returns c = read_to-end c.loop-at.invariant c.loop-at-test.false
