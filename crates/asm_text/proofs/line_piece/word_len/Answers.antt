use Rattle.std.proofs.{Common.{◌∙◌, rules, tests}, lemmas.Iterator.{YieldsList-from_slice, Search.position_from_yields_List}}
use Rattle.asm_text.{specs.Word.ends_word, proofs.Cuts.first_or_length}
use Rattle.asm_text.proofs.line_piece.word_len.Goals as goal

pub returns-clause-count : goal.returns-clause-count
returns-clause-count c =
    c.unwrap_or.ensures ∙ first_or_length ends_word c.args.characters.now c.position.result
    (position_from_yields_List ends_word _ _ c.position.result c.position.ensures.ran
    (YieldsList-from_slice _ c.iter.ensures.rest) (λ x b q k. search (rules, tests)))
