use Rattle.std.proofs.Common.{◌≡◌, ◌∙◌, ◌++◌, ap, ℕ, length, rules, arith, [], ◌∷◌}
use Rattle.part_definitions.specs.Attestation.{bytes_of_words}
use Rattle.report_verifier.proofs.Pushes.{six-pushed}
use Rattle.report_verifier.proofs.metadata.push_first.Goals as goal

pub returns : goal.returns
returns c = λ empty.
    let expect = c.args.expect.now in
    let bounds = expect.bounds in
    let size : length expect.chal ≡ 32 = search rules in
    six-pushed 80 c.args.metadata.now c.push.new.self c.push_word.new.self c.push_word-2.new.self
    c.push_word-3.new.self c.push_word-4.new.self c.push_word-5.new.self
    expect.chal (bytes_of_words (bounds.er_min ∷ []))
    (bytes_of_words (bounds.er_max ∷ []))
    (bytes_of_words (bounds.or_min ∷ [])) (bytes_of_words (bounds.or_max ∷ []))
    (bytes_of_words (c.flag_word.result ∷ [])) empty (omega (arith, size))
    c.push.ensures c.push_word.ensures c.push_word-2.ensures c.push_word-3.ensures
    c.push_word-4.ensures c.push_word-5.ensures
    ∙ ap (λ (word : ℕ). expect.chal ++ bytes_of_words
    (bounds.er_min ∷ bounds.er_max ∷ bounds.or_min ∷ bounds.or_max ∷ word ∷ []))
    c.flag_word.ensures
