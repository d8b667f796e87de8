use Rattle.std.proofs.Common.{◌≡◌, ◌∙◌, ℕ, List, None, ap, sym, subst, rules}
use Rattle.msp_decode.{specs.{Completion.{head_part, words_of}, EncodeFault.first_fault, Law.AreReadAs}, proofs.WordLemmas.words_are_read}
use Rattle.msp_decode.proofs.encoding.encode.Goals as goal

pub returns-in-None-clause-read : goal.returns-in-None-clause-read
returns-in-None-clause-read c =
    let same : c.new.result ≡ words_of c.args.instr.now = search rules in
    let none : first_fault (head_part c.args.instr.now) ≡ None =
    ap first_fault (sym c.head_part-head.ensures) ∙ sym c.first_fault.ensures.value
    ∙ c.in-None.is in
    subst (λ (words : List ℕ). AreReadAs words c.args.instr.now) (sym same)
    (words_are_read c.args.instr.now none)
