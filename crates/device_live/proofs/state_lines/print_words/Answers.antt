use Rattle.std.proofs.{Common.{◌≡◌, ◌∙◌, ◌++◌, [], ap, arith, codes, drop, map, subst}, lemmas.List.drop_all}
use Rattle.device_types.specs.Address.{Bytes}
use Rattle.outside_edge.specs.Sink.{Puts}
use Rattle.printed_lines.specs.Line.{with_pieces, word_digits}
use Rattle.device_live.specs.Answer.{registers_text}
use Rattle.device_live.proofs.state_lines.print_words.Goals as goal

pub returns-clause-puts : goal.returns-clause-puts
returns-clause-puts g c =
    let words = c.args.registers.now in
    let at = c.loop-register.register-index in
    let none : drop at words ≡ [] = drop_all at words (omega (arith, c.loop-register-test.false)) in
    let text : c.loop-register.line ≡ with_pieces (codes "registers") (map word_digits words) =
    rw none at c.loop-register.invariant.text in
    let line : c.as_slice.result.now ≡ registers_text words =
    c.as_slice.ensures ∙ c.push-2.ensures.text ∙ ap (λ (l : Bytes). l ++ codes "\n") text in
    subst
    (λ (l : Bytes). Puts g.W.Sink.stands c.args.sink.now c.put_all.new.sink l c.put_all.result)
    line c.put_all.ensures.puts
