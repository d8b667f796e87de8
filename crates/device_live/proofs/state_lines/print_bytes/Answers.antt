-- The line that shows bytes, as it is put.
use Rattle.std.proofs.{Common.{◌≡◌, ◌<◌, ◌++◌, ℕ, [], ◌∷◌, ap, append_assoc, arith, codes, length, sym, ◌∙◌, subst}, lemmas.Bool.Decides.nat_tests}
use Rattle.device_types.specs.Address.{Bytes}
use Rattle.hex.specs.Hex.{encode_lower}
use Rattle.printed_lines.specs.Line.{word_digits}
use Rattle.device_live.specs.Answer.{memory_text}
use Rattle.outside_edge.{specs.Sink.{Puts, TakesPrefix}, proofs.SinkLemmas.{prefix_of_more, puts-failed, puts_after}}
use Rattle.device_live.proofs.state_lines.print_bytes.Goals as goal

abbrev memory_head : ℕ → Bytes
memory_head place = (codes "memory" ++ 32 ∷ word_digits place) ++ codes " "

memory-parts : (place : ℕ) (bytes : Bytes) → 0 < length bytes
    → memory_text place bytes ≡ (memory_head place ++ encode_lower bytes) ++ codes "\n"
memory-parts place [] some = absurd (omega (arith, some))
memory-parts place (byte ∷ bytes) some =
    ap (λ (text : Bytes). text ++ codes "\n")
    (sym (append_assoc (codes "memory" ++ 32 ∷ word_digits place) (codes " ")
    (encode_lower (byte ∷ bytes))))

pub returns-in_err-print_digits-clause-puts : goal.returns-in_err-print_digits-clause-puts
returns-in_err-print_digits-clause-puts g c =
    let some : 0 < length c.args.bytes.now = grind (arith, nat_tests, c.if-is_empty.ensures) in
    let head : c.as_slice-2.result.now ≡ memory_head c.args.place =
    c.as_slice-2.ensures ∙ c.push-2.ensures.text
    ∙ ap (λ (l : Bytes). l ++ codes " ") (c.add_word.ensures.text
    ∙ ap (λ (l : Bytes). l ++ 32 ∷ word_digits c.args.place)
    (c.push.ensures.text ∙ ap (λ (l : Bytes). l ++ codes "memory") c.new-head.ensures)) in
    let text : Bytes = memory_head c.args.place ++ encode_lower c.args.bytes.now in
    puts-failed g.W.Sink.stands _ _ _ c.from_residual.result c.from_residual.ensures.0
    (subst
    (λ (l : Bytes). TakesPrefix g.W.Sink.stands c.args.sink.now c.print_digits.new.sink l)
    (sym (memory-parts c.args.place c.args.bytes.now some))
    (prefix_of_more g.W.Sink.stands _ _ text (codes "\n")
    (rw head at c.in_err-print_digits.ensures.puts.prefix)))

pub returns-clause-puts : goal.returns-clause-puts
returns-clause-puts g c =
    let some : 0 < length c.args.bytes.now = grind (arith, nat_tests, c.if-is_empty.ensures) in
    let head : c.as_slice-2.result.now ≡ memory_head c.args.place =
    c.as_slice-2.ensures ∙ c.push-2.ensures.text
    ∙ ap (λ (l : Bytes). l ++ codes " ") (c.add_word.ensures.text
    ∙ ap (λ (l : Bytes). l ++ 32 ∷ word_digits c.args.place)
    (c.push.ensures.text ∙ ap (λ (l : Bytes). l ++ codes "memory") c.new-head.ensures)) in
    let text : Bytes = memory_head c.args.place ++ encode_lower c.args.bytes.now in
    subst
    (λ (l : Bytes). Puts g.W.Sink.stands c.args.sink.now c.put_all-2.new.sink l c.put_all-2.result)
    (sym (memory-parts c.args.place c.args.bytes.now some))
    (puts_after g.W.Sink.stands _ _ _ text (codes "\n") c.put_all-2.result
    (rw head at c.in_ok-print_digits.ensures.puts.all) c.put_all-2.ensures.puts)
