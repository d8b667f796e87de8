use Rattle.std.proofs.{Common.{arith, ◌≡◌, ◌∙◌, ◌++◌, ◌+◌, ◌<◌, ap, sym, length, flat_map, drop, get_or}, lemmas.Option.get_or_from_slice_get}
use Rattle.msp_asm.{specs.Statement.word_bytes, proofs.Lists.words_more}
use Rattle.msp_asm.proofs.statement_bytes.push_instruction.Goals as goal

pub unreachable-requires : goal.unreachable-requires
unreachable-requires c =
    let fault = (c.encode.ensures.fault c.in_default.field-0).0 c.in_default.is in cc

pub loop-i-preserved : goal.loop-i-preserved
loop-i-preserved c =
    let at = c.loop-i in
    let words = c.in-Ok.words in
    let below : at.i < length words =
    omega (arith, c.loop-i-test.true, c.len-i-end.ensures.value) in
    let word : get_or words at.i 0 ≡ c.in-Some.word =
    get_or_from_slice_get words at.i c.in-Some.word 0 (sym c.get.ensures ∙ c.in-Some.is) in
    let adds : c.push_word.new.bytes.items ≡ at.bytes.items ++ word_bytes (get_or words at.i 0) =
    c.in_ok-push_word.ensures ∙ ap (λ w. at.bytes.items ++ word_bytes w) (sym word) in
    words_more word_bytes (c.args.bytes.now.items ++ flat_map word_bytes words) at.bytes.items words
    at.i 0 below at.invariant
    ∙ ap (λ prefix. prefix ++ flat_map word_bytes (drop (at.i + 1) words)) (sym adds)
