use Rattle.std.proofs.Common.{◌∙◌, ◌++◌, ◌∷◌, [], get_or, ap, rules, arith}
use Rattle.swatt_rom.proofs.WordsPassed.{bytes_of_words-more}
use Rattle.swatt_rom.proofs.word_bytes.bytes_of.Goals as goal

pub loop-word-preserved : goal.loop-word-preserved
loop-word-preserved g c = record {
  bytes = c.push-in-loop-word.ensures.items
      ∙ ap (λ prefix. prefix ++ get_or c.to_le_bytes.result 1 0 ∷ []) c.push.ensures.items
      ∙ bytes_of_words-more c.args.words.now c.loop-word.word-index c.loop-word.bytes.items
      (get_or c.to_le_bytes.result 0 0) (get_or c.to_le_bytes.result 1 0)
      (omega arith) c.loop-word.invariant.bytes
      (ap (λ bytes. get_or bytes 0 0) c.to_le_bytes.ensures)
      (ap (λ bytes. get_or bytes 1 0) c.to_le_bytes.ensures) (search rules);
  size =
      omega (arith, c.push-in-loop-word.ensures.len, c.push.ensures.len);
}
