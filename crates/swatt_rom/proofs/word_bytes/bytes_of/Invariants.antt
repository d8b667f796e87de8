use Rattle.std.proofs.Common.{◌≡◌, ◌*◌, length, take}
use Rattle.part_definitions.specs.Attestation.{bytes_of_words}
use Rattle.swatt_rom.proofs.word_bytes.bytes_of.Given as goal

abbrev pub invariant-loop-word : goal.invariant-loop-word
invariant-loop-word g l = record {
  bytes : l.bytes.items ≡ bytes_of_words (take l.word-index l.words);
  size : length l.bytes.items ≡ 2 * l.word-index;
}
