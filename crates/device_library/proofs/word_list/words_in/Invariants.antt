use Rattle.std.proofs.Common.{◌≡◌, map, take}
use Rattle.input_files.specs.CommandLine.{texts}
use Rattle.device_library.proofs.word_list.words_in.Given as goal

abbrev pub invariant-loop-word : goal.invariant-loop-word
invariant-loop-word l =
    texts l.words.items ≡ map (λ word. word.now) (take l.word-index l.word-items)
