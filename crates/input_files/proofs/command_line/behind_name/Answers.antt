-- The words of a command line behind the first.
use Rattle.std.{proofs.{Common.{◌≡◌, ◌∙◌, ◌<◌, ◌++◌, ◌∷◌, ◌↔◌, [], ℕ, List, Option, Some, None, length, drop, ap, refl, arith, rules}, lemmas.Iterator.{items_from_collect, Adapters.YieldsList-from_vec}}, specs.{Prelude.{IsSome, String, option_to_list}, declared.alloc.{Global.Global, AllocError.AllocError}, Vec.Iter.{into_iter_items, into_iter_len}}}
use Rattle.input_files.specs.CommandLine.{texts}
use Rattle.input_files.proofs.command_line.behind_name.Goals as goal

no-words : (words : List (String Global)) (count : ℕ) → count ≡ length words → (0 < count → ⊥)
    → texts words ≡ drop 1 (texts words)
no-words [] count is none = refl
no-words (word ∷ words) count is none = absurd (none (omega (arith, is)))

-- what is left once the first was taken, if there is one
words-behind : (first : Option (String Global)) (words rest : List (String Global)) (count : ℕ)
    → words ≡ option_to_list first ++ rest
    → (IsSome first ↔ (0 < count))
    → count ≡ length words
    → texts rest ≡ drop 1 (texts words)
words-behind (Some word) words rest count items some size = rw items refl
words-behind None words rest count items some size =
    rw items (no-words rest count (size ∙ ap length items)
    (λ more. absurd (cc (some.1 more))))

pub returns : goal.returns
returns c =
    let words = c.args.words in
    let rest = c.next-name.new.self in
    let all = items_from_collect {E = AllocError} c.collect.result c.collect.ensures.ran
    (YieldsList-from_vec (into_iter_items rest) refl rest.rest.ok.0) in
    let behind = words-behind c.next-name.result (into_iter_items words) (into_iter_items rest)
    (into_iter_len words) c.next-name.ensures.items c.next-name.ensures.variant words.rest.ok.0 in
    search (rules, all, behind)
