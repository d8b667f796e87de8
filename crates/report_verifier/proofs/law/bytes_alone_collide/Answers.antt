-- Two lists with one SHA-256, of which one has a number that is no byte.
use Rattle.std.proofs.Common.{◌≡◌, ◌∙◌, ℕ, zero, suc, ◌+◌, List, [], ◌∷◌, ◌++◌, take, ap, refl, sym}
use Rattle.sha2.specs.Sha256.{add_state, compress, digest_bytes, first_words, hash_after, initial_hash_256, next_word, padded_message, rounds, schedule, sha256}
use Rattle.report_verifier.proofs.law.bytes_alone_collide.Goals as goal

same-schedule : (left right : List ℕ) → first_words left 16 ≡ first_words right 16
    → (n : ℕ) → schedule left n ≡ schedule right n
unfolding schedule
same-schedule left right same zero = same
same-schedule left right same (suc n) =
    ap (λ (words : List ℕ). words ++ next_word words (n + 16) ∷ [])
    (same-schedule left right same n)

same-state : (state left right : List ℕ) → first_words left 16 ≡ first_words right 16
    → compress state left ≡ compress state right
unfolding compress
same-state state left right same =
    ap (λ (words : List ℕ). add_state state (rounds state words 64))
    (same-schedule left right same 48)

-- the one block of a short message
abbrev block_of : List ℕ → List ℕ
block_of message = take 64 (padded_message message)

abbrev digest_of_block : List ℕ → List ℕ
digest_of_block block = digest_bytes (compress initial_hash_256 block) 8

first-digest : sha256 (1 ∷ 0 ∷ []) ≡ digest_of_block (block_of (1 ∷ 0 ∷ []))
unfolding sha256 hash_after
first-digest = refl

second-digest : sha256 (0 ∷ 256 ∷ []) ≡ digest_of_block (block_of (0 ∷ 256 ∷ []))
unfolding sha256 hash_after
second-digest = refl

same-words : first_words (block_of (1 ∷ 0 ∷ [])) 16 ≡ first_words (block_of (0 ∷ 256 ∷ [])) 16
unfolding first_words
same-words = refl

one-digest : sha256 (1 ∷ 0 ∷ []) ≡ sha256 (0 ∷ 256 ∷ [])
one-digest =
    first-digest
    ∙ ap (λ (state : List ℕ). digest_bytes state 8)
    (same-state initial_hash_256 (block_of (1 ∷ 0 ∷ [])) (block_of (0 ∷ 256 ∷ [])) same-words)
    ∙ sym second-digest

pub returns-clause-one_digest : goal.returns-clause-one_digest
returns-clause-one_digest c = one-digest
