use Rattle.std.proofs.Common.{◌≡◌, ◌+◌, ◌++◌, ◌∷◌, ◌∙◌, [], ℕ, List, length, length-append, refl, subst, sym, rules, arith}
use Rattle.part_definitions.specs.Request.{ATTESTS}
use Rattle.swatt_rom.{specs.{RomCall.next_word, Phase.{PhaseStandsFor, IsBeforeReturn}, declared.phase.Phase.TheVariants.{WritesDerivedKey, WritesInnerDigest, WritesMac}}, proofs.{WordsPassed.{bounds_read-append, call_key-append, metadata_read-append, decision_read-append}, Accesses.next_word-decision, Steps.{goes_on, ends_with, decided-more, decided-denies, decided-attests, derived_key-more, inner_digest-more, inner_digest-last, mac-last, mac-more}}}
use Rattle.swatt_rom.proofs.phase.Phase.pass_write.Goals as goal

pub returns-in-WritesHighWord : goal.returns-in-WritesHighWord
returns-in-WritesHighWord g c = λ sp value words stands.
    decided-more g.D.Digest32.hash.digest_of c.in-WritesHighWord.decided 0 1 words _ refl
    (subst (λ phase. PhaseStandsFor g.D.Digest32.hash phase words)
    c.in-WritesHighWord.is stands)

pub returns-in-WritesLowWord : goal.returns-in-WritesLowWord
returns-in-WritesLowWord g c = λ sp value words stands.
    decided-more g.D.Digest32.hash.digest_of c.in-WritesLowWord.decided 1 2 words _ refl
    (subst (λ phase. PhaseStandsFor g.D.Digest32.hash phase words)
    c.in-WritesLowWord.is stands)

pub returns-in-WritesDecision : goal.returns-in-WritesDecision
returns-in-WritesDecision g c = λ sp value words stands.
    let hash = g.D.Digest32.hash in
    let digest = hash.digest_of in
    let decided = c.in-WritesDecision.decided in
    let has = subst (λ phase. PhaseStandsFor hash phase words) c.in-WritesDecision.is stands in
    subst (λ word. IsBeforeReturn decided.decision (words ++ word ∷ []))
    (sym (next_word-decision hash decided sp value words has))
    (decided-denies digest decided words has (search rules))

pub returns-in-WritesDecision-2 : goal.returns-in-WritesDecision-2
returns-in-WritesDecision-2 g c = λ sp value words stands.
    let hash = g.D.Digest32.hash in
    let decided = c.in-WritesDecision.decided in
    let has = subst (λ phase. PhaseStandsFor hash phase words) c.in-WritesDecision.is stands in
    subst (λ word. PhaseStandsFor hash c.after_attesting.result (words ++ word ∷ []))
    (sym (next_word-decision hash decided sp value words has))
    (decided-attests hash c.after_attesting.result decided words
    c.after_attesting.ensures (search rules) has)

pub returns-in_err-pass-in-WritesDerivedKey : goal.returns-in_err-pass-in-WritesDerivedKey
returns-in_err-pass-in-WritesDerivedKey g c = λ sp value words stands.
    let hash = g.D.Digest32.hash in
    let digest = hash.digest_of in
    let next : c.pass.new.self.next ≡ c.in-WritesDerivedKey.key.next + 1 = search rules in
    let word = next_word digest sp words value in
    goes_on hash
    (WritesDerivedKey c.pass.new.self c.in-WritesDerivedKey.bounds c.in-WritesDerivedKey.bytes)
    _ (words ++ word ∷ []) (search rules)
    (derived_key-more digest c.in-WritesDerivedKey.key c.pass.new.self
    c.in-WritesDerivedKey.bounds c.in-WritesDerivedKey.bytes.items words word
    c.pass.ensures.bytes next
    (subst (λ phase. PhaseStandsFor hash phase words) c.in-WritesDerivedKey.is stands))

pub returns-in_ok-pass-in-WritesDerivedKey : goal.returns-in_ok-pass-in-WritesDerivedKey
returns-in_ok-pass-in-WritesDerivedKey g c = λ sp value words stands.
    let hash = g.D.Digest32.hash in
    let digest = hash.digest_of in
    let key = c.in-WritesDerivedKey.key in
    let has =
    subst (λ phase. PhaseStandsFor hash phase words) c.in-WritesDerivedKey.is stands in
    let last : key.next + 1 ≡ 16 = search rules in
    let count : length words ≡ 77 + key.next = has.at_word.same_length in
    let word : List ℕ = next_word digest sp words value ∷ [] in
    c.after_derived_key.ensures (words ++ word)
    (c.pass.ensures.bytes ∙ has.at_word.same_bytes
    ∙ sym (call_key-append digest words word (omega arith)))
    (has.same_bounds ∙ sym (bounds_read-append words word (omega arith)))
    (c.deref.ensures.0 ∙ has.same_metadata ∙ sym (metadata_read-append words word (omega arith)))
    (omega (arith, length-append words word))
    (decision_read-append words word (omega arith) ∙ has.attests)

pub returns-in_err-pass-in-WritesInnerDigest : goal.returns-in_err-pass-in-WritesInnerDigest
returns-in_err-pass-in-WritesInnerDigest g c = λ sp value words stands.
    let hash = g.D.Digest32.hash in
    let digest = hash.digest_of in
    let inner = c.in-WritesInnerDigest.inner in
    let next : c.pass-in-WritesInnerDigest.new.self.next ≡ inner.next + 1 = search rules in
    let word = next_word digest sp words value in
    goes_on hash
    (WritesInnerDigest c.pass-in-WritesInnerDigest.new.self c.in-WritesInnerDigest.mac)
    _ (words ++ word ∷ []) (search rules)
    (inner_digest-more digest inner c.pass-in-WritesInnerDigest.new.self
    c.in-WritesInnerDigest.mac words word
    c.pass-in-WritesInnerDigest.ensures.bytes next
    (subst (λ phase. PhaseStandsFor hash phase words) c.in-WritesInnerDigest.is stands))

pub returns-in_ok-pass-in-WritesInnerDigest : goal.returns-in_ok-pass-in-WritesInnerDigest
returns-in_ok-pass-in-WritesInnerDigest g c = λ sp value words stands.
    let hash = g.D.Digest32.hash in
    let digest = hash.digest_of in
    let inner = c.in-WritesInnerDigest.inner in
    let last : inner.next + 1 ≡ 16 = search rules in
    inner_digest-last digest inner c.in-WritesInnerDigest.mac words
    (next_word digest sp words value) last
    (subst (λ phase. PhaseStandsFor hash phase words) c.in-WritesInnerDigest.is stands)

pub returns-in-WritesMac : goal.returns-in-WritesMac
returns-in-WritesMac g c = λ sp value words stands.
    let hash = g.D.Digest32.hash in
    let digest = hash.digest_of in
    let mac = c.in-WritesMac.mac in
    let rest = c.pass-in-WritesMac.new.self in
    let has = subst (λ phase. PhaseStandsFor hash phase words) c.in-WritesMac.is stands in
    let word = next_word digest sp words value in
    ends_with hash (WritesMac rest) c.pass-in-WritesMac.result c.and.result ATTESTS
    (words ++ word ∷ []) c.and.ensures
    (λ none. mac-more digest mac rest words word c.pass-in-WritesMac.ensures.bytes
    (c.pass-in-WritesMac.ensures.next none) has)
    (λ some. mac-last digest mac words word (c.pass-in-WritesMac.ensures.last.0 some) has)
