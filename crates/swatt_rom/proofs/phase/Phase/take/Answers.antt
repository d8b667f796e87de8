use Rattle.std.proofs.Common.{◌≡◌, ◌+◌, ◌++◌, ◌∷◌, ◌∙◌, [], ap, subst, sym, rules}
use Rattle.part_definitions.specs.Attestation.{region_words}
use Rattle.swatt_rom.{specs.{RomCall.next_word, Phase.PhaseStandsFor, declared.phase.Phase.TheVariants.{ReadsRequest, ReadsRegion}}, proofs.{Accesses.{write-of, next_word-request, next_word-region}, Steps.{goes_on, region-more, region-last}}}
use Rattle.swatt_rom.proofs.phase.Phase.take.Goals as goal

pub returns-in_err-words-in-ReadsRequest : goal.returns-in_err-words-in-ReadsRequest
returns-in_err-words-in-ReadsRequest g c = λ sp words stands.
    let hash = g.D.Digest32.hash in
    let request = c.in-ReadsRequest.words in
    let has = subst (λ phase. PhaseStandsFor hash phase words) c.in-ReadsRequest.is stands in
    let more : c.take.new.self.words.items ≡ request.words.items ++ c.args.value ∷ [] =
    search rules in
    goes_on hash (ReadsRequest c.take.new.self) _
    (words ++ next_word hash.digest_of sp words c.args.value ∷ []) (search rules)
    (ap (λ word. words ++ word ∷ []) (next_word-request hash request sp c.args.value words has)
    ∙ ap (λ before. before ++ c.args.value ∷ []) has
    ∙ sym more)

pub returns-in_ok-words-in-ReadsRequest : goal.returns-in_ok-words-in-ReadsRequest
returns-in_ok-words-in-ReadsRequest g c = λ sp words stands.
    let hash = g.D.Digest32.hash in
    let digest = hash.digest_of in
    let has = subst (λ phase. PhaseStandsFor hash phase words) c.in-ReadsRequest.is stands in
    let all = c.in_ok-words-in-ReadsRequest.words in
    let passed : all ≡ words ++ next_word digest sp words c.args.value ∷ [] =
    c.in_ok-words-in-ReadsRequest.ensures.all
    ∙ sym (ap (λ before. before ++ c.args.value ∷ []) has)
    ∙ ap (λ word. words ++ word ∷ [])
    (sym (next_word-request hash c.in-ReadsRequest.words sp c.args.value words has)) in
    subst (PhaseStandsFor hash c.end_request.new.self) passed c.end_request.ensures

pub returns-in_err-pass-in-ReadsRegion : goal.returns-in_err-pass-in-ReadsRegion
returns-in_err-pass-in-ReadsRegion g c = λ sp words stands.
    let hash = g.D.Digest32.hash in
    let digest = hash.digest_of in
    let region = c.in-ReadsRegion.region in
    let mac = c.in-ReadsRegion.mac in
    let has = subst (λ phase. PhaseStandsFor hash phase words) c.in-ReadsRegion.is stands in
    let next : c.pass.new.self.next ≡ region.next + 1 = search rules in
    let later = ReadsRegion c.pass.new.self c.update_word.new.self in
    goes_on hash later _ (words ++ next_word digest sp words c.args.value ∷ [])
    (search rules)
    (subst (λ word. PhaseStandsFor hash later (words ++ word ∷ []))
    (sym (next_word-region hash region mac sp c.args.value words has))
    (region-more hash mac c.update_word.new.self region c.pass.new.self
    words c.args.value c.pass.ensures.bounds next c.update_word.ensures has))

pub returns-in_ok-pass-in-ReadsRegion : goal.returns-in_ok-pass-in-ReadsRegion
returns-in_ok-pass-in-ReadsRegion g c = λ sp words stands.
    let hash = g.D.Digest32.hash in
    let region = c.in-ReadsRegion.region in
    let mac = c.in-ReadsRegion.mac in
    let has = subst (λ phase. PhaseStandsFor hash phase words) c.in-ReadsRegion.is stands in
    let last : region.next + 1 ≡ region_words region.bounds = search rules in
    subst (λ word. PhaseStandsFor hash c.end_region.new.self (words ++ word ∷ []))
    (sym (next_word-region hash region mac sp c.args.value words has))
    (c.end_region.ensures (words ++ c.args.value ∷ [])
    (region-last hash mac c.update_word.new.self region words c.args.value last
    c.update_word.ensures has))

pub pass_write-requires : goal.pass_write-requires
pass_write-requires g c =
    write-of c.args.self.now c.in_default.not-ReadsRequest c.in_default.not-ReadsRegion

pub returns-in_default : goal.returns-in_default
returns-in_default g c = λ sp words stands. c.pass_write.ensures sp c.args.value words stands
