use Rattle.std.proofs.Common.{◌∙◌, ap, rules}
use Rattle.part_definitions.specs.Attestation.{key_read, derived_key}
use Rattle.swatt_rom.proofs.Steps.{derived_key-first}
use Rattle.swatt_rom.proofs.phase.Phase.after_attesting.Goals as goal

pub returns : goal.returns
returns g c = λ rest count attests.
    let digest = g.D.Digest32.hash.digest_of in
    let words = c.args.words.now in
    derived_key-first digest c.new.result c.bounds_of.result
    c.metadata_bytes-bytes.result.items words rest (search rules) count attests
    (c.new.ensures.bytes ∙ c.derived_key.ensures
    ∙ ap (λ bytes. derived_key digest bytes c.deref-2.result.now)
    (c.deref.ensures.0 ∙ c.key_bytes-key.ensures)
    ∙ ap (derived_key digest (key_read words))
    (c.deref-2.ensures.0 ∙ c.metadata_bytes-bytes.ensures.bytes))
    c.new.ensures.next c.bounds_of.ensures c.metadata_bytes-bytes.ensures.bytes
