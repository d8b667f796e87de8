use Rattle.std.proofs.Common.{◌∙◌, subst, rules}
use Rattle.hmac_core.specs.Hmac.{HmacStandsFor}
use Rattle.part_definitions.specs.Attestation.{call_key}
use Rattle.swatt_rom.proofs.Steps.{HashesRegion-first}
use Rattle.swatt_rom.proofs.phase.Phase.after_derived_key.Goals as goal

pub returns-in-Some : goal.returns-in-Some
returns-in-Some g c = λ words key bounds metadata count attests.
    let hash = g.D.Digest32.hash in
    let digest = hash.digest_of in
    let mac = c.mac_of-mac.result in
    record {
      same_bounds = c.in-Some.ensures.bounds ∙ bounds;
      same_length = search rules;
      hashes = HashesRegion-first hash mac words count
          (subst (HmacStandsFor hash mac (call_key digest words)) metadata
          (subst (λ key. HmacStandsFor hash mac key c.args.metadata.now) key
          c.mac_of-mac.ensures));
      attests = attests;
    }
