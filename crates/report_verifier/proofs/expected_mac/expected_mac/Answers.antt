use Rattle.std.proofs.Common.{rules, ◌∙◌, ap, sym, ◌++◌, List, ℕ}
use Rattle.device_types.specs.Report.{fields_of}
use Rattle.mem_map.specs.Image.{byte_in}
use Rattle.part_definitions.specs.{Attestation.derived_key, Hmac.hmac}
use Rattle.report_verifier.{specs.Expectation.{expected_metadata, image_code}, proofs.Acceptance.take-chal}
use Rattle.report_verifier.proofs.expected_mac.expected_mac.Goals as goal

pub returns : goal.returns
returns g c =
    let digest = g.D.Digest32.hash.digest_of in
    let key = c.args.key.now in
    let expect = c.args.expect.now in
    let report = fields_of c.args.report.now in
    let metadata = expected_metadata digest key expect report in
    let code = image_code (byte_in c.args.image.now) expect.bounds in
    let same_key = c.hmac-derived_key.ensures
    ∙ ap (hmac digest key) (sym (take-chal digest key expect report (search rules))) in
    c.derived_mac.ensures
    ∙ ap (λ (mac_key : List ℕ). hmac digest mac_key
    (c.as_slice.result.now ++ (code ++ c.output_bytes-output.result.now))) same_key
    ∙ ap (λ (bytes : List ℕ). hmac digest (derived_key digest key metadata)
    (bytes ++ (code ++ c.output_bytes-output.result.now)))
    (c.as_slice.ensures ∙ c.expected_metadata-metadata.ensures.metadata)
    ∙ ap (λ (output : List ℕ). hmac digest (derived_key digest key metadata)
    (metadata ++ (code ++ output))) c.output_bytes-output.ensures
