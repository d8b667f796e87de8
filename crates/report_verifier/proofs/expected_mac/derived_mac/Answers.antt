use Rattle.std.proofs.Common.{◌∙◌, ap, [], append_assoc}
use Rattle.mem_map.specs.Image.{byte_in}
use Rattle.part_definitions.specs.Hmac.{hmac}
use Rattle.report_verifier.specs.Expectation.{image_code}
use Rattle.report_verifier.proofs.expected_mac.derived_mac.Goals as goal

pub returns : goal.returns
returns g c =
    let digest = g.D.Digest32.hash.digest_of in
    let key = c.args.derived_key.now in
    let code = image_code (byte_in c.args.image.now) c.args.expect.now.bounds in
    c.finish.ensures key _ (c.update-2.ensures key _ (c.take_code.ensures key _
    (c.update.ensures key [] c.new-mac.ensures)))
    ∙ ap (hmac digest key) (append_assoc c.args.metadata.now code c.args.output.now)
