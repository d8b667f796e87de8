use Rattle.std.proofs.{Common.{◌∙◌, ◌-◌, ◌++◌, List, ℕ, ap, arith, length}, Math.Path.subst}
use Rattle.hmac_core.specs.Hmac.{HmacStandsFor}
use Rattle.mem_map.specs.Image.{byte_in, image_byte}
use Rattle.part_definitions.specs.Memory.{bytes_from}
use Rattle.report_verifier.proofs.expected_mac.take_piece.Goals as goal

pub returns : goal.returns
returns g c = λ key message stands.
    let code : List ℕ =
    bytes_from (image_byte (byte_in c.args.image.now)) c.args.first (c.args.end - c.args.first) in
    subst (λ (all : List ℕ). HmacStandsFor g.D.Digest32.hash
    c.update.new.self key (message ++ all))
    (c.as_slice.ensures
    ∙ c.push_code.ensures (omega (arith, c.requires.few, ap length c.new-piece.ensures))
    ∙ ap (λ (before : List ℕ). before ++ code) c.new-piece.ensures)
    (c.update.ensures key message stands)
