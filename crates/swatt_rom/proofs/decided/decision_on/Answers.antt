use Rattle.std.{proofs.Common.{◌∙◌, ap, sym, rules}, specs.Str.bytes_eq}
use Rattle.part_definitions.specs.Metadata.{token_in}
use Rattle.swatt_rom.proofs.Decisions.{token_differs}
use Rattle.swatt_rom.proofs.decided.decision_on.Goals as goal

pub returns-then-not-same_bytes : goal.returns-then-not-same_bytes
returns-then-not-same_bytes g c =
    token_differs g.D.Digest32.hash.digest_of c.args.key.now c.args.metadata.now _
    (sym (c.same_bytes.ensures
    ∙ ap (λ token. bytes_eq token c.right_token-token.result) c.token_of.ensures.token
    ∙ ap (bytes_eq (token_in c.args.metadata.now)) c.right_token-token.ensures)
    ∙ search rules)
