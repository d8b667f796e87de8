use Rattle.std.proofs.Common.{◌≡◌, ◌∙◌, ◌++◌, ap, List, ℕ, length, rules}
use Rattle.report_verifier.{specs.Expectation.{common_metadata, request_metadata}, proofs.Acceptance.length-first}
use Rattle.report_verifier.proofs.metadata.expected_metadata.Goals as goal

pub returns-clause-metadata : goal.returns-clause-metadata
returns-clause-metadata g c =
    let expect = c.args.expect.now in
    let first : c.push_first.new.metadata ≡ common_metadata expect c.args.report.now.exec =
    c.push_first.ensures c.new-metadata.ensures in
    let size : length c.push_first.new.metadata ≡ 42 =
    ap length first ∙ length-first expect c.args.report.now.exec (search rules) in
    c.push_request.ensures.request size
    ∙ ap (λ (before : List ℕ). before ++ request_metadata expect.version
    g.D.Digest32.hash.digest_of c.args.key.now expect c.args.report.now.aux) first

pub returns-clause-len : goal.returns-clause-len
returns-clause-len g c =
    let expect = c.args.expect.now in
    c.push_request.ensures.len
    (ap length (c.push_first.ensures c.new-metadata.ensures)
    ∙ length-first expect c.args.report.now.exec (search rules))
