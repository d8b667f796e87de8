use Rattle.std.{proofs.Common.{◌++◌, ◌∷◌, ℕ, List, rules}, specs.{Prelude.codes, Fmt.decimal}}
use Rattle.device_types.specs.Report.{fields_of}
use Rattle.printed_lines.specs.Line.{flag_digit, report_keyword, version_pieces}
use Rattle.line_buffer.proofs.PieceLines.{with_pieces-append}
use Rattle.report_text.proofs.ReportWords.{challenge_pieces}
use Rattle.report_text.proofs.report_line.print_head.Goals as goal

pub returns-clause-puts : goal.returns-clause-puts
returns-clause-puts g c =
    let report = fields_of c.args.view.now in
    let front : List ℕ =
    ((report_keyword report.version ++ 32 ∷ decimal report.step) ++ 32 ∷ codes "exec")
    ++ 32 ∷ flag_digit report.exec in
    rw (with_pieces-append front (version_pieces report.version report.aux report.count)
    (challenge_pieces report.chal report.bounds))
    (search rules)
