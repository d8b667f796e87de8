use Rattle.report_text.proofs.ReadLines.{passed_over}
use Rattle.report_text.proofs.law.verdict_lines_are_passed_over.Goals as goal

pub returns : goal.returns
returns c = passed_over
