use Rattle.trace_files.proofs.LineReadBack.{clean_iff}
use Rattle.trace_files.proofs.audit_law.clean_lines_have_no_offence.Goals as goal

pub returns : goal.returns
returns c = clean_iff
