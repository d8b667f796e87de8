use Rattle.trace_files.proofs.LineReadBack.{line_reads_back}
use Rattle.trace_files.proofs.line_law.trace_line_reads_back.Goals as goal

pub returns : goal.returns
returns c = line_reads_back
