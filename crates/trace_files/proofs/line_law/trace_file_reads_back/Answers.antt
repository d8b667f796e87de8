use Rattle.trace_files.proofs.LineReadBack.{file_reads_back}
use Rattle.trace_files.proofs.line_law.trace_file_reads_back.Goals as goal

pub returns : goal.returns
returns c = file_reads_back
