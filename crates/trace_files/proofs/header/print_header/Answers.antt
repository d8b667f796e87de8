use Rattle.std.specs.Fmt.{digits}
use Rattle.trace_files.specs.WaveText.{header}
use Rattle.trace_files.proofs.header.print_header.Goals as goal

pub returns-clause-puts : goal.returns-clause-puts
unfolding header digits
returns-clause-puts g c = c.put_all.ensures.puts
