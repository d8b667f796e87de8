use Rattle.std.proofs.Common.{None, Some, refl}
use Rattle.desk_cli.proofs.moving.keep_and_put.Goals as goal

pub returns-in-Ok-clause-keeps : goal.returns-in-Ok-clause-keeps
returns-in-Ok-clause-keeps g c = λ had has. record {
  result = None;
  noted = rw c.in-Ok.is at (c.note_all.ensures had has);
  puts = λ none. c.put_text.ensures.puts;
  fails = tt;
}

pub returns-clause-keeps : goal.returns-clause-keeps
returns-clause-keeps g c = λ had has. record {
  result = Some c.in-Err.fault;
  noted = rw c.in-Err.is at (c.note_all.ensures had has);
  puts = λ none. absurd (cc none);
  fails = (c.unkept_status.ensures, refl);
}
