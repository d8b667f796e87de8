use Rattle.std.proofs.Common.{sym}
use Rattle.device_play.proofs.line_watcher.print_end_of.Goals as goal

pub returns-clause-puts : goal.returns-clause-puts
returns-clause-puts g c = λ start play stands.
    rw (
      sym (c.steps.ensures.stands start play stands),
      sym (c.next_pc.ensures start play stands),
      sym (c.exec.ensures start play stands),
    )
    c.print_end.ensures.puts
