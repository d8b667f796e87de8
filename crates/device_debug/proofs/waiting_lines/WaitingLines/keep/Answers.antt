use Rattle.std.{proofs.Common.ap, specs.Prelude.is_ok}
use Rattle.device_debug.proofs.{ToldTexts.kept-is, waiting_lines.WaitingLines.keep.Goals.{in-Ok, in-Err}}
use Rattle.device_debug.proofs.waiting_lines.WaitingLines.keep.Goals as goal

pub returns-clause-waits : goal.returns-clause-waits
returns-clause-waits c =
    elim c.match-push.branch [
      | in-Ok w ↦ rw w.result-is (kept-is c.args.self.now c.self.inside.texts.items
          c.push.new.self.items _ c.args.text c.push.result c.push.ensures.items
          (ap is_ok w.in-Ok.is) c.self.view_is (cc))
      | in-Err w ↦ rw w.result-is tt
    ]
