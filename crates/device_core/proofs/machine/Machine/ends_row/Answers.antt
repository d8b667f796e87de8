use Rattle.std.proofs.Common.{◌∙◌, sym}
use Rattle.device_core.proofs.Turns.{runs-there}
use Rattle.device_core.proofs.machine.Machine.ends_row.Goals as goal

pub returns-in-Running : goal.returns-in-Running
returns-in-Running g c = λ start logs stands stage on.
    c.ends_running_row.ensures start logs stands (sym c.in-Running.is ∙ stage) on

pub returns-in-Held : goal.returns-in-Held
returns-in-Held g c = λ start logs stands stage on regs runs.
    absurd (runs-there c.args.stage logs.progress regs c.in-Held.is stage runs)
