use Rattle.msp_exec.proofs.Courses.{follows}
use Rattle.msp_exec.proofs.cpu.Cpu.try_take.Goals as goal

pub returns-clause-stands : goal.returns-clause-stands
returns-clause-stands c = λ state stands takes.
    follows c.args.self.now c.step.new.self state c.args.value stands (c.step.ensures.follows takes)
