use Rattle.std.proofs.Common.{refl}
use Rattle.device_trace.specs.Signals.{signals_at}
use Rattle.device_core.proofs.bus.signals.Goals as goal

pub returns-clause-signals : goal.returns-clause-signals
unfolding signals_at
returns-clause-signals c = λ start logs regs turn value dma.
    rw (
      dma,
      c.word_fetched.ensures start logs value,
      turn.same_kind,
      turn.same_pc,
      turn.same_access,
      turn.same_irq,
      turn.same_opcode,
    )
    refl
