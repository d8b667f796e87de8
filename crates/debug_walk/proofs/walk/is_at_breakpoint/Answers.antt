use Rattle.debug_walk.proofs.Views.{registers-at}
use Rattle.debug_walk.proofs.walk.is_at_breakpoint.Goals as goal

pub returns-then-is_awake : goal.returns-then-is_awake
returns-then-is_awake g c = λ run playback midway.
    rw (
      ← (c.is_awake.ensures run playback midway),
      ← (registers-at run midway c.registers.result.now c.registers.ensures),
      c.if-is_awake.true,
    ) c.has_breakpoint.ensures

pub returns-else-is_awake : goal.returns-else-is_awake
returns-else-is_awake g c = λ run playback midway.
    rw (← (c.is_awake.ensures run playback midway), c.if-is_awake.false)
