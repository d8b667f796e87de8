use Rattle.debug_walk.proofs.Views.{registers-at}
use Rattle.debug_walk.proofs.walk.is_awake.Goals as goal

pub returns-then-not-is_asleep : goal.returns-then-not-is_asleep
returns-then-not-is_asleep g c = λ run playback midway.
    let registers = c.registers-registers in
    rw (
      ← (registers-at run midway registers.result.now registers.ensures),
      ← c.is_asleep.ensures,
      c.if-not-is_asleep.true,
    )

pub returns-else-not-is_asleep : goal.returns-else-not-is_asleep
returns-else-not-is_asleep g c = λ run playback midway.
    let registers = c.registers-registers in
    rw (
      ← (registers-at run midway registers.result.now registers.ensures),
      ← c.is_asleep.ensures,
      c.if-not-is_asleep.false,
    )
