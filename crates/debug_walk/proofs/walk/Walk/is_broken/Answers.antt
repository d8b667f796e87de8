use Rattle.debug_walk.proofs.walk.Walk.is_broken.Goals as goal

pub returns-then-is_at_breakpoint : goal.returns-then-is_at_breakpoint
returns-then-is_at_breakpoint g c = λ run walks.
    rw (
      ← (c.is_at_breakpoint.ensures run c.args.self.now.playback walks),
      c.if-is_at_breakpoint.true,
    )

pub returns-else-is_at_breakpoint : goal.returns-else-is_at_breakpoint
returns-else-is_at_breakpoint g c = λ run walks.
    rw (
      ← (c.is_at_breakpoint.ensures run c.args.self.now.playback walks),
      c.if-is_at_breakpoint.false,
      ← c.until.ensures,
      ← c.place.ensures,
    ) c.reaches.ensures
