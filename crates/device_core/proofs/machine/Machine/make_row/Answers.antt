use Rattle.std.proofs.Common.{◌∙◌, ◌+◌, ◌∷◌, [], sym, arith, subst}
use Rattle.device_trace.specs.Trace.{Play, logs_after}
use Rattle.device_core.{specs.{Machine.PlaysAt, Quiet.{IsOpen, IsQuiet}, Silence.with_idle}, proofs.{Idle.{each-fewer, each-less, goes-idle, idle-after}, QuietSteps.{before-open, behind-open, behind-quiet, kept-some, none-kept, quiet-next}}}
use Rattle.device_core.proofs.machine.Machine.make_row.Goals as goal

pub loop-made-init : goal.loop-made-init
loop-made-init g c = (omega arith, λ start play stands. (stands, tt, tt))

pub loop-made-preserved : goal.loop-made-preserved
loop-made-preserved g c = (
  omega arith,
  λ start play stands.
      let made = c.loop-made.made in
      let more = c.take_fast_path_from-made.result in
      let (here, quiet, ways) = c.loop-made.invariant.1 start play stands in
      let beside = c.dma_access-dma.ensures start _ here.same.same_bus in
      let goes = c.step_without_events-stage.ensures.stands start _ here.same
      (here.same_stage, beside) in
      let next = goes-idle made play goes in
      let unkept = sym c.is_some.ensures ∙ c.if-is_some.false in
      let over =
      c.step_without_events-stage.ensures.kept start _ here.same (here.same_stage, beside)
      (none-kept _ unkept) in
      let (later, onward) = c.take_fast_path_from-made.ensures.quietly start
      (with_idle (made + 1) play) next in
      let there =
      subst
      (λ (behind : Play). PlaysAt g.D.Digest32.hash g.G.TraceFlag.flag
      c.step_without_events-stage.result c.take_fast_path_from-made.new.self start behind)
      (idle-after more (made + 1) play)
      (c.take_fast_path_from-made.ensures.plays start (with_idle (made + 1) play) next) in (
        there,
        behind-quiet start made more play
            (quiet-next start made play _ over next.same.same_bus.same_last unkept) quiet later,
        behind-open (g.Q.Quiet.quiet c.args.quiet.now) start made more play ways onward
            (c.ends_row.ensures start _ there.same there.same_stage c.if-ends_row.false),
      ),
)

pub returns-then-is_some-clause-stands : goal.returns-then-is_some-clause-stands
returns-then-is_some-clause-stands g c = λ start play stands.
    let (here, quiet, ways) = c.loop-made.invariant.1 start play stands in
    goes-idle c.loop-made.made play
    (c.step_without_events-stage.ensures.stands start _ here.same
    (here.same_stage, c.dma_access-dma.ensures start _ here.same.same_bus))

pub returns-then-is_some-clause-row : goal.returns-then-is_some-clause-row
returns-then-is_some-clause-row g c = λ start play stands.
    let made = c.loop-made.made in
    let asks = g.Q.Quiet.quiet c.args.quiet.now in
    let (here, quiet, ways) = c.loop-made.invariant.1 start play stands in
    record {
      quietly = each-less (IsQuiet asks start) made play quiet;
      between = each-less (λ (before : Play). IsOpen asks (logs_after start before)) made
          ([] ∷ play) ways;
      unkept = λ none. absurd (kept-some _ (sym c.is_some.ensures ∙ c.if-is_some.true) none);
    }

pub returns-then-ends_row-clause-stands : goal.returns-then-ends_row-clause-stands
returns-then-ends_row-clause-stands g c = λ start play stands.
    let made = c.loop-made.made in
    let (here, quiet, ways) = c.loop-made.invariant.1 start play stands in
    let beside = c.dma_access-dma.ensures start _ here.same.same_bus in
    let next = goes-idle made play
    (c.step_without_events-stage.ensures.stands start _ here.same (here.same_stage, beside)) in
    subst
    (λ (behind : Play). PlaysAt g.D.Digest32.hash g.G.TraceFlag.flag
    c.step_without_events-stage.result c.take_fast_path_from-made.new.self start behind)
    (idle-after c.take_fast_path_from-made.result (made + 1) play)
    (c.take_fast_path_from-made.ensures.plays start (with_idle (made + 1) play) next)

pub returns-then-ends_row-clause-row : goal.returns-then-ends_row-clause-row
returns-then-ends_row-clause-row g c = λ start play stands.
    let made = c.loop-made.made in
    let more = c.take_fast_path_from-made.result in
    let asks = g.Q.Quiet.quiet c.args.quiet.now in
    let (here, quiet, ways) = c.loop-made.invariant.1 start play stands in
    let beside = c.dma_access-dma.ensures start _ here.same.same_bus in
    let next = goes-idle made play
    (c.step_without_events-stage.ensures.stands start _ here.same (here.same_stage, beside)) in
    let unkept = sym c.is_some.ensures ∙ c.if-is_some.false in
    let over =
    c.step_without_events-stage.ensures.kept start _ here.same (here.same_stage, beside)
    (none-kept _ unkept) in
    let (later, onward) = c.take_fast_path_from-made.ensures.quietly start
    (with_idle (made + 1) play) next in
    let all =
    behind-quiet start made more play
    (quiet-next start made play _ over next.same.same_bus.same_last unkept) quiet later in
    record {
      quietly = each-fewer (IsQuiet asks start) (made + 1 + more) play all;
      between = before-open asks start made more play ways onward;
      unkept = λ none. all;
    }

pub returns-clause-stands : goal.returns-clause-stands
returns-clause-stands g c = λ start play stands.
    let (here, quiet, ways) = c.loop-made.invariant.1 start play stands in here

pub returns-clause-row : goal.returns-clause-row
returns-clause-row g c = λ start play stands.
    let made = c.loop-made.made in
    let asks = g.Q.Quiet.quiet c.args.quiet.now in
    let (here, quiet, ways) = c.loop-made.invariant.1 start play stands in
    record {
      quietly = each-fewer (IsQuiet asks start) made play quiet;
      between = each-fewer (λ (before : Play). IsOpen asks (logs_after start before)) made
          ([] ∷ play) ways;
      unkept = λ none. quiet;
    }
