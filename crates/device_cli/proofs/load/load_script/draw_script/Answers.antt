use Rattle.std.proofs.Common.{◌≡◌, arith}
use Rattle.device_cli.{specs.Load.{generator_of, drawn_laps}, proofs.DrawnScript.drawn_laps-next}
use Rattle.device_cli.proofs.load.load_script.draw_script.Goals as goal

pub loop-lap-init : goal.loop-lap-init
unfolding drawn_laps
loop-lap-init c = record {
  events = c.new-script.ensures;
  generator = c.seed_from_u64-generator.ensures;
  within = rw c.new-script.ensures (λ k d h. absurd (omega (arith, h)));
}

pub loop-lap-preserved : goal.loop-lap-preserved
loop-lap-preserved c =
    let at = c.loop-lap in
    record {
      events = rw (
        drawn_laps-next at.lap (generator_of c.args.seed),
        ← at.invariant.events,
        ← at.invariant.generator,
      )
          c.in_ok-draw_lap.ensures.events;
      generator = rw (
        drawn_laps-next at.lap (generator_of c.args.seed),
        ← at.invariant.generator,
      )
          c.in_ok-draw_lap.ensures.generator;
      within = λ k d h. omega (arith, c.in_ok-draw_lap.ensures.ordered k d h);
    }

pub returns : goal.returns
returns c =
    let all : c.loop-lap.lap ≡ 500 =
    omega (arith, c.loop-lap-test.false, c.loop-lap.auto.lap-end) in
    rw all at c.loop-lap.invariant.events
