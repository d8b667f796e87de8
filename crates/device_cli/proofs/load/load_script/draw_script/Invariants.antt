use Rattle.std.proofs.Common.{◌≡◌, ◌≤◌, ◌*◌, All}
use Rattle.device_cli.specs.{FileKind.lap_steps, Load.{drawn_laps, generator_of}}
use Rattle.device_cli.proofs.load.load_script.draw_script.Given as goal

abbrev pub invariant-loop-lap : goal.invariant-loop-lap
invariant-loop-lap l = record {
  events : l.script ≡ (drawn_laps l.lap (generator_of l.fn.seed)).0;
  generator : l.generator ≡ (drawn_laps l.lap (generator_of l.fn.seed)).1;
  within : All (λ earlier. earlier.0 ≤ lap_steps * l.lap) l.script;
}
