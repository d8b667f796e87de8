use Rattle.std.{proofs.{Common.{◌≡◌, true, false, arith, refl}, lemmas.Bool.Decides.nat_tests}, specs.Prelude.nat_lt}
use Rattle.play_script.specs.Script.{events_in}
use Rattle.device_live.proofs.{ToCome.{entry-taken, late-refused, made-refused}, living.Living.expect.Goals.{then-step-steps-via-then-step-steps, then-step-steps-via-else-step-steps+then-step-self}}
use Rattle.device_live.proofs.living.Living.expect.Goals as goal

pub returns-then-step-steps-clause-takes : goal.returns-then-step-steps-clause-takes
returns-then-step-steps-clause-takes g c = λ start life stands.
    let made = c.steps.ensures start life stands in
    elim c.then-step-steps.branch [
      | then-step-steps-via-then-step-steps w ↦
          let late : nat_lt c.args.step life.steps ≡ true =
          grind (arith, nat_tests, made, w.if-step-steps.true) in
          made-refused g.D.Digest32.hash g.G.TraceFlag.flag c.args.self.now c.args.self.now start
          life c.args.step (events_in c.args.happening.now) stands late
      | then-step-steps-via-else-step-steps+then-step-self w ↦
          let on : nat_lt c.args.step life.steps ≡ false =
          grind (arith, nat_tests, made, w.if-step-steps.false) in
          let late : nat_lt c.args.step life.script.greatest ≡ true =
          grind (arith, nat_tests, stands.latest, w.if-step-self.true) in
          late-refused g.D.Digest32.hash g.G.TraceFlag.flag c.args.self.now c.args.self.now start
          life c.args.step (events_in c.args.happening.now) stands on late
    ]

pub returns-clause-takes : goal.returns-clause-takes
returns-clause-takes g c = λ start life stands.
    let made = c.steps.ensures start life stands in
    let on : nat_lt c.args.step life.steps ≡ false =
    grind (arith, nat_tests, made, c.if-step-steps.false) in
    let fits : nat_lt c.args.step life.script.greatest ≡ false =
    grind (arith, nat_tests, stands.latest, c.if-step-self.false) in
    entry-taken g.D.Digest32.hash g.G.TraceFlag.flag c.args.self.now
    (record c.args.self.now { to_come = c.add.new.self; latest = c.args.step }) start life
    c.args.step (events_in c.args.happening.now) stands on fits refl refl c.in_ok-add.ensures
