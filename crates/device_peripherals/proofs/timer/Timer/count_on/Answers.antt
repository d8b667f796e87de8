use Rattle.std.proofs.{Common.{◌≡◌, ◌≤◌, ◌+◌, ◌∙◌, Bool, true, false, refl, arith, sym}, lemmas.Bool.Decides.nat_tests}
use mir.Val.{bool_byte}
use Rattle.word_arith.specs.Number.{bit_of}
use Rattle.part_definitions.specs.Timer.{timer_count, timer_compare}
use Rattle.device_peripherals.proofs.Ticks.{ticked, ticks-writes, ticks-steps}
use Rattle.device_peripherals.proofs.timer.Timer.count_on.Goals as goal

byte-number : (b : Bool) → bool_byte b ≡ bit_of b
byte-number true = refl
byte-number false = refl

pub returns-then-steps-gt0-clause-stands : goal.returns-then-steps-gt0-clause-stands
returns-then-steps-gt0-clause-stands c = λ events stands runs.
    let steps = c.min-steps.result in
    let below : timer_count events + steps ≤ timer_compare events =
    omega (arith, c.word.ensures, c.saturating_sub-left.ensures, c.min-steps.ensures) in
    let goes = ticked steps events c.args.self.now.fresh runs stands.same_fresh c.if-steps-gt0.true
    below in
    let all = ticks-steps steps events in
    record {
      same_control = rw (ticks-writes steps events) stands.same_control;
      same_compare = rw (ticks-writes steps events) stands.same_compare;
      same_count = omega (arith, goes.same_count, byte-number c.args.self.now.fresh);
      same_fresh = grind (arith, nat_tests);
      same_flag = stands.same_flag ∙ sym goes.same_flag;
    }
