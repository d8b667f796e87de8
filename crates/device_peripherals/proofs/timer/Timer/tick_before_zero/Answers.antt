use Rattle.std.proofs.{Common.{◌≡◌, ◌≤◌, ◌∙◌, false, arith, sym, subst}, lemmas.Bool.Decides.nat_tests}
use Rattle.part_definitions.specs.Timer.{timer_runs}
use Rattle.device_peripherals.proofs.Ticks.{stopped, requests-before-zero, ticks-writes, ticks-steps}
use Rattle.device_peripherals.proofs.timer.Timer.tick_before_zero.Goals as goal

pub returns-then-runs-clause-requests : goal.returns-then-runs-clause-requests
returns-then-runs-clause-requests c = λ events steps stands few.
    let runs = sym (c.runs.ensures events stands) ∙ c.if-runs.true in
    let all = c.count_on.ensures.steps events stands runs in
    requests-before-zero c.args.most steps events
    (subst (λ many. steps ≤ many) all few)

pub returns-then-most-gt0-clause-stands : goal.returns-then-most-gt0-clause-stands
returns-then-most-gt0-clause-stands c = λ events stands.
    let stops : timer_runs events ≡ false = sym (c.runs.ensures events stands) ∙ c.if-runs.false in
    let ended = stopped c.args.most events stops in
    let all = ticks-steps c.args.most events in
    record {
      same_control = rw (ticks-writes c.args.most events) stands.same_control;
      same_compare = rw (ticks-writes c.args.most events) stands.same_compare;
      same_count = stands.same_count ∙ sym ended.same_count;
      same_fresh = grind (arith, nat_tests);
      same_flag = stands.same_flag ∙ sym ended.same_flag;
    }

pub returns-then-most-gt0-clause-requests : goal.returns-then-most-gt0-clause-requests
returns-then-most-gt0-clause-requests c = λ events steps stands few.
    let stops : timer_runs events ≡ false = sym (c.runs.ensures events stands) ∙ c.if-runs.false in
    requests-before-zero c.args.most steps events (rw stops few)
