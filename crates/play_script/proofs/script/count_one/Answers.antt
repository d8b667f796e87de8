use Rattle.std.{proofs.{Common.{◌≡◌, ◌<◌, ◌-◌, ◌∷◌, ◌++◌, [], List, length, set, refl, ap, ◌∙◌, arith, rules}, lemmas.List.{get_or_read, set-get_or}}, specs.Prelude.vec_len}
use Rattle.play_script.{specs.{Runs.{steps_in}, declared.step_events.StepEvents.{StepEvents}}, proofs.Runs.{ascend-push, steps-counted}}
use Rattle.play_script.proofs.script.count_one.Goals.{in_default-via-in-Some+else-last_mut-step, in_default-via-in-None-1}
use Rattle.play_script.proofs.script.count_one.Goals as goal

pub returns-in-Some-clause-steps : goal.returns-in-Some-clause-steps
returns-in-Some-clause-steps c =
    let runs : List StepEvents = c.args.runs.now.items in
    let size : vec_len c.args.runs.now ≡ length runs = c.args.runs.now.ok.0 in
    let some : 0 < vec_len c.args.runs.now = c.in-Some.ensures.variant.0 refl in
    steps-counted runs (vec_len c.args.runs.now - 1) c.in-Some.last.now _
    (omega (arith, size, some)) c.in-Some.ensures.value refl refl
    ∙ ap (λ step. steps_in runs ++ step ∷ []) c.if-last_mut-step.true

pub returns-in_default-clause-ascend : goal.returns-in_default-clause-ascend
returns-in_default-clause-ascend c =
    let runs : List StepEvents = c.args.runs.now.items in
    let size : vec_len c.args.runs.now ≡ length runs = c.args.runs.now.ok.0 in
    rw c.push_reserved.ensures.items
    (elim c.in_default.branch [
      | in_default-via-in-Some+else-last_mut-step w ↦
          (let last : StepEvents = w.in-Some.last.now in
          let value = w.in-Some.ensures.value in
          let other = w.if-last_mut-step.false in
          rw (ap (λ v. v.items) w.runs-is
          ∙ ap (set runs (vec_len c.args.runs.now - 1)) value
          ∙ set-get_or runs (vec_len c.args.runs.now - 1) last)
          (ascend-push runs _ c.requires.ascend (λ d some.
          let at = ap (λ (run : StepEvents). run.step) (get_or_read runs (length runs - 1) last
          (omega (arith, some)) (rw (← size) value) d) in
          omega (arith, other, at, c.requires.order (length runs - 1) d (omega (arith, some))))))
      | in_default-via-in-None-1 w ↦
          (let none : length runs ≡ 0 = search (rules, size) in
          rw w.runs-is (ascend-push runs _ c.requires.ascend
          (λ d some. absurd (omega (arith, none, some)))))
    ])
