use Rattle.std.proofs.Common.{◌∙◌, List, ap, sym}
use Rattle.play_script.{specs.{Script.{TimedEvent, from_step}}, proofs.{Passing.from-runs, Runs.of-drop}}
use Rattle.play_script.proofs.script.Script.forget_before.Goals as goal

pub invariant_of-self : goal.invariant_of-self
invariant_of-self c =
    let gone = rw c.as_slice-runs.ensures.value at c.count_events-gone.ensures in
    rw (c.drop_first.ensures, c.drop_first-2.ensures, gone)
    (of-drop c.self.inside.runs.items c.self.inside.events.items c.count_before-past.result
    c.self.invariant)

pub returns : goal.returns
returns c =
    let found = rw c.as_slice-runs.ensures.value at c.count_before-past.ensures in
    let gone = rw c.as_slice-runs.ensures.value at c.count_events-gone.ensures in
    rw (c.drop_first.ensures, c.drop_first-2.ensures, gone)
    (sym (from-runs c.self.inside.runs.items c.self.inside.events.items c.args.step
    c.count_before-past.result found.before found.from))
    ∙ ap (λ (script : List TimedEvent). from_step c.args.step script) c.self.view_is
