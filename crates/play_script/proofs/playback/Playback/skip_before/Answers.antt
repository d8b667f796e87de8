use Rattle.std.proofs.{Common.{◌∙◌, List, ap, sym}, lemmas.List.take_rest}
use Rattle.device_types.specs.declared.event.Event.{Event}
use Rattle.play_script.{specs.{Runs.timed_in, Script.{TimedEvent, events_of}, declared.step_events.StepEvents.{StepEvents}}, proofs.{Passing.{events_from, from-runs}, Runs.of-drop}}
use Rattle.play_script.proofs.playback.Playback.skip_before.Goals as goal

pub invariant_of-self : goal.invariant_of-self
invariant_of-self c =
    let runs : List StepEvents = c.args.self.now.runs.now in
    let events : List Event = c.args.self.now.events.now in
    let past = c.count_before-past.result in
    let gone = c.count_events-gone.result in
    record {
      kept = rw (take_rest runs past, take_rest events gone, c.count_events-gone.ensures)
          (of-drop runs events past c.args.self.now.kept);
    }

pub returns-clause-left : goal.returns-clause-left
returns-clause-left c = λ later from.
    let runs : List StepEvents = c.args.self.now.runs.now in
    let events : List Event = c.args.self.now.events.now in
    let past = c.count_before-past.result in
    let gone = c.count_events-gone.result in
    let found = c.count_before-past.ensures in
    rw (take_rest runs past, take_rest events gone, c.count_events-gone.ensures)
    (ap (λ (script : List TimedEvent). events_of script later)
    (sym (from-runs runs events c.args.step past found.before found.from))
    ∙ events_from (timed_in runs events) c.args.step later from)
