use Rattle.std.proofs.{Common.{◌≡◌, ◌∙◌, ◌++◌, ◌*◌, ◌+◌, List, ap, arith}, lemmas.Result.on_ok_weaker}
use Rattle.play_script.specs.{Grammar.timed_events, Script.TimedEvent}
use Rattle.device_cli.{specs.{FileKind.{lap_steps, rest_delay}, Load.{disturbance, disturbed_step}}, proofs.DrawnScript.{lap-drawn, lap-added, within-later}}
use Rattle.device_cli.proofs.load.load_script.draw_lap.Goals as goal

pub disturb-requires : goal.disturb-requires
disturb-requires c =
    within-later c.add_request.new.script (lap_steps * c.from-start.result + rest_delay) _
    (omega arith)
    c.in_ok-add_request.ensures.ordered

pub returns-clause-events : goal.returns-clause-events
returns-clause-events c =
    let lap = c.args.lap in
    let pins = c.next_word-pins.result in
    let chal = c.fill_bytes_via_u32.new.dst in
    let kind = c.next_word-kind.result in
    let offset = c.next_word.result in
    on_ok_weaker c.disturb.result
    (λ (puts : c.disturb.new.script ≡ c.add_request.new.script
    ++ timed_events (
      disturbed_step (lap_steps * c.from-start.result) c.from-offset.result,
      disturbance kind,
    )).
    puts ∙ (rw (
      c.in_ok-add_request.ensures.events,
      c.in_ok-add.ensures.ok,
      c.from-start.ensures,
      c.from-offset.ensures,
    )
    (lap-added lap pins kind offset c.args.script.now chal))
    ∙ ap (λ (events : List TimedEvent). c.args.script.now ++ events)
    (lap-drawn lap c.args.generator.now c.next_word-pins.new.self c.fill_bytes_via_u32.new.rng
    c.next_word-kind.new.self c.next_word.new.self pins kind offset chal
    c.next_word-pins.ensures c.fill_bytes_via_u32.ensures c.next_word-kind.ensures
    c.next_word.ensures))
    c.disturb.ensures.events

pub returns-clause-ordered : goal.returns-clause-ordered
returns-clause-ordered c =
    let step = disturbed_step (lap_steps * c.from-start.result) c.from-offset.result in
    on_ok_weaker c.disturb.result
    (λ (puts : c.disturb.new.script ≡ c.add_request.new.script
    ++ timed_events (step, disturbance c.next_word-kind.result)).
    within-later c.disturb.new.script step (lap_steps * c.args.lap + lap_steps)
    (omega (arith, c.from-start.ensures)) c.disturb.ensures.ordered)
    c.disturb.ensures.events
