use Rattle.std.{proofs.{Common.{◌≡◌, ◌∙◌, ◌++◌, ◌+◌}, lemmas.Result.on_ok_weaker}, specs.Prelude.map}
use Rattle.device_types.specs.declared.event.Event.TheVariants.{Rx}
use Rattle.play_script.specs.Grammar.{timed_events}
use Rattle.device_cli.{specs.FileKind.rest_delay, proofs.DrawnScript.request-added}
use Rattle.device_cli.proofs.load.load_script.add_request.Goals as goal

pub returns-clause-events : goal.returns-clause-events
returns-clause-events c =
    let start = c.args.start in
    on_ok_weaker c.add_arrivals-5.result
    (λ (puts : c.add_arrivals-5.new.self ≡ c.add_arrivals-4.new.self
    ++ timed_events (start + rest_delay, map Rx c.split_at.result.1.now)).
    puts ∙ (rw (
      c.in_ok-add_arrivals-4.ensures.ok,
      c.in_ok-add_arrivals-3.ensures.ok,
      c.in_ok-add_arrivals-2.ensures.ok,
      c.in_ok-add_arrivals.ensures.ok,
      c.to_le_bytes.ensures,
      c.split_at.ensures.front,
      c.split_at.ensures.back,
    )
    (request-added start c.args.count c.args.script.now c.args.chal.now c.token-token.result
    c.token-token.ensures)))
    c.add_arrivals-5.ensures.ok
