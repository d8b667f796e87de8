use Rattle.std.proofs.Common.{◌≡◌, ◌∙◌, arith, min, subst}
use Rattle.device_types.specs.Address.{Bytes}
use Rattle.debug_session.specs.{Place.sight_at, Shown.bytes_shown}
use Rattle.outside_edge.specs.Sink.{Puts}
use Rattle.device_live.specs.Answer.{lived_run, memory_text}
use Rattle.device_live.proofs.state_lines.print_memory.Goals as goal

pub returns-clause-puts : goal.returns-clause-puts
returns-clause-puts g c = λ start life stands.
    let few : min c.args.count 2048 ≡ c.args.count = omega (arith, c.requires) in
    let shown = c.live_bytes.ensures (lived_run start life) life.steps stands in
    let bytes : c.deref.result.now
    ≡ bytes_shown (sight_at (lived_run start life) life.steps) c.args.place c.args.count =
    c.deref.ensures.0 ∙ (rw (c.from.ensures, few) at shown) in
    subst
    (λ (l : Bytes). Puts g.W.Sink.stands c.args.sink.now c.print_bytes.new.sink
    (memory_text c.args.place l) c.print_bytes.result)
    bytes c.print_bytes.ensures.puts
