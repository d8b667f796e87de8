use Rattle.std.proofs.Common.{◌≡◌, ◌∙◌, ap}
use Rattle.debug_session.specs.{Place.{logs_at, play_to, sight_at}, Shown.registers_bytes}
use Rattle.debug_walk.specs.Walk.{place_of}
use Rattle.debug_walk.proofs.memory_view.shown_registers.Goals as goal

pub returns : goal.returns
unfolding logs_at sight_at
returns g c = λ run stands.
    let place = place_of c.args.walk.now in
    let registers : c.registers.result.now ≡ (sight_at run place).registers =
    c.registers.ensures run.start (play_to run place) (rw c.live.ensures stands.stands) in
    c.registers_bytes.ensures ∙ ap registers_bytes registers
