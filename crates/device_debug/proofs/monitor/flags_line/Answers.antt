use Rattle.std.proofs.Common.{◌≡◌}
use Rattle.debug_session.specs.Place.{aux_at, exec_at, logs_at, play_to, sight_at}
use Rattle.debug_walk.specs.Walk.{place_of}
use Rattle.device_debug.proofs.monitor.flags_line.Goals as goal

pub returns : goal.returns
unfolding logs_at sight_at
returns g c = λ run walks.
    let place = place_of c.args.halted.now in
    let exec : c.exec.result ≡ exec_at run place =
    c.exec.ensures run.start (play_to run place) (rw c.live.ensures walks.stands) in
    let second : c.aux.result ≡ aux_at run place =
    c.aux.ensures run.start (play_to run place) (rw c.live-2.ensures walks.stands) in
    rw (
      c.push-5.ensures.text,
      c.push-4.ensures.text,
      c.push-3.ensures.text,
      c.push-2.ensures.text,
      c.push.ensures.text,
      c.new-line.ensures,
      c.flag_digit-2.ensures.digit,
      c.flag_digit.ensures.digit,
      exec,
      second,
    )
