use Rattle.std.proofs.Common.{◌≡◌, ◌≤◌, ◌-◌, ◌∙◌, refl, arith}
use Rattle.debug_walk.{specs.Walk.place_of, proofs.{QuietWalks.row-flags, Views.{aux-at, exec-at}}}
use Rattle.debug_walk.proofs.walk.Walk.make_row.Goals as goal

pub returns-clause-stretch : goal.returns-clause-stretch
returns-clause-stretch g c = λ run walks last ends.
    let place = place_of c.args.self in
    let played = c.play_to_shown-live in
    let gone = played.ensures.plays run.start run.events_at walks in
    let later : place ≤ last = omega (arith, ends, played.ensures.made) in
    let flags =
    row-flags run place played.result played.new.playback (g.Q.Quiet.quiet c.args.quiet.now) gone
    last ends later in
    let exec = exec-at run walks c.exec-exec.result c.exec-exec.ensures ∙ flags.0 in
    let aux = aux-at run walks c.aux-aux.result c.aux-aux.ensures ∙ flags.1 in
    let same : c.steps-last.result - 1 ≡ last = omega (arith, ends, c.steps-last.ensures.made) in
    c.with_kept_step-stretch.ensures run played.new.playback gone.midway last ends exec aux
    ∙ rw (
      c.of_last-before.ensures,
      c.place-place.ensures,
      same,
      c.next_stretch-begun.ensures run walks,
    )
    refl
