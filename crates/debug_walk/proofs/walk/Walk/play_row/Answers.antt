use Rattle.std.proofs.Common.{◌≡◌, ◌-◌, suc, subst, sym, arith}
use Rattle.debug_walk.{specs.Walk.{TellsCause, place_of}, proofs.QuietWalks.{row-passed, row-silent, row-tells}}
use Rattle.debug_walk.proofs.walk.Walk.play_row.Goals as goal

pub returns-clause-walks : goal.returns-clause-walks
returns-clause-walks g c = λ run walks. (c.make_row.ensures.row run walks).midway

pub returns-clause-silent : goal.returns-clause-silent
returns-clause-silent g c = λ run walks.
    let passing = c.args.passing.now in
    let after = c.make_row.result in
    row-silent run (place_of c.args.self) after.live after.playback passing.stops.now passing.asleep
    (c.make_row.ensures.row run walks)
    (omega (arith, c.make_row.ensures.within, c.row_end-end.ensures.within, c.requires.few))

pub returns-clause-tells : goal.returns-clause-tells
returns-clause-tells g c = λ run walks known.
    let passing = c.args.passing.now in
    let stops = passing.stops.now in
    let walk = c.args.self in
    let after = c.make_row.result in
    let made = c.make_row.ensures in
    let last = place_of after - 1 in
    let ends : place_of after ≡ suc last = omega (arith, made.within) in
    let is =
    row-tells run (place_of walk) after.live after.playback stops passing.asleep
    (made.row run walks)
    (omega (arith, made.within, c.row_end-end.ensures.within, c.requires.few))
    c.row_end-end.result walk.stretch known made.within.0 made.within.1
    (rw c.stops.ensures at c.row_end-end.ensures.capped)
    (rw c.stops.ensures at (c.row_end-end.ensures.one run walks)) last ends in
    let kept = rw (c.watches.ensures, c.stops-2.ensures) at (made.stretch run walks last ends) in
    subst (λ at. TellsCause stops passing.asleep run at after.stretch) (sym ends)
    (subst (TellsCause stops passing.asleep run (suc last)) (sym kept) is)

pub returns-clause-passed : goal.returns-clause-passed
returns-clause-passed g c = λ run walks known.
    let passing = c.args.passing.now in
    let walk = c.args.self in
    let after = c.make_row.result in
    let made = c.make_row.ensures in
    row-passed run (place_of walk) after.live after.playback passing.stops.now passing.asleep
    (made.row run walks)
    (omega (arith, made.within, c.row_end-end.ensures.within, c.requires.few))
    c.row_end-end.result walk.stretch known made.within.0 made.within.1
    (rw c.stops.ensures at c.row_end-end.ensures.capped)
    (rw c.stops.ensures at (c.row_end-end.ensures.one run walks))
