use Rattle.std.proofs.Common.{inl, ap, refl, subst, sym, arith}
use Rattle.debug_session.specs.Place.{Run}
use Rattle.debug_walk.specs.Copies.{TrackStandsFor, played_run}
use Rattle.device_debug.proofs.debugger.Debugger.new.Goals as goal

pub returns : goal.returns
returns g c =
    let hash = g.D.Digest32.hash in
    let track = c.new-track.result in
    let stands : TrackStandsFor hash track (played_run hash track.run) =
    subst (λ (run : Run). TrackStandsFor hash track run)
    (ap (played_run hash) (sym c.new-track.ensures.run)) c.new-track.ensures.stands in
    let begun = c.in_ok-halted.ensures.begins (played_run hash track.run) stands in (
      c.new-track.ensures.run,
      record {
        halted = c.in_ok-halted.halted;
        halted_is = refl;
        stands = record {
          walks = begun.walks;
          place_is = c.in_ok-halted.ensures.place;
          within = omega arith;
          settled = inl begun.fresh;
        };
        track = stands;
        stops = c.new.ensures;
        stop = refl;
      },
    )
