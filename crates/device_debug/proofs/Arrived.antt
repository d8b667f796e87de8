-- A walk that stands where going back leads.
use Rattle.std.{proofs.{Common.{◌≡◌, ◌≤◌, ◌<◌, ◌⊎◌, inl, inr, ℕ, true, Option, Some, None, refl, arith}, Math.Bool.or-true, lemmas.Bool.{cond-true, eq-eqb}}, specs.Prelude.{◌&&◌, ◌||◌, ◌==◌}}
use Rattle.hmac_core.specs.Hash.{Hash}
use Rattle.debug_session.{specs.{Request.most_steps, Cause.Step, Going.{Standing, interrupted, last_stop, lies_between}, Place.{Run, view_of}, Stops.Stops, declared.stop.Stop.{Stop, TheVariants.{Begin, Interrupted}}, Sight.View}, proofs.{Scans.last-none, Views.view-at, Between.is-between}}
use Rattle.debug_link.specs.Conversation.{HaveCome, count_of}
use Rattle.debug_walk.specs.{Copies.{IsAt, IsBegun}, Walk.{IsFresh, place_of}, declared.walk.Walk.Walk}
use Rattle.device_debug.{specs.{Ahead.IsLastBehind, Going.{HasArrived, StandsAt}}, proofs.{Ahead.at-boundary, Back.{NoneBehind, cause_back, found-last, found-none}}}

-- Where an interrupt ends a way.

module _ (view : View) (from : ℕ) (now : Standing) where
  -- at a boundary on the way ahead
  pub interrupted-at : (place : ℕ) → from ≤ place → place ≤ now.place
      → (view place).boundary ≡ true
      → interrupted view from (Some place) now ≡ record { place = place; stop = Interrupted }
  interrupted-at place after before here =
      cond-true (lies_between from now.place place && ((view place).boundary || (place == from)))
      (record { place = place; stop = Interrupted }) now
      (λ i. is-between from now.place place (omega (arith, after)) (omega (arith, before)) i
      && (here i || (place == from)))

  -- or where it began
  pub interrupted-here :
      interrupted view from (Some from) now ≡ record { place = from; stop = Interrupted }
  interrupted-here =
      let begun : ((view from).boundary || (from == from)) ≡ true =
      rw (eq-eqb from from refl) (or-true (view from).boundary) in
      cond-true (lies_between from now.place from && ((view from).boundary || (from == from)))
      (record { place = from; stop = Interrupted }) now
      (λ i. is-between from now.place from (omega arith) (omega arith) i && begun i)

module _ {D : Type 0} (hash : Hash D) (run : Run) where
  pub arrives-there : {now : Standing} {walk : Walk D} {place : ℕ} {stop : Stop}
      → now ≡ record { place = place; stop = stop } → IsAt hash run place walk
      → place ≤ most_steps → IsFresh run walk ⊎ (place ≡ most_steps)
      → HasArrived hash run now walk stop
  arrives-there is at within settled =
      rw is (record {
        stands = record {
          walks = at.walks;
          place_is = at.place_is;
          within = within;
          settled = settled;
        };
        stop_is = refl;
      })

  module _ (stops : Stops) (step : Option Step) (from end : ℕ) (same : end ≡ from)
      (left left_new : Option ℕ) where
    abbrev aim : Standing
    aim = last_stop (cause_back run stops step from) from

    abbrev pub ArrivesBack : Walk D → Stop → Type 0
    ArrivesBack walk stop =
        (interrupt : Option ℕ) × HaveCome (count_of interrupt) left left_new
        × HasArrived hash run (interrupted (view_of run) from interrupt aim) walk stop

    -- an interrupt left it where it is
    pub back-interrupted : (walk : Walk D) → HaveCome 1 left left_new
        → StandsAt hash run from walk → ArrivesBack walk Interrupted
    back-interrupted walk came stands = (
      Some from,
      came,
      rw (interrupted-here (view_of run) from aim) (record { stands = stands; stop_is = refl }),
    )

    of-end : (walk : Walk D) (stop : Stop) → HaveCome 0 left left_new
        → HasArrived hash run (last_stop (cause_back run stops step end) end) walk stop
        → ArrivesBack walk stop
    of-end walk stop came arrived = (None, came, rw same at arrived)

    -- there is no place before it
    pub back-begun : (walk : Walk D) → HaveCome 0 left left_new → end ≤ 1
        → IsBegun hash run walk → place_of walk ≡ 1
        → ArrivesBack walk Begin
    back-begun walk came few begun place_is =
        of-end walk Begin came
        (arrives-there (last-none (cause_back run stops step end) end
        (λ at late before. absurd (omega (arith, late, before, few))))
        (record { walks = begun.walks; place_is = place_is }) (omega arith) (inl begun.fresh))

    -- none has a cause
    pub back-none : (walk : Walk D) (begin : ℕ) → HaveCome 0 left left_new → begin ≡ 0
        → NoneBehind run stops step end begin → IsBegun hash run walk → place_of walk ≡ 1
        → ArrivesBack walk Begin
    back-none walk begin came none_left none begun place_is =
        of-end walk Begin came
        (arrives-there (found-none run stops step end (rw none_left at none))
        (record { walks = begun.walks; place_is = place_is }) (omega arith) (inl begun.fresh))

    -- the last with a cause
    pub back-found : (walk : Walk D) (begin last place : ℕ) (stop : Stop)
        → HaveCome 0 left left_new → end ≤ most_steps → last < end
        → IsLastBehind (cause_back run stops step end) begin last (Some (place, stop))
        → NoneBehind run stops step end last → IsAt hash run place walk
        → ArrivesBack walk stop
    back-found walk begin last place stop came within before piece none at =
        let within_most : place ≤ most_steps = omega (arith, piece.1, before, within) in
        let here : (view_of run place).boundary ≡ true =
        at-boundary (view_of run place).boundary _ stop piece.2 in
        of-end walk stop came
        (arrives-there (found-last run stops step end begin last (place, stop) before piece none) at
        within_most (inl (inl (rw at.place_is (rw (view-at run place within_most) at here)))))
