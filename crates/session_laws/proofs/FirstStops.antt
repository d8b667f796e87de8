-- The scans find the first cause ahead and the last one before.
use Rattle.std.proofs.{Common.{◌≡◌, ◌<◌, ◌≤◌, ◌+◌, ◌-◌, ◌⊎◌, ℕ, zero, suc, Option, Some, None, inl, inr, ⊎_elim, refl, ap, subst, arith}, lemmas.Bool.cases_lt}
use Rattle.debug_session.specs.{Request.most_steps, declared.{command.{Going.Going, Way.TheVariants.{Ahead, Back}}, stop.Stop.{Stop, TheVariants.{Begin, End}}}, Cause.cause as cause_at, Going.{Standing, first_stop, last_stop, seek_of, standing_at, where_to}, Sight.View, Stops.Stops}
use Rattle.session_laws.specs.FirstStop.{HasStopped, IsFirstStop, IsLastStop}

module _ (cause : ℕ → Option Stop) (last : ℕ) where
  Ahead_of : ℕ → Standing → Type 0
  Ahead_of place now =
      HasStopped cause (place + 1) last now
      ⊎ ((now ≡ record { place = last; stop = End }) × (place < last → cause last ≡ None))

  later-stands : (place : ℕ) (now : Standing) → suc place ≤ last → cause (suc place) ≡ None
      → Ahead_of (suc place) now → Ahead_of place now
  unfolding Ahead_of
  later-stands place now within none (inl stopped) =
      inl (record {
        from = omega (arith, stopped.from);
        to = stopped.to;
        why = stopped.why;
      })
  later-stands place now within none (inr ended) =
      inr (
        ended.0,
        λ passed. ⊎_elim ended.1
            (λ end.
            let here : suc place ≡ last = omega (arith, end, within) in
            subst (λ (at : ℕ). cause at ≡ None) here none)
            (cases_lt (suc place) last),
      )

  -- one place more
  first-next : (place : ℕ) (here : Option Stop) (rest : Standing) → suc place ≤ last
      → cause (suc place) ≡ here
      → IsFirstStop cause (suc place) last rest
      → IsFirstStop cause place last (standing_at (suc place) here rest)
  unfolding Ahead_of
  first-next place (Some stop) rest within is later =
      record {
        none_between = λ at after before. absurd (omega (arith, after, before));
        stands = inl (record { from = omega arith; to = within; why = is });
      }
  first-next place None rest within is later =
      record {
        none_between = λ at after before. ⊎_elim
            (λ past. later.none_between at past before)
            (λ next.
            let same : suc place ≡ at = omega (arith, next, after) in
            subst (λ (one : ℕ). cause one ≡ None) same is)
            (cases_lt (suc place) at);
        stands = later-stands place rest within is later.stands;
      }

  pub first-of : (place left : ℕ) → last ≡ left + place
      → IsFirstStop cause place last (first_stop cause place left)
  first-of place zero same =
      record {
        none_between = λ at after before. absurd (omega (arith, after, before));
        stands = inr (
          ap {B = Standing} (λ (at : ℕ). record { place = at; stop = End })
              (omega (arith, same)),
          λ passed. absurd (omega (arith, passed, same)),
        );
      }
  first-of place (suc left) same =
      first-next place (cause (suc place)) (first_stop cause (suc place) left)
      (omega (arith, same)) refl (first-of (suc place) left (omega (arith, same)))

module _ (cause : ℕ → Option Stop) where
  Before : ℕ → Standing → Type 0
  Before place now =
      ((now.place < place) × HasStopped cause 1 place now)
      ⊎ ((now ≡ record { place = 1; stop = Begin }) × (1 < place → cause 1 ≡ None))

  earlier-stands : (place : ℕ) (now : Standing) → 1 ≤ place → cause place ≡ None
      → Before place now → Before (suc place) now
  unfolding Before
  earlier-stands place now some none (inl stopped) =
      inl (
        omega (arith, stopped.0),
        record {
          from = stopped.1.from;
          to = omega (arith, stopped.1.to);
          why = stopped.1.why;
        },
      )
  earlier-stands place now some none (inr begun) =
      inr (
        begun.0,
        λ passed. ⊎_elim begun.1
            (λ first.
            let same : place ≡ 1 = omega (arith, first, some) in
            subst (λ (at : ℕ). cause at ≡ None) same none)
            (cases_lt 1 place),
      )

  -- one place more
  last-next : (place : ℕ) (here : Option Stop) (rest : Standing) → 1 ≤ place
      → cause place ≡ here
      → IsLastStop cause place rest
      → IsLastStop cause (suc place) (standing_at place here rest)
  unfolding Before
  last-next place (Some stop) rest some is earlier =
      record {
        none_between = λ at after before. absurd (omega (arith, after, before));
        stands = inl (omega arith, record { from = some; to = omega arith; why = is });
      }
  last-next place None rest some is earlier =
      record {
        none_between = λ at after before. ⊎_elim
            (λ past. earlier.none_between at after past)
            (λ next.
            let same : place ≡ at = omega (arith, next, before) in
            subst (λ (one : ℕ). cause one ≡ None) same is)
            (cases_lt at place);
        stands = earlier-stands place rest some is earlier.stands;
      }

  pub last-of : (place : ℕ) → IsLastStop cause place (last_stop cause place)
  last-of zero =
      record {
        none_between = λ at after before. absurd (omega (arith, before));
        stands = inr (refl, λ passed. absurd (omega (arith, passed)));
      }
  last-of (suc zero) =
      record {
        none_between = λ at after before. absurd (omega (arith, after, before));
        stands = inr (refl, λ passed. absurd (omega (arith, passed)));
      }
  last-of (suc (suc place)) =
      last-next (suc place) (cause (suc place)) (last_stop cause (suc place))
      (omega arith) refl (last-of (suc place))

pub stops-first : (view : View) (stops : Stops) (going : Going) (place : ℕ) → place ≤ most_steps
    → IsFirstStop (cause_at view stops (seek_of view Ahead going place)) place most_steps
    (where_to view stops Ahead going place)
stops-first view stops going place within =
    first-of (cause_at view stops (seek_of view Ahead going place)) most_steps place
    (most_steps - place) (omega (arith, within))

pub stops-last : (view : View) (stops : Stops) (going : Going) (place : ℕ)
    → IsLastStop (cause_at view stops (seek_of view Back going place)) place
    (where_to view stops Back going place)
stops-last view stops going place =
    last-of (cause_at view stops (seek_of view Back going place)) place
