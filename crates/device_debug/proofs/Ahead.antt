-- A walk forwards stops at the first place with a cause, and sees a refusal behind it.
use Rattle.std.{proofs.{Common.{◌≡◌, ◌≤◌, ◌<◌, ◌+◌, ◌-◌, ◌∙◌, ◌⊎◌, inl, inr, ℕ, zero, suc, Bool, true, false, List, [], Option, Some, None, is_some, refl, ap, sym, subst, arith, ◌++◌, append_assoc}, lemmas.{Bool.{cases_Bool, cases_lt, lt-ltb, ltb-true}, List.append-nil}}, specs.Prelude.{nat_lt, codes, if◌then◌else◌}}
use Rattle.device_types.specs.declared.rule.Rule.{Rule}
use Rattle.printed_lines.specs.Line.{reset_line}
use Rattle.debug_session.{specs.{Request.most_steps, declared.{command.Way.TheVariants.Ahead, stop.Stop.{Stop, TheVariants.{End, Refused}}, watch.Hit.Hit}, Stops.Stops, Cause.{Step, ahead, behind, cause, cause_here, refusal, refusal_or, stop_of}, Going.{Standing, first_stop}, Session.{lines_to, refused_step, refusal_warning, told_lines}, Sight.View}, proofs.Scans.{first-at, first-none, first-past}}
use Rattle.device_debug.specs.Ahead.{both_of, last_boundary, refused_at, seek_ahead}
use Rattle.debug_link.specs.Console.{console}

-- a cause goes before a refusal that lies ahead
with-refusal : (here : Bool) (hit : Option Hit) (plain over : Bool) (rule : Option Rule)
    (stop : Stop)
    → (if here then stop_of hit plain over None else None) ≡ Some stop
    → (if here then stop_of hit plain over rule else None) ≡ Some stop
with-refusal true None false false rule stop is = absurd (cc (is))
with-refusal here hit plain over rule stop is = is

-- a refusal is one where there is none
refused-here : (here : Bool) (hit : Option Hit) (plain over : Bool) (rule : Rule)
    → here ≡ true → (if here then stop_of hit plain over None else None) ≡ None
    → (if here then stop_of hit plain over (Some rule) else None) ≡ Some (Refused rule)
refused-here true None false false rule is none = refl
refused-here here hit plain over rule is none = absurd (cc)

none-with : (here : Bool) (hit : Option Hit) (plain over : Bool) (rule : Option Rule)
    → (here ≡ true → rule ≡ None) → (if here then stop_of hit plain over None else None) ≡ None
    → (if here then stop_of hit plain over rule else None) ≡ None
none-with true hit plain over rule unrefused none = rw (unrefused refl) none
none-with false hit plain over rule unrefused none = refl

pub at-boundary : (here : Bool) (one : Option Stop) (stop : Stop)
    → (if here then one else None) ≡ Some stop → here ≡ true
at-boundary true one stop is = refl
at-boundary false one stop is = absurd (cc (is))

-- before a stop that is no refusal there is no warning
no-warning : (view : View) (place : ℕ) (here : Bool) (hit : Option Hit) (plain over : Bool)
    (stop : Stop) → (if here then stop_of hit plain over None else None) ≡ Some stop
    → refusal_warning view place stop ≡ []
no-warning view place true None false false (Refused rule) is = absurd (cc (is))
no-warning view place here hit plain over (Refused rule) is = absurd (cc (is))
no-warning view place here hit plain over stop is = refl

-- what holds up to a number and at it
up-to : (Holds : ℕ → Type 0) (at last : ℕ) → at ≤ last → (at < last → Holds at) → Holds last
    → Holds at
up-to Holds at last until less here = elim (cases_lt at last) [
  | inl before ↦ less before
  | inr over ↦ let same : last ≡ at = omega (arith, over, until) in subst Holds same here
]

-- the last boundary up to a place is this place, or lies before a step that was not refused
last-parts : (here past : Bool) (refused : Option Rule) (place at : ℕ) (earlier : Option ℕ)
    → (if here then (if past then Some place else None)
    else if is_some refused then None else earlier) ≡ Some at
    → ((here ≡ true) × (past ≡ true) × (place ≡ at))
    ⊎ ((here ≡ false) × (refused ≡ None) × (earlier ≡ Some at))
last-parts true true refused place at earlier is = inl (refl, refl, cc (is))
last-parts false past None place at earlier is = inr (refl, refl, is)
last-parts here past refused place at earlier is = absurd (cc (is))

-- a refusal that is told is the first one
told-parts : (refused later : Option Rule) (place next : ℕ) (rule : Rule)
    → refusal_or refused None ≡ Some rule
    → (refusal_or refused later ≡ Some rule) × ((if is_some refused then place else next) ≡ place)
told-parts None later place next rule told = absurd (cc (told))
told-parts (Some refused) later place next rule told = (told, refl)

untold : (refused later : Option Rule) → refusal_or refused None ≡ None
    → (refused ≡ None → later ≡ None) → refusal_or refused later ≡ None
untold None later none rest = rest refl
untold (Some rule) later none rest = none

pub both-parts : (last : Option ℕ) (told : Option Rule) (at : ℕ) (rule : Rule)
    → both_of last told ≡ Some (at, rule) → (last ≡ Some at) × (told ≡ Some rule)
both-parts (Some one) (Some other) at rule is =
    let pair : (one, other) ≡ (at, rule) = cc (is) in (
      ap (λ (two : ℕ × Rule). Some two.0) pair,
      ap (λ (two : ℕ × Rule). Some two.1) pair,
    )
both-parts last told at rule is = absurd (cc (is))

both-none : (at : ℕ) (told : Option Rule) → both_of (Some at) told ≡ None → told ≡ None
both-none at None none = refl
both-none at (Some rule) none = absurd (cc (none))

pub none-told : (last : Option ℕ) → both_of last None ≡ None
none-told None = refl
none-told (Some at) = refl

module _ (view : View) where
  -- the lines of a way that is cut in two
  told-both : (steps from mid to : ℕ) → mid ≡ steps + from → mid ≤ to
      → told_lines view from (to - from)
      ≡ told_lines view from steps ++ told_lines view mid (to - mid)
  told-both zero from mid to at within =
      let here : from ≡ mid = omega (arith, at) in rw here refl
  told-both (suc steps) from mid to at within =
      let count : to - from ≡ suc (to - suc from) = omega (arith, at, within) in
      rw (count, told-both steps (suc from) mid to (omega (arith, at)) within)
      (sym (append_assoc (console (view from).next.lines) (told_lines view (suc from) steps)
      (told_lines view mid (to - mid))))

  -- no boundary behind it
  abbrev IsLatest : ℕ → ℕ → Type 0
  IsLatest at place = (one : ℕ) → one ≤ place → (view one).boundary ≡ true → one ≤ at

  latest-next : (at place : ℕ) → (view (suc place)).boundary ≡ false → IsLatest at place
      → IsLatest at (suc place)
  latest-next at place away latest one until =
      up-to (λ (one : ℕ). (view one).boundary ≡ true → one ≤ at) one (suc place) until
      (λ less. latest one (omega (arith, less))) (λ here. absurd (cc (away, here)))

module _ (view : View) (from : ℕ) where
  last-here : (at : ℕ) → from < at → (view at).boundary ≡ true
      → last_boundary view from at ≡ Some at
  last-here zero past here = absurd (omega (arith, past))
  last-here (suc before) past here = rw (here, lt-ltb from (suc before) past) refl

  -- the last boundary up to a place: what is refused ahead of it is refused ahead of the place
  pub record IsLast (at here : ℕ) : Type 0 where
    pub past : from < at
    pub before : at ≤ here
    pub settled : (view at).boundary ≡ true
    latest : IsLatest view at here
    refused : refusal (ahead view at (most_steps - at))
        ≡ refusal (ahead view here (most_steps - here))
    number : refused_step view at (most_steps - at) ≡ refused_step view here (most_steps - here)

  pub last-is : (here at : ℕ) → here ≤ most_steps → last_boundary view from here ≡ Some at
      → IsLast at here
  last-is zero at within is = absurd (cc (is))
  last-is (suc place) at within is = elim (last-parts (view (suc place)).boundary
      (nat_lt from (suc place)) (view place).next.refused (suc place) at
      (last_boundary view from place) is) [
        | inl parts ↦ rw (← parts.2) (record {
          past = ltb-true from (suc place) parts.1;
          before = omega arith;
          settled = parts.0;
          latest = λ one until here. until;
          refused = refl;
          number = refl;
        })
        | inr parts ↦
            let one = last-is place at (omega (arith, within)) parts.2 in
            let count : most_steps - place ≡ suc (most_steps - suc place) = omega (arith, within) in
            record {
              past = one.past;
              before = omega (arith, one.before);
              settled = one.settled;
              latest = latest-next view at place parts.0 one.latest;
              refused = one.refused ∙ rw (count, parts.1, parts.0) refl;
              number = one.number ∙ rw (count, parts.1) refl;
            }
      ]

  -- no step up to the next boundary is refused, so that it is told
  none-ahead : (steps here at : ℕ) → last_boundary view from here ≡ Some at
      → ((one : ℕ) → here ≤ one → one < steps + here → last_boundary view from one ≡ Some at
      → refusal_or (view one).next.refused None ≡ None)
      → refusal (ahead view here steps) ≡ None
  none-ahead zero here at is none = refl
  none-ahead (suc steps) here at is none =
      untold (view here).next.refused _ (none here (omega arith) (omega arith) is)
      (λ unrefused. elim (cases_Bool (view (suc here)).boundary) [
        | inl ends ↦ rw ends refl
        | inr goes ↦ rw goes (none-ahead steps (suc here) at (rw (goes, unrefused) is)
            (λ one after before. none one (omega (arith, after)) (omega (arith, before))))
      ])

  -- the lines up to the last boundary on a way to a place were put, or none, and those since wait
  pub record IsTold (place : ℕ) (waiting put : List (List ℕ)) : Type 0 where
    pub at : ℕ
    pub from_at : from ≤ at
    pub at_place : at ≤ place
    settled : (at ≡ from) ⊎ ((view at).boundary ≡ true)
    latest : IsLatest view at place
    put_is : put ≡ told_lines view from (at - from)
    whole : put ++ waiting ≡ told_lines view from (place - from)

-- on the way from a place
module _ (view : View) (stops : Stops) (step : Option Step) (from : ℕ) where
  -- whatever lies ahead
  abbrev pub cause_by : ℕ → Option Stop
  cause_by at = cause_here stops (seek_ahead step) at (view at) (behind view at) []

  abbrev pub aim : Standing
  aim = first_stop (cause view stops (seek_ahead step)) from (most_steps - from)

  abbrev pub lines : Standing → List (List ℕ)
  lines now = lines_to view Ahead from now

  -- those that are put behind others
  abbrev pub rest : ℕ → List (List ℕ)
  rest at = told_lines view at (aim.place - at) ++ refusal_warning view aim.place aim.stop

  -- it stops there, with these lines
  pub record StopsAt (now : Standing) (place : ℕ) (stop : Stop) (told : List (List ℕ))
      : Type 0 where
    pub is : now ≡ record { place = place; stop = stop }
    pub within : place ≤ most_steps
    pub settled : ((view place).boundary ≡ true) ⊎ (place ≡ most_steps)
    pub lines_are : lines (record { place = place; stop = stop }) ≡ told

  abbrev pub IsClear : ℕ → Type 0
  IsClear place = from < place → cause_by place ≡ None

  -- nothing to stop for was met before a place, and no step there is refused behind a boundary
  pub record IsWay (place : ℕ) (waiting put : List (List ℕ)) : Type 0 where
    here : (at : ℕ) → at < place → IsClear at
    unrefused : (one : ℕ) → from ≤ one → one < place → refused_at view from one ≡ None
    pub told : IsTold view from place waiting put

  pub way-first : IsWay from [] []
  way-first =
      let none : 0 ≡ from - from = omega arith in
      record {
        here = λ at before past. absurd (omega (arith, past, before));
        unrefused = λ one later before. absurd (omega (arith, later, before));
        told = record {
          at = from;
          from_at = omega arith;
          at_place = omega arith;
          settled = inl refl;
          latest = λ one until here. until;
          put_is = ap (told_lines view from) none;
          whole = ap (told_lines view from) none;
        };
      }

  module _ {place : ℕ} {waiting put : List (List ℕ)} (way : IsWay place waiting put) where
    clear-to : IsClear place → (at : ℕ) → at ≤ place → IsClear at
    clear-to clear at until =
        up-to IsClear at place until (λ less. way.here at less) clear

    -- behind a step
    pub way-step : (more later : List (List ℕ)) → IsClear place
        → refused_at view from place ≡ None
        → more ++ later ≡ waiting ++ console (view place).next.lines
        → ((view (suc place)).boundary ≡ true → later ≡ [])
        → ((view (suc place)).boundary ≡ false → more ≡ [])
        → IsWay (suc place) later (put ++ more)
    way-step more later clear found added none_waits none_put =
        let told = way.told in
        let step : List (List ℕ) = console (view place).next.lines in
        let once : suc place - place ≡ 1 = omega arith in
        let whole : (put ++ more) ++ later ≡ told_lines view from (suc place - from) =
        append_assoc put more later
        ∙ ap (λ (lines : List (List ℕ)). put ++ lines) added
        ∙ sym (append_assoc put waiting step)
        ∙ sym (rw (once, append-nil step, ← told.whole) at
        (told-both view (place - from) from place (suc place)
        (omega (arith, told.from_at, told.at_place)) (omega arith))) in
        record {
          here = λ at before. clear-to clear at (omega (arith, before));
          unrefused = λ one late before.
              up-to (λ (one : ℕ). refused_at view from one ≡ None) one place
              (omega (arith, before)) (λ less. way.unrefused one late less) found;
          told = elim (cases_Bool (view (suc place)).boundary) [
            | inl here ↦ record {
              at = suc place;
              from_at = omega (arith, told.from_at, told.at_place);
              at_place = omega arith;
              settled = inr here;
              latest = λ one until is. until;
              put_is = rw (none_waits here, append-nil (put ++ more)) at whole;
              whole = whole;
            }
            | inr away ↦ record {
              at = told.at;
              from_at = told.from_at;
              at_place = omega (arith, told.at_place);
              settled = told.settled;
              latest = latest-next view told.at place away told.latest;
              put_is = rw (none_put away, append-nil put) told.put_is;
              whole = whole;
            }
          ];
        }

    -- at a boundary none waits
    pub at-end : (view place).boundary ≡ true → way.told.at ≡ place
    at-end here =
        omega (arith, way.told.at_place, way.told.latest place (omega arith) here)

    pub put-here : (view place).boundary ≡ true → told_lines view from (place - from) ≡ put
    put-here here = rw (← at-end here) (sym way.told.put_is)

    module _ (within : place ≤ most_steps) where
      -- at a place without a cause it stops for no refusal that lies behind the way
      none-at : (at : ℕ) → from < at → cause_by at ≡ None
          → ((one : ℕ) → place ≤ one → one < most_steps → IsLast view from at one → ⊥)
          → cause view stops (seek_ahead step) at ≡ None
      none-at at past none behind =
          none-with (view at).boundary _ _ _ _
          (λ here. none-ahead view from (most_steps - at) at at (last-here view from at past here)
          (λ one after before is. elim (cases_lt one place) [
            | inl early ↦ both-none at _
                (rw is at (way.unrefused one (omega (arith, past, after)) early))
            | inr over ↦
                let last = last-is view from one at (omega (arith, before, after)) is in
                absurd (behind one over (omega (arith, before, after)) last)
          ]))
          none

      -- nor where another boundary comes before its end
      none-before : (at end : ℕ) → from < at → at < end → end ≤ place
          → (view end).boundary ≡ true → cause view stops (seek_ahead step) at ≡ None
      none-before at end past before until here =
          none-at at past (way.here at (omega (arith, before, until)) past)
          (λ one over few last.
          omega (arith, last.latest end (omega (arith, until, over)) here, before))

      -- a device that has come to its last boundary stops no earlier
      pub aim-past : way.told.at ≤ aim.place
      aim-past =
          first-past (cause view stops (seek_ahead step)) way.told.at (most_steps - from) from
          (omega (arith, within, way.told.at_place))
          (λ one past before. elim way.told.settled [
            | inl first ↦ absurd (omega (arith, first, past, before))
            | inr here ↦ none-before one way.told.at past before way.told.at_place here
          ])

      -- the lines that were put, and the others
      pub some-lines : lines aim ≡ put ++ rest way.told.at
      some-lines =
          rw (
            told-both view (way.told.at - from) from way.told.at aim.place
                (omega (arith, way.told.from_at)) aim-past,
            ← way.told.put_is,
          )
          (append_assoc put _ _)

      -- it stops where it has to, whatever lies ahead
      pub stops-here : (stop : Stop) → from < place → cause_by place ≡ Some stop
          → StopsAt aim place stop put
      stops-here stop past is =
          let here : (view place).boundary ≡ true = at-boundary (view place).boundary _ stop is in
          record {
            is = first-at (cause view stops (seek_ahead step)) place stop
                (with-refusal (view place).boundary _ _ _ _ stop is)
                (most_steps - from) from past (omega (arith, within, past))
                (λ at after before. none-before at place after before (omega arith) here);
            within = within;
            settled = inl here;
            lines_are = rw (no-warning view place (view place).boundary _ _ _ stop is)
                (append-nil _ ∙ put-here here);
          }

      -- or at the last place of all
      pub stops-last : place ≡ most_steps → IsClear place
          → StopsAt aim most_steps End (put ++ waiting)
      stops-last last clear =
          record {
            is = first-none (cause view stops (seek_ahead step)) (most_steps - from) from most_steps
                (omega (arith, last, way.told.from_at, way.told.at_place))
                (λ at after until. none-at at after
                (clear-to clear at (omega (arith, last, until)) after)
                (λ one over few ahead. omega (arith, last, over, few)));
            within = omega arith;
            settled = inr refl;
            lines_are = append-nil _ ∙ rw (← last) (sym way.told.whole);
          }

      -- or before a step that is refused
      module _ (at : ℕ) (rule : Rule) (few : place < most_steps) (clear : IsClear place)
          (found : refused_at view from place ≡ Some (at, rule))
        where
          last-before : IsLast view from at place
          last-before = last-is view from place at within (both-parts _ _ at rule found).0

          first : (refusal (ahead view place (most_steps - place)) ≡ Some rule)
              × (refused_step view place (most_steps - place) ≡ place)
          first =
              let count : most_steps - place ≡ suc (most_steps - suc place) = omega (arith, few) in
              rw count
              (told-parts (view place).next.refused _ place _ rule (both-parts _ _ at rule found).1)

          put-before : told_lines view from (at - from) ≡ put
          put-before =
              let last = last-before in
              let early : at ≤ way.told.at = way.told.latest at last.before last.settled in
              let same : way.told.at ≡ at = elim way.told.settled [
                | inl none ↦ omega (arith, none, early, last.past)
                | inr here ↦
                    omega (arith, early, last.latest way.told.at way.told.at_place here)
              ] in
              rw (← same) (sym way.told.put_is)

          pub stops-before : StopsAt aim at (Refused rule)
              (put ++ console (codes "stops before " ++ reset_line place rule))
          stops-before =
              let last = last-before in
              record {
                is = first-at (cause view stops (seek_ahead step)) at (Refused rule)
                    (rw (last.refused ∙ first.0) (refused-here (view at).boundary _ _ _ rule
                    last.settled (clear-to clear at last.before last.past)))
                    (most_steps - from) from last.past
                    (omega (arith, last.past, last.before, few))
                    (λ one after early. none-before one at after early last.before last.settled);
                within = omega (arith, last.before, within);
                settled = inl last.settled;
                lines_are = ap (λ (front : List (List ℕ)). front ++ console (codes "stops before "
                    ++ reset_line (refused_step view at (most_steps - at)) rule)) put-before
                    ∙ ap (λ (number : ℕ). put ++ console (codes "stops before "
                    ++ reset_line number rule)) (last.number ∙ first.1);
              }

  -- behind steps without lines, of which none is refused or ends at a cause; where lines wait
  -- there are none
  pub way-silent : (steps place next : ℕ) (waiting put : List (List ℕ)) → next ≡ steps + place
      → (waiting ≡ []) ⊎ (steps ≡ 0) → IsWay place waiting put → IsClear place
      → ((at : ℕ) → place ≤ at → at < next → ((view at).next.refused ≡ None)
      × ((view at).next.lines ≡ []) × (cause_by (suc at) ≡ None))
      → IsWay next waiting put × IsClear next
  way-silent zero place next waiting put same empty way clear silent =
      let here : next ≡ place = omega (arith, same) in rw here (way, clear)
  way-silent (suc steps) place next waiting put same empty way clear silent =
      let here = silent place (omega arith) (omega (arith, same)) in
      let none : waiting ≡ [] = elim empty [
        | inl none ↦ none
        | inr more ↦ absurd (omega (arith, more))
      ] in
      way-silent steps (suc place) next waiting put (omega (arith, same)) (inl none)
      (rw (append-nil put) at (way-step way [] waiting clear
      (rw here.0 (none-told (last_boundary view from place)))
      (rw here.1 (sym (append-nil waiting))) (λ is. none) (λ is. refl)))
      (λ past. here.2) (λ at after before. silent at (omega (arith, after)) before)
