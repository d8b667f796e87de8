-- A walk that looks back at a piece of the way, from boundary to boundary.
use Rattle.std.{proofs.{Common.{◌≡◌, ◌≤◌, ◌<◌, ◌+◌, ◌-◌, ◌∙◌, ◌⊎◌, inl, inr, ⊎_elim, ℕ, zero, suc, Bool, true, false, Option, None, length, refl, ap, sym, arith}, lemmas.Bool.{cases_Bool, cases_lt, ltb-false, ltb-true}}, specs.{Prelude.{IfSome, nat_lt, if◌then◌else◌}, Option.option_or}}
use Rattle.hmac_core.specs.Hash.{Hash}
use Rattle.part_definitions.specs.CpuRegister.{pc_of}
use Rattle.debug_session.{specs.{Request.most_steps, Stops.Stops, declared.stop.Stop.Stop, Cause.{Step, behind, is_plain}, Place.{Run, sight_at, view_of}}, proofs.Views.view-at}
use Rattle.debug_walk.specs.{Passing.{ArePassed, AreSilent, Sleeps}, Walk.{IsStretch, Walks, place_of}, declared.walk.Walk.Walk}
use Rattle.device_debug.{specs.{Ahead.{IsLastBehind, stop_with_place}, Going.cause_before}, proofs.Back.{Covers, asleep-none, cause-behind, cause_back, covers-all, covers-here, covers-on, early-here, no-boundary, plain-none, plain_at}}

module _ {D : Type 0} (hash : Hash D) (run : Run) (stops : Stops) (step : Option Step)
    (from begin last : ℕ)
  where
    abbrev cause_at : ℕ → Option Stop
    cause_at = cause_back run stops step from

    -- the walk is at a boundary, or where it began or ends
    pub record IsLookingBack (walk : Walk D) (place pc : ℕ) (broken : Bool)
        (found : Option (ℕ × Stop)) : Type 0 where
      pub walks : Walks hash run walk
      pub place_is : place ≡ place_of walk
      pub within : place ≤ from
      pub from_begin : begin ≤ place
      pub settled : begin < place
          → ((view_of run place).boundary ≡ true) ⊎ (place ≡ from)
      pub pc_is : place < from → pc ≡ pc_of (view_of run place).registers
      pub broken_is : begin < place → place < from → broken ≡ plain_at run stops step from place
      pub fresh : place < from
          → ((sight_at run place).boundary ≡ true) ⊎ IsStretch stops.watches run place walk.stretch
      pub covers : Covers cause_at begin place found
      pub early : IfSome found (λ one. one.0 ≤ last)

    module _ (within : from ≤ most_steps) where
      view-here : (place : ℕ) → place ≤ from → sight_at run place ≡ view_of run place
      view-here place early = sym (view-at run place (omega (arith, early, within)))

      -- what was found before, and at the boundary that it comes from
      abbrev pub found_by : ℕ → Option Stop → Option (ℕ × Stop) → Option (ℕ × Stop)
      found_by place stop found =
          if nat_lt begin place then option_or (stop_with_place place stop) found else found

      -- it left a place, asleep up to its last step, and went on to the next boundary
      module _ (late : last < from) {walk : Walk D} (left next : Walk D) {place pc : ℕ}
          {broken : Bool} {found found' : Option (ℕ × Stop)}
          (looks : IsLookingBack walk place pc broken found)
          (gone : (place_of walk < place_of left) × (place_of left ≤ last + 1))
          (alone : broken ≡ true → place_of left ≡ place_of walk + 1)
          (silent : AreSilent run (place_of walk) (place_of left - 1))
          (passed : ArePassed stops true run (place_of walk) (place_of left))
          (on : (place_of left ≤ place_of next) × (place_of next ≤ from))
          (kept : IsStretch stops.watches run (place_of next) next.stretch)
          (none : (at : ℕ) → place_of left ≤ at → at < place_of next
          → (sight_at run at).boundary ≡ false)
          (ends : (place_of next ≡ from) ⊎ ((sight_at run (place_of next)).boundary ≡ true))
          (found_is : found'
          ≡ found_by (place_of left - 1) (cause_before step next.stretch broken pc) found)
        where
          -- where the last stretch begins, and where it ends
          abbrev there : ℕ
          there = place_of left - 1

          abbrev until : ℕ
          until = place_of next

          bounds : (place ≤ there) × (suc there ≡ place_of left) × (there < until) × (until ≤ from)
              × (there ≤ last)
          bounds = (
            omega (arith, looks.place_is, gone),
            omega (arith, gone),
            omega (arith, gone, on),
            on.1,
            omega (arith, gone),
          )

          slept : (at : ℕ) → place ≤ at → at < there → Sleeps run at
          slept at past before =
              let one =
              passed (suc at) (omega (arith, past, looks.place_is))
              (omega (arith, before, bounds)) in
              one.slept refl at refl

          -- it keeps its registers
          same-registers : (steps at : ℕ) → at ≡ steps + place → at ≤ there
              → (sight_at run at).registers ≡ (sight_at run place).registers
          same-registers zero at is within_there =
              let same : at ≡ place = omega (arith, is) in
              ap (λ (one : ℕ). (sight_at run one).registers) same
          same-registers (suc steps) at is within_there =
              let before : ℕ = steps + place in
              let next_is : at ≡ suc before = omega (arith, is) in
              ap (λ (one : ℕ). (sight_at run one).registers) next_is
              ∙ (slept before (omega arith) (omega (arith, next_is, within_there))).same
              ∙ same-registers steps before refl (omega (arith, next_is, within_there))

          pc-there : pc ≡ pc_of (view_of run there).registers
          pc-there =
              rw (
                ← view-here there (omega (arith, bounds)),
                same-registers (there - place) there (omega (arith, bounds)) (omega arith),
                view-here place (omega (arith, bounds)),
              )
              (looks.pc_is (omega (arith, bounds)))

          -- the boundaries that it slept over are not broken
          unbroken : place < there → broken ≡ false
          unbroken less =
              ⊎_elim
              (λ (is : broken ≡ true). absurd (omega (arith, alone is, less, looks.place_is)))
              (λ (none_is : broken ≡ false). none_is) (cases_Bool broken)

          plain-past : (at : ℕ) → place < at → at ≤ there → (view_of run at).boundary ≡ true
              → plain_at run stops step from at ≡ false
          plain-past at past before here =
              plain-none (view_of run at).boundary (plain_at run stops step from at)
              (rw (← view-here at (omega (arith, before, bounds)))
              (passed at (omega (arith, past, looks.place_is))
              (omega (arith, before, bounds))).plain)
              here

          plain-here : place < there → begin < place → plain_at run stops step from place ≡ false
          plain-here less past =
              sym (looks.broken_is past (omega (arith, less, bounds))) ∙ unbroken less

          -- where the last stretch begins there is a boundary, and it is known whether it breaks
          there-is : begin < there → ((view_of run there).boundary ≡ true)
              × (broken ≡ plain_at run stops step from there)
          there-is past =
              ⊎_elim
              (λ (less : place < there).
              let next_is : suc (there - 1) ≡ there = omega (arith, less) in
              let settled : (view_of run there).boundary ≡ true =
              rw (next_is, view-here there (omega (arith, bounds))) at
              (slept (there - 1) (omega (arith, less)) (omega (arith, less))).to in
              (settled, unbroken less ∙ sym (plain-past there less (omega arith) settled)))
              (λ (over : there ≤ place).
              let same : there ≡ place = omega (arith, over, bounds) in
              rw same (
                ⊎_elim (λ (here : (view_of run place).boundary ≡ true). here)
                    (λ (all : place ≡ from). absurd (omega (arith, all, bounds, late)))
                    (looks.settled (omega (arith, past, same))),
                looks.broken_is (omega (arith, past, same)) (omega (arith, same, bounds)),
              ))
              (cases_lt place there)

          none-slept : (at : ℕ) → begin < at → place ≤ at → at < there → cause_at at ≡ None
          none-slept at past over before =
              let sleeps = slept at over before in
              let settled : (view_of run at).boundary ≡ true =
              rw (view-here at (omega (arith, before, bounds))) at sleeps.from in
              asleep-none run stops step from at (omega (arith, before, bounds)) within sleeps
              (silent at (omega (arith, over, looks.place_is)) before)
              (passed (suc at) (omega (arith, over, looks.place_is)) (omega (arith, before))).met
              (⊎_elim
              (λ (less : place < at). plain-past at less (omega (arith, before)) settled)
              (λ (not_less : at ≤ place).
              let same : place ≡ at = omega (arith, not_less, over) in
              rw same at (plain-here (omega (arith, same, before)) (omega (arith, same, past))))
              (cases_lt place at))

          none-on : (at : ℕ) → there < at → at < until → (view_of run at).boundary ≡ false
          none-on at past less =
              rw (view-here at (omega (arith, less, on))) at (none at (omega (arith, past)) less)

          ends-there : (until ≡ from) ⊎ ((view_of run until).boundary ≡ true)
          ends-there =
              ⊎_elim (λ (all : until ≡ from). inl all)
              (λ (here : (sight_at run until).boundary ≡ true).
              inr (rw (view-here until on.1) at here))
              ends

          abbrev stop_there : Option Stop
          stop_there = cause_before step next.stretch broken pc

          covers-there : Covers cause_at begin until found'
          covers-there =
              let between : (at : ℕ) → begin < at → suc there ≤ at → at < until
              → cause_at at ≡ None =
              λ at past over below. no-boundary run stops step from at
              (none-on at (omega (arith, over)) below) in
              let before : Covers cause_at begin there found =
              covers-on cause_at begin place there found (omega (arith, bounds)) none-slept
              looks.covers in
              ⊎_elim
              (λ (past : nat_lt begin there ≡ true).
              let later : begin < there = ltb-true begin there past in
              covers-on cause_at begin (suc there) until found' (omega (arith, bounds)) between
              (rw (found_is, past) (covers-here cause_at begin there stop_there found later
              (cause-behind run stops step from there until next.stretch broken (there-is later).0
              (omega (arith, bounds)) on.1 none-on ends-there (there-is later).1 kept
              ∙ ap (cause_before step next.stretch broken) (sym pc-there)) before)))
              (λ (none_past : nat_lt begin there ≡ false).
              let same : there ≤ begin = ltb-false begin there none_past in
              covers-on cause_at begin there until found' (omega (arith, bounds))
              (λ at past over below. between at past (omega (arith, past, same)) below)
              (rw (found_is, none_past) before))
              (cases_Bool (nat_lt begin there))

          pub looks-on : {place' pc' : ℕ} {broken' : Bool}
              → Walks hash run next → place' ≡ place_of next
              → pc' ≡ pc_of (sight_at run (place_of next)).registers
              → broken' ≡ is_plain stops (sight_at run (place_of next))
              (place_of next - length (behind (view_of run) (place_of next))) (place_of next)
              → IsLookingBack next place' pc' broken' found'
          looks-on walks place_is pc_is broken_is =
              let here = view-here until on.1 in
              record {
                walks = walks;
                place_is = place_is;
                within = omega (arith, place_is, on);
                from_begin = omega (arith, place_is, bounds, looks.from_begin);
                settled = λ past. rw place_is (⊎_elim (λ (all : until ≡ from). inr all)
                    (λ (is : (view_of run until).boundary ≡ true). inl is) ends-there);
                pc_is = λ some. rw (place_is, ← here) pc_is;
                broken_is = λ past some. rw (place_is, ← here) broken_is;
                fresh = λ some. inl (⊎_elim
                    (λ (all : until ≡ from). absurd (omega (arith, all, some, place_is)))
                    (λ (is : (sight_at run until).boundary ≡ true). rw place_is is) ends);
                covers = rw place_is covers-there;
                early = rw found_is
                    (early-here last there (nat_lt begin there) stop_there found
                    (omega (arith, gone)) looks.early);
              }

      pub looks-back : {walk : Walk D} {place pc : ℕ} {broken : Bool}
          {found : Option (ℕ × Stop)}
          → IsLookingBack walk place pc broken found → last < place
          → IsLastBehind cause_at begin last found
      looks-back looks past = covers-all cause_at begin _ last _ past looks.early looks.covers
