-- Places that are taken one after the other.
use Rattle.std.{proofs.{Common.{◌≡◌, ◌<◌, ◌+◌, ◌-◌, ℕ, zero, suc, sym, ap, ◌∙◌, Bool, true, false, ◌&&◌, ◌||◌, [], ◌∷◌, refl, arith, ◌==◌}, Math.Bool.or_assoc}, specs.List.{list_all, list_any}}
use Rattle.msp_asm.specs.{FirstPass.{places_from, is_among}, FirstPassState.occupies}
use Rattle.part_definitions.specs.Memory.{is_image_place}
use Rattle.msp_asm.proofs.space.take_places.Goals as goal

-- the first of the places that are left
places_next : (next rest : ℕ) → 0 < rest
    → places_from next rest ≡ next ∷ places_from (next + 1) (rest - 1)
places_next next zero some = absurd (omega arith)
places_next next (suc rest) some =
    let e : suc rest - 1 ≡ rest = omega arith in rw e refl

left_next : (next count past : ℕ) → past < count
    → places_from next (count - past) ≡ next ∷ places_from (next + 1) (count - (past + 1))
left_next next count past below =
    let less : count - past - 1 ≡ count - (past + 1) = omega arith in
    places_next next (count - past) (omega arith)
    ∙ ap (λ n. next ∷ places_from (next + 1) n) less

all_next : (test : ℕ → Bool) (all : Bool) (next count past : ℕ) → past < count
    → all ≡ list_all test (places_from next (count - past))
    → test next ≡ true
    → all ≡ list_all test (places_from (next + 1) (count - (past + 1)))
all_next test all next count past below far passes =
    far ∙ ap (list_all test) (left_next next count past below)
    ∙ ap (λ b. b && list_all test (places_from (next + 1) (count - (past + 1)))) passes

any_next : (test : ℕ → Bool) (all so_far was : Bool) (next count past : ℕ) → past < count
    → all ≡ (so_far || list_any test (places_from next (count - past)))
    → was ≡ test next
    → all ≡ ((so_far || was) || list_any test (places_from (next + 1) (count - (past + 1))))
any_next test all so_far was next count past below far is =
    far ∙ ap (λ places. so_far || list_any test places) (left_next next count past below)
    ∙ sym (or_assoc so_far (test next)
    (list_any test (places_from (next + 1) (count - (past + 1)))))
    ∙ ap (λ b. (so_far || b) || list_any test (places_from (next + 1) (count - (past + 1))))
    (sym is)

-- none are left
none_left : (next count : ℕ) → places_from next (count - count) ≡ []
none_left next count = let e : count - count ≡ 0 = omega arith in rw e refl

-- the places that are taken, with the next one
among_next : (first past next place : ℕ) → next ≡ first + past
    → is_among first (past + 1) place ≡ ((place == next) || is_among first past place)
among_next first past next place is = grind (arith, is)

next_apart : (first past next : ℕ) → next ≡ first + past → is_among first past next ≡ false
next_apart first past next is = grind (arith, is)

taken_next : (is_taken old : ℕ → Bool) (new : Bool) (first past next place : ℕ)
    → next ≡ first + past
    → is_taken place ≡ (is_among first past place || old place)
    → new ≡ ((place == next) || is_taken place)
    → new ≡ (is_among first (past + 1) place || old place)
taken_next is_taken old new first past next place is before after =
    after ∙ ap (λ b. (place == next) || b) before
    ∙ sym (or_assoc (place == next) (is_among first past place) (old place))
    ∙ ap (λ b. b || old place) (sym (among_next first past next place is))

before_next : (is_taken old : ℕ → Bool) (was : Bool) (first past next : ℕ)
    → next ≡ first + past
    → is_taken next ≡ (is_among first past next || old next)
    → was ≡ is_taken next
    → was ≡ old next
before_next is_taken old was first past next is before same =
    same ∙ before ∙ ap (λ b. b || old next) (next_apart first past next is)

pub loop-step-preserved : goal.loop-step-preserved
loop-step-preserved c =
    let at = c.loop-step in
    let took = c.in_ok-overlaps.ensures in
    let first = c.args.first in
    let count = c.args.count in
    let old = occupies c.args.occupancy.now in
    let now = occupies at.occupancy in
    let below = c.loop-step-test.true in
    let was = before_next now old c.in_ok-overlaps.field-0 first at._step at.next at.invariant.at
    (at.invariant.taken at.next) took.before in
    record {
      at = omega (arith, at.invariant.at);
      most = omega (arith, took.most);
      placed = all_next is_image_place (list_all is_image_place (places_from first count)) at.next
          count at._step below at.invariant.placed took.placed;
      overlaps = any_next old (list_any old (places_from first count)) at.overlaps
          c.in_ok-overlaps.field-0 at.next count at._step below at.invariant.overlaps was;
      taken = λ place. taken_next now old (occupies c.take_place.new.occupancy place) first at._step
          at.next place at.invariant.at (at.invariant.taken place) (took.taken place);
    }
