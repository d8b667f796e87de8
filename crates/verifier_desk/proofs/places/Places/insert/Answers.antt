-- A tree of words with their places as a function.
use Rattle.std.{proofs.{Common.{◌≡◌, ◌∙◌, ℕ, List, Option, Bool, true, false, sym, subst, ⊎_elim, Vec, Some}, lemmas.{Bool.{cases_Bool, cond-true, cond-false}, Map.Text.is_eq-slice_cmp, Slice.Eq.bytes_eq-Decides}}, specs.{BTreeMap.{BTreeMap, UpdatesBy}, Cmp.{eq_by_cmp_equiv, Lexicographic.{slice_cmp, nat_list_cmp_total, nat_list_eq_equiv}}, Map.{update, lookup, IsKeyTest, AreApart, KeepsOthers}, Ordering.{nat_cmp, is_eq}, Str.bytes_eq}}
use Rattle.std.specs.BTreeMap as tree
use Rattle.verifier_desk.proofs.places.Places.insert.Goals as goal

abbrev place_of : {alloc : Type 0} → BTreeMap (Vec ℕ alloc) ℕ → List ℕ → Option ℕ
place_of map word = tree.get_by (λ k. slice_cmp nat_cmp word k.items) map

apart : (word other key : List ℕ) → bytes_eq word other ≡ false
    → is_eq (slice_cmp nat_cmp word key) ≡ true → is_eq (slice_cmp nat_cmp other key) ≡ false
apart word other key differ same =
    is_eq-slice_cmp other key
    ∙ nat_list_eq_equiv.symm other key
    ∙ sym (nat_list_eq_equiv.congr word key other (sym (is_eq-slice_cmp word key) ∙ same)) ∙ differ

kept : {K X : Type 0} (eq : K → K → Bool) (test : K → Bool) (old new : List (K × X))
    → KeepsOthers eq test old new → (other : K → Bool) → IsKeyTest eq other → AreApart test other
    → lookup other new ≡ lookup other old
unfolding KeepsOthers
kept eq test old new keeps = keeps

place_of-update : {alloc : Type 0} (word : List ℕ) (old new : BTreeMap (Vec ℕ alloc) ℕ)
    (place : Option ℕ)
    → tree.UpdatesBy (λ x y. slice_cmp nat_cmp x.items y.items)
    (λ k. slice_cmp nat_cmp word k.items) old new place
    → place_of new ≡ update bytes_eq (place_of old) word place
place_of-update word old new place updates =
    λ i. λ other. ⊎_elim
    (λ same. subst (λ one. place_of new one ≡ place) ((bytes_eq-Decides word other).0 same)
    updates.1
    ∙ sym (cond-true (bytes_eq word other) place (place_of old other) same))
    (λ differ. kept _ _ _ _ updates.3 _
    (λ x y. (eq_by_cmp_equiv nat_list_cmp_total).congr other x.items y.items)
    (λ k. apart word other k.items differ)
    ∙ sym (cond-false (bytes_eq word other) place (place_of old other) differ))
    (cases_Bool (bytes_eq word other)) i

pub returns-clause-placed : goal.returns-clause-placed
returns-clause-placed c =
    let old = c.args.self.now.places in
    let place = Some c.args.place in
    place_of-update c.args.word.now old c.insert.new.self place
    (subst (λ (word : List ℕ). UpdatesBy (λ x y. slice_cmp nat_cmp x.items y.items)
    (λ k. slice_cmp nat_cmp word k.items) old c.insert.new.self place)
    (c.in_ok-word.ensures.items_if_clones_equal (λ x y same. same)) c.in_ok-insert.ensures.updates)
