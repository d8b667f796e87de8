-- The marks of the devices before a place.
use Rattle.std.{proofs.{Common.{◌≡◌, ◌∙◌, ◌<◌, ◌+◌, ℕ, false, List, [], ◌∷◌, ◌++◌, refl, ap, sym, subst, arith, ⊎_elim, Contains, below_more}, lemmas.{Bool.{cases_Bool, ltb-true, Decides.nat_tests}, List.Elements.{All-cons, All-contains, All-nil, Contains-append_cases, Contains-append_left, Contains-append_right}}}, specs.Prelude.{nat_lt, slice_index_or}}
use Rattle.desk_memory.specs.{Entry.{Entry, owner_in}, KeyMark.key_mark}
use Rattle.verifier_desk.{specs.{DeviceKey.DeviceKey, KeyOwner.{IsFreeFor, StandApartBefore, StandsApart}}, proofs.KeyPlaces.no_device}

-- these are the marks of the devices before a place, and no others
pub record AreMarks (digest : List ℕ → List ℕ) (devices : List DeviceKey) (marks : List (List ℕ))
    (place : ℕ) : Type 0 where
  pub all : (before : ℕ) (d : DeviceKey) → before < place
      → Contains marks (key_mark digest (slice_index_or devices before d).key)
  pub only : (mark : List ℕ) → Contains marks mark
      → (before : ℕ) × (before < place)
      × ((d : DeviceKey) → key_mark digest (slice_index_or devices before d).key ≡ mark)

-- the name and the mark of the device at a place
pub record IsAt (digest : List ℕ → List ℕ) (devices : List DeviceKey) (place : ℕ)
    (name mark : List ℕ) : Type 0 where
  pub named : (d : DeviceKey) → (slice_index_or devices place d).name ≡ name
  pub marked : (d : DeviceKey) → key_mark digest (slice_index_or devices place d).key ≡ mark

pub is_at : (digest : List ℕ → List ℕ) (devices : List DeviceKey) (place : ℕ) (device : DeviceKey)
    (name key mark : List ℕ) → ((d : DeviceKey) → device ≡ slice_index_or devices place d)
    → name ≡ device.name → key ≡ device.key → mark ≡ key_mark digest key
    → IsAt digest devices place name mark
is_at digest devices place device name key mark here named keyed marked =
    record {
      named = λ d. ap (λ (one : DeviceKey). one.name) (sym (here d)) ∙ sym named;
      marked = λ d. ap (λ (one : DeviceKey). key_mark digest one.key) (sym (here d))
          ∙ ap (key_mark digest) (sym keyed) ∙ sym marked;
    }

only_one : (mark one : List ℕ) → Contains (mark ∷ []) one → mark ≡ one
only_one mark one has =
    All-contains (λ (other : List ℕ). mark ≡ other) (mark ∷ []) one
    (All-cons (λ (other : List ℕ). mark ≡ other) mark [] refl (All-nil _)) has

earlier_or_last : (before place : ℕ) → nat_lt before place ≡ false → before < place + 1
    → place ≡ before
earlier_or_last before place above below = grind (arith, nat_tests, above, below)

-- one more
pub next_marks : (digest : List ℕ → List ℕ) (devices : List DeviceKey) (marks : List (List ℕ))
    (place : ℕ) (name mark : List ℕ) → IsAt digest devices place name mark
    → AreMarks digest devices marks place
    → AreMarks digest devices (marks ++ mark ∷ []) (place + 1)
next_marks digest devices marks place name mark at so =
    record {
      all = λ before d below. ⊎_elim
          (λ sooner. Contains-append_left marks (mark ∷ []) _
          (so.all before d (ltb-true before place sooner)))
          (λ last. Contains-append_right marks (mark ∷ []) _ (subst (λ (here : ℕ).
          Contains (mark ∷ []) (key_mark digest (slice_index_or devices here d).key))
          (earlier_or_last before place last below)
          (subst (Contains (mark ∷ [])) (sym (at.marked d)) (0, omega arith, refl))))
          (cases_Bool (nat_lt before place));
      only = λ one has. ⊎_elim
          (λ sooner. let found = so.only one sooner in
          (found.0, omega (arith, found.1), found.2))
          (λ last. (place, omega arith, λ d. at.marked d ∙ only_one mark one last))
          (Contains-append_cases marks (mark ∷ []) one has);
    }

-- the device at a place stands apart, and so do those before it
pub stands_apart : (digest : List ℕ → List ℕ) (devices : List DeviceKey) (entries : List Entry)
    (marks : List (List ℕ)) (place : ℕ) (name mark : List ℕ) → IsAt digest devices place name mark
    → AreMarks digest devices marks place
    → IsFreeFor name (owner_in entries mark) × (Contains marks mark → ⊥)
    → StandsApart digest devices entries place
stands_apart digest devices entries marks place name mark at so apart =
    record {
      free = λ d. subst (λ (one : List ℕ). IsFreeFor one
          (owner_in entries (key_mark digest (slice_index_or devices place d).key)))
          (sym (at.named d))
          (subst (λ (one : List ℕ). IsFreeFor name (owner_in entries one)) (sym (at.marked d))
          apart.0);
      new = λ before d below same.
          apart.1 (subst (Contains marks) (same ∙ at.marked d) (so.all before d below));
    }

pub apart_before : (digest : List ℕ → List ℕ) (devices : List DeviceKey) (entries : List Entry)
    (place : ℕ) → StandApartBefore digest devices entries place
    → StandsApart digest devices entries place
    → StandApartBefore digest devices entries (place + 1)
apart_before digest devices entries place so here = below_more _ _ so here

-- or it does not
pub is_taken : (digest : List ℕ → List ℕ) (devices : List DeviceKey) (entries : List Entry)
    (marks : List (List ℕ)) (place : ℕ) (name mark : List ℕ) → IsAt digest devices place name mark
    → AreMarks digest devices marks place
    → (IsFreeFor name (owner_in entries mark) × (Contains marks mark → ⊥) → ⊥)
    → StandsApart digest devices entries place → ⊥
is_taken digest devices entries marks place name mark at so taken apart =
    taken (
      subst (λ (one : List ℕ). IsFreeFor one (owner_in entries mark)) (at.named no_device)
          (subst (λ (one : List ℕ). IsFreeFor (slice_index_or devices place no_device).name
          (owner_in entries one)) (at.marked no_device) (apart.free no_device)),
      λ has. let found = so.only mark has in
          apart.new found.0 no_device found.1
          (found.2 no_device ∙ sym (at.marked no_device)),
    )
