-- Lines that are adopted once, and once more.
use Rattle.std.{proofs.{Common.{◌≡◌, ◌∙◌, ℕ, List, [], ◌∷◌, true, false, Option, Some, None, refl, sym, ap, inl, inr, arith, true≢false}, lemmas.{Bool.{cases_Bool, Decides.nat_tests}, List.Elements.{All-from_recursion, recursion_from_All}, Slice.Eq.bytes_eq-Decides}}, specs.{Prelude.{if◌then◌else◌, slice_index_or}, List.{All, AllByRecursion}, Str.bytes_eq}}
use Rattle.desk_memory.{specs.{Entry.{Entry, home_of, last_in, with_entries}, Moving.{with_arrivals, adoption_fault, entry_on_arrival, entries_on_arrival, came_by, entries_of, has_not_come, is_behind, is_new_in}}, proofs.Noted.last_named}
use Rattle.many_desks.{specs.{Act.world_after, Law.entry_of_one, Moves.{AreAdoptedOnce, AreAlike, IsAdoptedAgain}}, proofs.{Adopted.{AreAt, adopted_last, new_alike, not_behind, says_of_none}, Placed.{MovedTo, placed, view_of}, Token.settles}}

refused : (desk : List ℕ) (entries : List Entry) (name : List ℕ) (line : Entry)
    → line.name ≡ name → is_behind line (last_in entries name) ≡ true
    → adoption_fault desk entries line ≡ None → ⊥
refused desk entries name line named behind none =
    true≢false
    (sym behind ∙ ap (λ (one : List ℕ). is_behind line (last_in entries one)) (sym named)
    ∙ not_behind desk entries line none)

pub lines_are_adopted_once : AreAdoptedOnce
lines_are_adopted_once start acts home name desk lines line so allowed was is =
    elim (settles (view_of (world_after start acts) name) (MovedTo start acts name)
    (entry_of_one start acts home name) desk line (placed start acts home name so allowed)
    (lines, was, is)) [
      | inl way ↦ inl way
      | inr here ↦ elim here [
        | inl came ↦ inr (inl came)
        | inr behind ↦ inr (inr (refused desk (world_after start acts desk) name line
            (last_named lines name line is) behind))
      ]
    ]

-- none of old lines arrives
none_arrive : (entries lines : List Entry)
    → AllByRecursion (λ (line : Entry). is_new_in entries line ≡ false) lines
    → entries_on_arrival entries lines ≡ []
none_arrive entries [] old = refl
none_arrive entries (line ∷ later) old = rw old.0 (none_arrive entries later old.1)

-- after it was adopted each line is old
come_again : (line : Entry) (last : Option Entry)
    → has_not_come line (if has_not_come line last then Some (entry_on_arrival line) else last)
    ≡ false
come_again line last = elim (cases_Bool (has_not_come line last)) [
  | inl new ↦
      let came : came_by line (entry_on_arrival line) ≡ true = grind (arith, nat_tests) in
      rw (new, came) refl
  | inr old ↦ rw (old, old) refl
]

own_at : (lines some : List Entry) (name : List ℕ) (last : Entry)
    → last_in lines name ≡ Some last
    → AllByRecursion (λ (line : Entry). line.home ≡ home_of (last_in lines line.name)) some
    → AreAt last.home (entries_of name some)
own_at lines [] name last is all = tt
own_at lines (line ∷ later) name last is all = elim (cases_Bool (bytes_eq line.name name)) [
  | inl hit ↦
      rw hit (
        all.0
            ∙ ap (λ (one : List ℕ). home_of (last_in lines one))
            ((bytes_eq-Decides line.name name).0 hit)
            ∙ ap home_of is,
        own_at lines later name last is all.1,
      )
  | inr miss ↦ rw miss (own_at lines later name last is all.1)
]

all_old : (entries lines : List Entry) → AreAlike lines
    → All (λ (line : Entry). is_new_in (with_arrivals entries lines) line ≡ false) lines
all_old entries lines alike k d within = by_last (last_in lines line.name) refl
  where
    line : Entry
    line = slice_index_or lines k d

    by_last : (last : Option Entry) → last_in lines line.name ≡ last
        → is_new_in (with_arrivals entries lines) line ≡ false
    by_last None is =
        absurd (true≢false (All-from_recursion
        (λ (entry : Entry). entry.name ≡ line.name → true ≡ false) lines
        (says_of_none line.name (λ entry. true) false lines is) k d within refl))
    by_last (Some last) is =
        new_alike (with_arrivals entries lines) line last line.name refl
        (alike k d within ∙ ap home_of is)
        ∙ ap (has_not_come last) (adopted_last entries lines line.name last is
        (own_at lines lines line.name last is (recursion_from_All _ lines alike)))
        ∙ come_again last (last_in entries line.name)

pub adopted_again_is_adopted : IsAdoptedAgain
adopted_again_is_adopted entries lines alike =
    ap (with_entries (with_arrivals entries lines))
    (none_arrive (with_arrivals entries lines) lines
    (recursion_from_All _ lines (all_old entries lines alike)))
