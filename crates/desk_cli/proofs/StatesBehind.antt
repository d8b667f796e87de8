-- Entries each of which goes behind those before it.
use Rattle.std.{proofs.{Common.{◌≡◌, ◌∙◌, ℕ, suc, Bool, true, ◌&&◌, List, [], ◌∷◌, ◌++◌, Option, Some, None, Ok, append_assoc, append-nil, length, refl, ap, inl, inr, sym, arith}, lemmas.{Bool.{and_from, and_parts, cases_Bool, eqb-false, eqb-true}, Slice.Eq.bytes_eq-Decides}}, specs.{Prelude.{◌==◌, not}, Option.is_some, Str.bytes_eq}}
use Rattle.desk_memory.{specs.{DeviceState.new_device, Entry.{Entry, first_home, is_replaced, owner_in, last_in, with_entries, with_entry, place_for}}, proofs.Places.with_entry-push}
use Rattle.verifier_desk.specs.KeyOwner.{IsFreeFor}
use Rattle.desk_cli.{specs.StateFile.{entry_fault, goes_behind, is_in_range, is_owner}, proofs.Noting.noted-last}

behind-all : (entries : List Entry) (entry : Entry) → place_for entries entry ≡ length entries
    → with_entry entries entry ≡ entries ++ entry ∷ []
behind-all entries entry is = sym (with_entry-push entries entry (omega (arith, is)))

-- an entry that is not at fault goes behind all
sound-behind : (entries : List Entry) (entry : Entry) → entry_fault entries entry ≡ Ok tt
    → goes_behind entries entry ≡ true
sound-behind entries entry sound = elim (cases_Bool (is_in_range entry.state)) [
  | inl ranged ↦ elim (cases_Bool (goes_behind entries entry)) [
    | inl behind ↦ behind
    | inr before ↦ absurd (let known = rw (ranged, before) at sound in cc known)
  ]
  | inr unranged ↦ absurd (let known = rw unranged at sound in cc known)
]

pub add_keeps : (entries : List Entry) (entry : Entry)
    → with_entries [] entries ≡ entries → entry_fault entries entry ≡ Ok tt
    → with_entries [] (entries ++ entry ∷ []) ≡ entries ++ entry ∷ []
add_keeps entries entry noted sound =
    let parts = and_parts (place_for entries entry == length entries)
    (is_owner entry.name (owner_in entries entry.mark)) (sound-behind entries entry sound) in
    noted-last [] entries entry
    ∙ ap (λ (all : List Entry). with_entry all entry) noted
    ∙ behind-all entries entry (eqb-true (place_for entries entry) (length entries) parts.0)

-- each of these goes behind those before it
abbrev pub stand_behind : List Entry → List Entry → Bool
stand_behind before [] = true
stand_behind before (entry ∷ entries) =
    goes_behind before entry && stand_behind (before ++ entry ∷ []) entries

-- one more behind them
last-behind : (before entries : List Entry) (entry : Entry) → stand_behind before entries ≡ true
    → goes_behind (before ++ entries) entry ≡ true
    → stand_behind before (entries ++ entry ∷ []) ≡ true
last-behind before [] entry stand behind =
    and_from (goes_behind before entry) true
    (ap (λ (had : List Entry). goes_behind had entry) (sym (append-nil before)) ∙ behind) refl
last-behind before (first ∷ entries) entry stand behind =
    let parts = and_parts (goes_behind before first)
    (stand_behind (before ++ first ∷ []) entries) stand in
    and_from (goes_behind before first)
    (stand_behind (before ++ first ∷ []) (entries ++ entry ∷ [])) parts.0
    (last-behind (before ++ first ∷ []) entries entry parts.1
    (ap (λ (had : List Entry). goes_behind had entry) (append_assoc before (first ∷ []) entries)
    ∙ behind))

-- whether they do is seen of names and marks alone

abbrev without_state : Entry → Entry
without_state entry =
    record { name = entry.name; mark = entry.mark; state = new_device; home = first_home }

abbrev without_states : List Entry → List Entry
without_states [] = []
without_states (entry ∷ entries) = without_state entry ∷ without_states entries

without-append : (one two : List Entry)
    → without_states (one ++ two) ≡ without_states one ++ without_states two
without-append [] two = refl
without-append (entry ∷ one) two =
    ap (λ (all : List Entry). without_state entry ∷ all) (without-append one two)

without-length : (entries : List Entry) → length (without_states entries) ≡ length entries
without-length [] = refl
without-length (entry ∷ entries) = ap (λ (n : ℕ). suc n) (without-length entries)

without-named : (entries : List Entry) (name : List ℕ)
    → is_some (last_in (without_states entries) name) ≡ is_some (last_in entries name)
without-named [] name = refl
without-named (entry ∷ later) name =
    let more = without-named later name in
    elim (cases_Bool (is_some (last_in later name))) [
      | inl named ↦ rw (more, named, more, named) refl
      | inr unnamed ↦ elim (cases_Bool (bytes_eq entry.name name)) [
        | inl hit ↦ rw (more, unnamed, hit) refl
        | inr miss ↦ rw (more, unnamed, miss) refl
      ]
    ]

without-place : (entries : List Entry) (entry : Entry)
    → place_for (without_states entries) (without_state entry) ≡ place_for entries entry
without-place [] entry = refl
without-place (first ∷ later) entry =
    rw (without-named later entry.name, without-place later entry) refl

without-owner : (entries : List Entry) (mark : List ℕ)
    → owner_in (without_states entries) mark ≡ owner_in entries mark
without-owner [] mark = refl
without-owner (entry ∷ later) mark = rw (without-owner later mark) refl

without-behind : (entries : List Entry) (entry : Entry)
    → goes_behind (without_states entries) (without_state entry) ≡ goes_behind entries entry
without-behind entries entry =
    rw (
      without-place entries entry,
      without-length entries,
      without-owner entries entry.mark,
    ) refl

without-stand : (before entries : List Entry)
    → stand_behind (without_states before) (without_states entries) ≡ stand_behind before entries
without-stand before [] = refl
without-stand before (entry ∷ entries) =
    rw (
      without-behind before entry,
      sym (without-append before (entry ∷ [])),
      without-stand (before ++ entry ∷ []) entries,
    ) refl

-- an entry that is renewed keeps its name and its mark
replaced-same : (first entry : Entry) (later : List Entry) → is_replaced first later entry ≡ true
    → without_state entry ≡ without_state first
replaced-same first entry later is =
    let all = and_parts (bytes_eq first.name entry.name && bytes_eq first.mark entry.mark)
    (not (is_some (last_in later entry.name))) is in
    let parts = and_parts (bytes_eq first.name entry.name) (bytes_eq first.mark entry.mark) all.0 in
    rw (
      (bytes_eq-Decides first.name entry.name).0 parts.0,
      (bytes_eq-Decides first.mark entry.mark).0 parts.1,
    ) refl

renewed-all : (entries : List Entry) (entry : Entry)
    → (place_for entries entry ≡ length entries → ⊥)
    → without_states (with_entry entries entry) ≡ without_states entries
renewed-all [] entry before = absurd (before refl)
renewed-all (first ∷ later) entry before =
    elim (cases_Bool (is_replaced first later entry)) [
      | inl same ↦ rw same (ap (λ (one : Entry). one ∷ without_states later)
          (replaced-same first entry later same))
      | inr other ↦ rw other (ap (λ (all : List Entry). without_state first ∷ all)
          (renewed-all later entry
          (λ all. rw other at before (ap (λ (n : ℕ). suc n) all))))
    ]

free-owner : (name : List ℕ) (owner : Option (List ℕ)) → IsFreeFor name owner
    → is_owner name owner ≡ true
free-owner name None free = refl
free-owner name (Some owner) free = (bytes_eq-Decides owner name).1 free

-- one that renews an entry changes no name and no mark, and any other goes behind all
pub noted-behind : (had : List Entry) (entry : Entry) → stand_behind [] had ≡ true
    → IsFreeFor entry.name (owner_in had entry.mark)
    → stand_behind [] (with_entry had entry) ≡ true
noted-behind had entry stand free =
    elim (cases_Bool (place_for had entry == length had)) [
      | inl behind ↦
          rw (behind-all had entry (eqb-true (place_for had entry) (length had) behind))
          (last-behind [] had entry stand
          (and_from (place_for had entry == length had)
          (is_owner entry.name (owner_in had entry.mark)) behind
          (free-owner entry.name (owner_in had entry.mark) free)))
      | inr before ↦
          sym (without-stand [] (with_entry had entry))
          ∙ ap (λ (entries : List Entry). stand_behind [] entries)
          (renewed-all had entry (eqb-false (place_for had entry) (length had) before))
          ∙ without-stand [] had ∙ stand
    ]
