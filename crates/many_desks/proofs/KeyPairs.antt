-- Under which name each key stands after acts.
use Rattle.std.{proofs.{Common.{◌≡◌, ◌∙◌, ◌⊎◌, ℕ, List, [], ◌∷◌, Bool, true, false, Option, Some, None, ◌&&◌, not, refl, sym, ap, subst, inl, inr}, lemmas.{Option.same_Some, Bool.cases_Bool, Slice.Eq.bytes_eq-Decides}}, specs.{Prelude.map, List.filter, Option.is_some, Str.bytes_eq}}
use Rattle.desk_memory.specs.{Entry.{Entry, Home, home_of, is_replaced, last_in, owner_in, with_entries, with_entry}, Moving.{with_arrivals, entries_on_arrival, at_home, with_departure, entries_of, gone_to, is_needed, moved_lines, with_gone}}
use Rattle.many_desks.{specs.Keys.StandsUnder, proofs.Worlds.same_bytes}

-- an entry more
pub added : (entries : List Entry) (new : Entry)
    → StandsUnder (with_entry entries new) new.mark new.name
added [] new = inl (refl, refl)
added (entry ∷ later) new = elim (cases_Bool (is_replaced entry later new)) [
  | inl same ↦ rw same (inl (refl, refl))
  | inr other ↦ rw other (inr (added later new))
]

pub both : (a b c : Bool) → (a && b && c) ≡ true → (a ≡ true) × (b ≡ true)
both true true c all = (refl, refl)
both true false c all = absurd (cc all)
both false b c all = absurd (cc all)

pub stands_still : (entries : List Entry) (new : Entry) (mark name : List ℕ)
    → StandsUnder entries mark name → StandsUnder (with_entry entries new) mark name
stands_still [] new mark name stands = absurd stands
stands_still (entry ∷ later) new mark name stands =
    elim (cases_Bool (is_replaced entry later new)) [
      | inl same ↦
          let parts = both (bytes_eq entry.name new.name) (bytes_eq entry.mark new.mark)
          (not (is_some (last_in later new.name))) same in
          rw same (elim stands [
            | inl own ↦ inl (
              sym ((bytes_eq-Decides entry.mark new.mark).0 parts.1) ∙ own.0,
              sym ((bytes_eq-Decides entry.name new.name).0 parts.0) ∙ own.1,
            )
            | inr behind ↦ inr behind
          ])
      | inr other ↦ rw other (elim stands [
        | inl own ↦ inl own
        | inr behind ↦ inr (stands_still later new mark name behind)
      ])
    ]

pub stood_or_added : (entries : List Entry) (new : Entry) (mark name : List ℕ)
    → StandsUnder (with_entry entries new) mark name
    → StandsUnder entries mark name ⊎ ((new.mark ≡ mark) × (new.name ≡ name))
stood_or_added [] new mark name (inl own) = inr own
stood_or_added [] new mark name (inr behind) = absurd behind
stood_or_added (entry ∷ later) new mark name stands =
    elim (cases_Bool (is_replaced entry later new)) [
      | inl same ↦ elim (rw same at stands) [
        | inl own ↦ inr own
        | inr behind ↦ inl (inr behind)
      ]
      | inr other ↦ elim (rw other at stands) [
        | inl own ↦ inl (inl own)
        | inr behind ↦ elim (stood_or_added later new mark name behind) [
          | inl stood ↦ inl (inr stood)
          | inr new ↦ inr new
        ]
      ]
    ]

-- the owner of a key
pub owner_stands : (entries : List Entry) (mark name : List ℕ)
    → owner_in entries mark ≡ Some name → StandsUnder entries mark name
owner_stands [] mark name owns = absurd (cc owns)
owner_stands (entry ∷ later) mark name owns = elim (cases_Bool (bytes_eq entry.mark mark)) [
  | inl hit ↦ inl ((bytes_eq-Decides entry.mark mark).0 hit, same_some (rw hit at owns))
  | inr miss ↦ inr (owner_stands later mark name (rw miss at owns))
]
  where
    same_some : Some entry.name ≡ Some name → entry.name ≡ name
    same_some same = cc same

pub unowned : (entries : List Entry) (mark name : List ℕ)
    → owner_in entries mark ≡ None → StandsUnder entries mark name → ⊥
unowned [] mark name none stands = stands
unowned (entry ∷ later) mark name none stands = elim (cases_Bool (bytes_eq entry.mark mark)) [
  | inl hit ↦ let known = rw hit at none in cc known
  | inr miss ↦ elim stands [
    | inl own ↦ let known = same_bytes entry.mark mark own.0 in absurd cc
    | inr behind ↦ unowned later mark name (rw miss at none) behind
  ]
]

-- the last entry's key
pub last_stands : (entries : List Entry) (name : List ℕ) (last : Entry)
    → last_in entries name ≡ Some last → StandsUnder entries last.mark last.name
last_stands [] name last is = absurd (cc is)
last_stands (entry ∷ later) name last is = elim (cases_Bool (is_some (last_in later name))) [
  | inl named ↦ inr (last_stands later name last (rw named at is))
  | inr unnamed ↦ elim (cases_Bool (bytes_eq entry.name name)) [
    | inl hit ↦
        let same : entry ≡ last = same_Some entry last (rw (unnamed, hit) at is) in
        inl (ap (λ (one : Entry). one.mark) same, ap (λ (one : Entry). one.name) same)
    | inr miss ↦ absurd (let known = rw (unnamed, miss) at is in cc known)
  ]
]

-- a device that goes
pub stands_departed : (name target : List ℕ) (entries : List Entry) (mark owner : List ℕ)
    → StandsUnder entries mark owner → StandsUnder (with_departure name target entries) mark owner
stands_departed name target entries mark owner stands = by_last (last_in entries name)
  where
    by_last : (last : Option Entry) → StandsUnder (with_gone target entries last) mark owner
    by_last None = stands
    by_last (Some last) = stands_still entries (gone_to target last) mark owner stands

pub stood_departed : (name target : List ℕ) (entries : List Entry) (mark owner : List ℕ)
    → StandsUnder (with_departure name target entries) mark owner → StandsUnder entries mark owner
stood_departed name target entries mark owner = by_last (last_in entries name) refl
  where
    by_last : (last : Option Entry) → last_in entries name ≡ last
        → StandsUnder (with_gone target entries last) mark owner → StandsUnder entries mark owner
    by_last None is stands = stands
    by_last (Some last) is stands =
        elim (stood_or_added entries (gone_to target last) mark owner stands) [
          | inl stood ↦ stood
          | inr own ↦ subst (λ (one : List ℕ). StandsUnder entries one owner) own.0
              (subst (λ (one : List ℕ). StandsUnder entries last.mark one) own.1
              (last_stands entries name last is))
        ]

-- lines that are adopted
stands_filtered : (test : Entry → Bool) (entries : List Entry) (mark name : List ℕ)
    → StandsUnder (filter test entries) mark name → StandsUnder entries mark name
stands_filtered test [] mark name stands = stands
stands_filtered test (entry ∷ later) mark name stands = elim (cases_Bool (test entry)) [
  | inl passes ↦ elim (rw passes at stands) [
    | inl own ↦ inl own
    | inr behind ↦ inr (stands_filtered test later mark name behind)
  ]
  | inr fails ↦ inr (stands_filtered test later mark name (rw fails at stands))
]

stands_more : (entries news : List Entry) (mark name : List ℕ)
    → StandsUnder entries mark name → StandsUnder (with_entries entries news) mark name
stands_more entries [] mark name stands = stands
stands_more entries (new ∷ more) mark name stands =
    stands_more (with_entry entries new) more mark name
    (stands_still entries new mark name stands)

stood_or_more : (entries news : List Entry) (mark name : List ℕ)
    → StandsUnder (with_entries entries news) mark name
    → StandsUnder entries mark name ⊎ StandsUnder news mark name
stood_or_more entries [] mark name stands = inl stands
stood_or_more entries (new ∷ more) mark name stands =
    elim (stood_or_more (with_entry entries new) more mark name stands) [
      | inl stood ↦ elim (stood_or_added entries new mark name stood) [
        | inl before ↦ inl before
        | inr own ↦ inr (inl own)
      ]
      | inr behind ↦ inr (inr behind)
    ]

stands_arriving : (entries lines : List Entry) (mark name : List ℕ)
    → StandsUnder (entries_on_arrival entries lines) mark name → StandsUnder lines mark name
stands_arriving entries [] mark name stands = stands
stands_arriving entries (line ∷ later) mark name stands =
    elim (cases_Bool (is_needed entries line later)) [
      | inl needed ↦ elim (rw needed at stands) [
        | inl own ↦ inl own
        | inr behind ↦ inr (stands_arriving entries later mark name behind)
      ]
      | inr left ↦ inr (stands_arriving entries later mark name (rw left at stands))
    ]

pub stands_adopted : (entries lines : List Entry) (mark name : List ℕ)
    → StandsUnder entries mark name → StandsUnder (with_arrivals entries lines) mark name
stands_adopted entries lines mark name stands =
    stands_more entries (entries_on_arrival entries lines) mark name stands

pub stood_adopted : (entries lines : List Entry) (mark name : List ℕ)
    → StandsUnder (with_arrivals entries lines) mark name
    → StandsUnder entries mark name ⊎ StandsUnder lines mark name
stood_adopted entries lines mark name stands =
    elim (stood_or_more entries (entries_on_arrival entries lines) mark name stands) [
      | inl stood ↦ inl stood
      | inr line ↦ inr (stands_arriving entries lines mark name line)
    ]

-- the lines by which a device moves have keys of its memory's
stands_at_home : (home : Home) (entries : List Entry) (mark name : List ℕ)
    → StandsUnder (map (at_home home) entries) mark name
    → StandsUnder entries mark name
stands_at_home home [] mark name stands = stands
stands_at_home home (entry ∷ later) mark name (inl own) = inl own
stands_at_home home (entry ∷ later) mark name (inr behind) =
    inr (stands_at_home home later mark name behind)

pub stood_moved : (device : List ℕ) (entries : List Entry) (mark name : List ℕ)
    → StandsUnder (moved_lines device entries) mark name → StandsUnder entries mark name
stood_moved device entries mark name stands =
    stands_filtered (λ (entry : Entry). bytes_eq entry.name device) entries mark name
    (stands_at_home (home_of (last_in entries device)) (entries_of device entries) mark name stands)

pub stands_own : (lines : List Entry) (mark name : List ℕ)
    → StandsUnder lines mark name → StandsUnder (entries_of name lines) mark name
stands_own (line ∷ later) mark name (inl own) =
    rw (same_bytes line.name name own.1) (inl own)
stands_own (line ∷ later) mark name (inr behind) =
    elim (cases_Bool (bytes_eq line.name name)) [
      | inl hit ↦ rw hit (inr (stands_own later mark name behind))
      | inr miss ↦ rw miss (stands_own later mark name behind)
    ]
stands_own [] mark name stands = stands
