-- What the entries say after one more.
use Rattle.std.{proofs.{Common.{◌≡◌, ◌∙◌, ℕ, List, [], ◌∷◌, true, Option, Some, None, refl, sym, ap, ◌⊎◌, inl, inr, ◌&&◌, not}, lemmas.{Option.same_Some, Bool.{and_parts, cases_Bool}, Slice.Eq.bytes_eq-Decides}}, specs.{Option.is_some, Str.bytes_eq}}
use Rattle.desk_memory.specs.{Entry.{Entry, is_replaced, last_in}, Law.{IsLastNoted, IsOwnerKept, IsOwnerNoted}}

-- the last of more entries is that of the later ones, or the first
pub last_of_more : (first : Entry) (later : List Entry) (name : List ℕ) (last : Entry)
    → last_in (first ∷ later) name ≡ Some last
    → (last_in later name ≡ Some last) ⊎ ((first ≡ last) × (first.name ≡ name))
last_of_more first later name last is = elim (cases_Bool (is_some (last_in later name))) [
  | inl named ↦ inl (rw named at is)
  | inr unnamed ↦ elim (cases_Bool (bytes_eq first.name name)) [
    | inl hit ↦ inr (
      same_Some first last (rw (unnamed, hit) at is),
      (bytes_eq-Decides first.name name).0 hit,
    )
    | inr miss ↦ absurd (let known = rw (unnamed, miss) at is in cc known)
  ]
]

-- the last entry of a device has its name
pub last_named : (entries : List Entry) (name : List ℕ) (last : Entry)
    → last_in entries name ≡ Some last → last.name ≡ name
last_named [] name last is = absurd (cc is)
last_named (first ∷ later) name last is = elim (last_of_more first later name last is) [
  | inl behind ↦ last_named later name last behind
  | inr own ↦ sym (ap (λ (entry : Entry). entry.name) own.0) ∙ own.1
]

-- an entry that is replaced is its device's last, under the same mark
record Replaced (entry : Entry) (later : List Entry) (new : Entry) : Type 0 where
  name : entry.name ≡ new.name
  mark : entry.mark ≡ new.mark
  last : last_in later new.name ≡ None

no_some : (o : Option Entry) → not (is_some o) ≡ true → o ≡ None
no_some None none = refl
no_some (Some entry) none = absurd cc

replaced : (entry : Entry) (later : List Entry) (new : Entry)
    → is_replaced entry later new ≡ true → Replaced entry later new
replaced entry later new is =
    let parts = and_parts (bytes_eq entry.name new.name && bytes_eq entry.mark new.mark) _ is in
    let same = and_parts (bytes_eq entry.name new.name) (bytes_eq entry.mark new.mark) parts.0 in
    record {
      name = (bytes_eq-Decides entry.name new.name).0 same.0;
      mark = (bytes_eq-Decides entry.mark new.mark).0 same.1;
      last = no_some (last_in later new.name) parts.1;
    }

pub entry_is_last : IsLastNoted
entry_is_last [] new other = refl
entry_is_last (entry ∷ later) new other = elim (cases_Bool (is_replaced entry later new)) [
  | inl same ↦
      let parts = replaced entry later new same in
      elim (cases_Bool (bytes_eq new.name other)) [
        | inl hit ↦
            let none : last_in later other ≡ None =
            ap (last_in later) (sym ((bytes_eq-Decides new.name other).0 hit)) ∙ parts.last in
            rw (same, none, hit) refl
        | inr miss ↦ rw (same, parts.name, miss) refl
      ]
  | inr other_entry ↦
      let more = entry_is_last later new other in
      elim (cases_Bool (bytes_eq new.name other)) [
        | inl hit ↦ rw (other_entry, more, hit) refl
        | inr miss ↦ rw (other_entry, more, miss) refl
      ]
]

pub owner_is_kept : IsOwnerKept
owner_is_kept [] new mark name has = absurd cc
owner_is_kept (entry ∷ later) new mark name has = elim (cases_Bool (is_replaced entry later new)) [
  | inl same ↦
      let parts = replaced entry later new same in
      rw (same, sym parts.name, sym parts.mark) has
  | inr other_entry ↦ elim (cases_Bool (bytes_eq entry.mark mark)) [
    | inl hit ↦ rw (other_entry, hit) (rw hit at has)
    | inr miss ↦ rw (other_entry, miss) (owner_is_kept later new mark name (rw miss at has))
  ]
]

pub owner_is_noted : IsOwnerNoted
owner_is_noted [] new free = rw ((bytes_eq-Decides new.mark new.mark).1 refl) refl
owner_is_noted (entry ∷ later) new free = elim (cases_Bool (is_replaced entry later new)) [
  | inl same ↦ rw (same, (bytes_eq-Decides new.mark new.mark).1 refl) refl
  | inr other_entry ↦ elim (cases_Bool (bytes_eq entry.mark new.mark)) [
    | inl hit ↦ rw (other_entry, hit)
        (elim (rw hit at free) [ inl none ↦ absurd cc | inr owns ↦ owns ])
    | inr miss ↦ rw (other_entry, miss) (owner_is_noted later new (rw miss at free))
  ]
]
