-- Entries each of which goes on from the last of its device before it.
use Rattle.std.{proofs.{Common.{◌≡◌, ◌∙◌, ℕ, Bool, true, false, ◌&&◌, List, [], ◌∷◌, ◌++◌, Option, Some, None, append_assoc, append-nil, refl, ap, inl, inr, sym, subst, arith}, lemmas.{Bool.{and_from, and_parts, cases_Bool, le-leb, leb-true}, Slice.Eq.bytes_eq-Decides}}, specs.{Prelude.{if◌then◌else◌, nat_le, not}, Option.is_some, Str.bytes_eq}}
use Rattle.desk_memory.specs.Entry.{Entry, is_replaced, last_in, with_entry}
use Rattle.desk_cli.specs.StateFile.{goes_on, goes_on_from, last_number}

-- each of these goes on from the last of its device before it
abbrev pub go_on : List Entry → List Entry → Bool
go_on before [] = true
go_on before (entry ∷ entries) =
    goes_on (last_in before entry.name) entry && go_on (before ++ entry ∷ []) entries

-- the last of a device behind one more entry

last-more : (before : List Entry) (entry : Entry) (name : List ℕ)
    → last_in (before ++ entry ∷ []) name
    ≡ (if bytes_eq entry.name name then Some entry else last_in before name)
last-more [] entry name = refl
last-more (first ∷ before) entry name =
    elim (cases_Bool (bytes_eq entry.name name)) [
      | inl hit ↦ rw (last-more before entry name, hit) refl
      | inr miss ↦ rw (last-more before entry name, miss) refl
    ]

-- entries before which all other devices have the same last go on alike

abbrev HaveSameLast : List ℕ → List Entry → List Entry → Type 0
HaveSameLast name one two =
    (other : List ℕ) → bytes_eq name other ≡ false → last_in one other ≡ last_in two other

same-last-more : (name : List ℕ) (one two : List Entry) (entry : Entry)
    → HaveSameLast name one two → HaveSameLast name (one ++ entry ∷ []) (two ++ entry ∷ [])
same-last-more name one two entry same other apart =
    rw (last-more one entry other, last-more two entry other, same other apart) refl

replaced-same : (before : List Entry) (first entry : Entry) → first.name ≡ entry.name
    → HaveSameLast entry.name (before ++ first ∷ []) (before ++ entry ∷ [])
replaced-same before first entry named other apart =
    rw (last-more before first other, last-more before entry other, named, apart) refl

not-named : (entry : Entry) (later : List Entry) (name : List ℕ)
    → is_some (last_in (entry ∷ later) name) ≡ false
    → (bytes_eq entry.name name ≡ false) × (is_some (last_in later name) ≡ false)
not-named entry later name none =
    elim (cases_Bool (is_some (last_in later name))) [
      | inl named ↦ absurd (let known = rw named at none in cc (known, named))
      | inr unnamed ↦ elim (cases_Bool (bytes_eq entry.name name)) [
        | inl hit ↦ absurd (let known = rw (unnamed, hit) at none in cc known)
        | inr miss ↦ (miss, unnamed)
      ]
    ]

apart-other : (one two : List ℕ) → bytes_eq one two ≡ false → bytes_eq two one ≡ false
apart-other one two apart = elim (cases_Bool (bytes_eq two one)) [
  | inl hit ↦
      let same = (bytes_eq-Decides one two).1 (sym ((bytes_eq-Decides two one).0 hit)) in
      absurd (cc (same, apart))
  | inr miss ↦ miss
]

go-on-alike : (name : List ℕ) (one two later : List Entry)
    → HaveSameLast name one two → is_some (last_in later name) ≡ false
    → go_on one later ≡ go_on two later
go-on-alike name one two [] same none = refl
go-on-alike name one two (entry ∷ later) same none =
    let parts = not-named entry later name none in
    rw (
      same entry.name (apart-other entry.name name parts.0),
      go-on-alike name (one ++ entry ∷ []) (two ++ entry ∷ []) later
          (same-last-more name one two entry same) parts.1,
    ) refl

-- one that goes on from one that goes on

le-through : (one two three : ℕ) → nat_le one two ≡ true → nat_le two three ≡ true
    → nat_le one three ≡ true
le-through one two three first second =
    let low = leb-true one two first in
    let high = leb-true two three second in
    le-leb one three (omega (arith, low, high))

goes-through : (first second third : Entry) → goes_on_from first second ≡ true
    → goes_on_from second third ≡ true → goes_on_from first third ≡ true
goes-through first second third one two =
    let one_all = and_parts (nat_le first.state.count second.state.count
    && nat_le (last_number first.state.last) (last_number second.state.last))
    (nat_le first.home.moves second.home.moves) one in
    let one_parts = and_parts (nat_le first.state.count second.state.count)
    (nat_le (last_number first.state.last) (last_number second.state.last)) one_all.0 in
    let two_all = and_parts (nat_le second.state.count third.state.count
    && nat_le (last_number second.state.last) (last_number third.state.last))
    (nat_le second.home.moves third.home.moves) two in
    let two_parts = and_parts (nat_le second.state.count third.state.count)
    (nat_le (last_number second.state.last) (last_number third.state.last)) two_all.0 in
    and_from (nat_le first.state.count third.state.count
    && nat_le (last_number first.state.last) (last_number third.state.last))
    (nat_le first.home.moves third.home.moves)
    (and_from (nat_le first.state.count third.state.count)
    (nat_le (last_number first.state.last) (last_number third.state.last))
    (le-through first.state.count second.state.count third.state.count one_parts.0 two_parts.0)
    (le-through (last_number first.state.last) (last_number second.state.last)
    (last_number third.state.last) one_parts.1 two_parts.1))
    (le-through first.home.moves second.home.moves third.home.moves one_all.1 two_all.1)

goes-on-through : (last : Option Entry) (first entry : Entry) → goes_on last first ≡ true
    → goes_on_from first entry ≡ true → goes_on last entry ≡ true
goes-on-through None first entry one two = refl
goes-on-through (Some last) first entry one two = goes-through last first entry one two

-- an entry that is replaced is the last of its device

record IsLastOf (first : Entry) (later : List Entry) (entry : Entry) : Type 0 where
  named : first.name ≡ entry.name
  none : is_some (last_in later entry.name) ≡ false

replaced-is : (first entry : Entry) (later : List Entry) → is_replaced first later entry ≡ true
    → IsLastOf first later entry
replaced-is first entry later is =
    let all = and_parts (bytes_eq first.name entry.name && bytes_eq first.mark entry.mark)
    (not (is_some (last_in later entry.name))) is in
    let parts = and_parts (bytes_eq first.name entry.name) (bytes_eq first.mark entry.mark) all.0 in
    record {
      named = (bytes_eq-Decides first.name entry.name).0 parts.0;
      none = elim (cases_Bool (is_some (last_in later entry.name))) [
        | inl named ↦ absurd (let known = rw named at all.1 in cc known)
        | inr unnamed ↦ unnamed
      ];
    }

last-there : (before : List Entry) (first : Entry) (later : List Entry) (name : List ℕ)
    → first.name ≡ name → is_some (last_in later name) ≡ false
    → last_in (before ++ first ∷ later) name ≡ Some first
last-there [] first later name named none =
    rw (none, (bytes_eq-Decides first.name name).1 named) refl
last-there (other ∷ before) first later name named none =
    rw (last-there before first later name named none) refl

noted-after : (before had : List Entry) (entry : Entry) → go_on before had ≡ true
    → goes_on (last_in (before ++ had) entry.name) entry ≡ true
    → go_on before (with_entry had entry) ≡ true
noted-after before [] entry go next =
    and_from (goes_on (last_in before entry.name) entry) true
    (ap (λ (all : List Entry). goes_on (last_in all entry.name) entry) (sym (append-nil before))
    ∙ next) refl
noted-after before (first ∷ later) entry go next =
    let parts = and_parts (goes_on (last_in before first.name) first)
    (go_on (before ++ first ∷ []) later) go in
    elim (cases_Bool (is_replaced first later entry)) [
      | inl same ↦
          let is = replaced-is first entry later same in
          let from : goes_on_from first entry ≡ true =
          rw (last-there before first later entry.name is.named is.none) at next in
          let begins : goes_on (last_in before entry.name) entry ≡ true =
          goes-on-through (last_in before entry.name) first entry
          (subst (λ (name : List ℕ). goes_on (last_in before name) first ≡ true) is.named parts.0)
          from in
          rw same (and_from (goes_on (last_in before entry.name) entry)
          (go_on (before ++ entry ∷ []) later) begins
          (sym (go-on-alike entry.name (before ++ first ∷ []) (before ++ entry ∷ []) later
          (replaced-same before first entry is.named) is.none) ∙ parts.1))
      | inr other ↦
          rw other (and_from (goes_on (last_in before first.name) first)
          (go_on (before ++ first ∷ []) (with_entry later entry)) parts.0
          (noted-after (before ++ first ∷ []) later entry parts.1
          (ap (λ (all : List Entry). goes_on (last_in all entry.name) entry)
          (append_assoc before (first ∷ []) later) ∙ next)))
    ]

-- one that is noted, and goes on from its device's last
pub noted-goes-on : (had : List Entry) (entry : Entry) → go_on [] had ≡ true
    → goes_on (last_in had entry.name) entry ≡ true
    → go_on [] (with_entry had entry) ≡ true
noted-goes-on had entry go next = noted-after [] had entry go next
