-- The last entry of a device after its memory adopted lines.
use Rattle.std.{proofs.{Common.{◌≡◌, ◌∙◌, ℕ, List, [], ◌∷◌, Bool, true, false, Option, Some, None, ◌||◌, ◌&&◌, not, refl, sym, ap, inl, inr, arith}, lemmas.{Bool.cases_Bool, List.Elements.All-tail, Slice.Eq.bytes_eq-Decides}}, specs.{Prelude.{if◌then◌else◌, option_map, map, nat_eq}, List.{AllByRecursion, All, filter}, Option.{is_none, is_some}, Str.bytes_eq}}
use Rattle.text_scan.specs.declared.fault_kind.FaultKind.TheVariants.{Order, Place, Twice}
use Rattle.desk_memory.{specs.{Entry.{Entry, Home, home_of, last_in, owner_in, with_entries, with_entry}, Moving.{with_arrivals, adoption_fault, entry_on_arrival, entries_on_arrival, at_home, entries_of, has_not_come, is_behind, is_gone_to, is_here, is_needed, is_new_in, is_of_other, moved_lines}}, proofs.Noted.{entry_is_last, last_of_more}}
use Rattle.report_text.proofs.ReportWords.{other_bytes}
use Rattle.many_desks.proofs.Worlds.{same_bytes}

pub last_has : (P : Entry → Type 0) (entries : List Entry) (name : List ℕ) (last : Entry)
    → All P entries → last_in entries name ≡ Some last → P last
last_has P [] name last all is = absurd (cc is)
last_has P (first ∷ later) name last all is = elim (last_of_more first later name last is) [
  | inl behind ↦ last_has P later name last (All-tail P first later all) behind
  | inr own ↦ rw (sym own.0) (all 0 first (omega arith))
]

last_behind : (first : Entry) (later : List Entry) (name : List ℕ)
    → bytes_eq first.name name ≡ false
    → last_in (first ∷ later) name ≡ last_in later name
last_behind first later name miss = or_none (last_in later name)
  where
    or_none : (last : Option Entry)
        → (if is_some last then last
        else if bytes_eq first.name name then Some first else None) ≡ last
    or_none None = rw miss refl
    or_none (Some last) = refl

-- the test says this of each entry of the device of a name
abbrev pub SaysOf : List ℕ → (Entry → Bool) → Bool → List Entry → Type 0
SaysOf name test says entries =
    AllByRecursion (λ (entry : Entry). entry.name ≡ name → test entry ≡ says) entries

last_passed : (name : List ℕ) (test : Entry → Bool) (entries : List Entry)
    → SaysOf name test true entries
    → last_in (filter test entries) name ≡ last_in entries name
last_passed name test [] says = refl
last_passed name test (entry ∷ later) says = elim (cases_Bool (test entry)) [
  | inl passes ↦ rw (passes, last_passed name test later says.1) refl
  | inr fails ↦
      let miss : bytes_eq entry.name name ≡ false =
      other_bytes entry.name name (λ named. let known = says.0 named in cc) in
      let kept : filter test (entry ∷ later) ≡ filter test later = rw fails refl in
      ap (λ (entries : List Entry). last_in entries name) kept
      ∙ last_passed name test later says.1
      ∙ sym (last_behind entry later name miss)
]

-- the last of a device is that of its own entries
says_named : (name : List ℕ) (entries : List Entry)
    → SaysOf name (λ (entry : Entry). bytes_eq entry.name name) true entries
says_named name [] = tt
says_named name (entry ∷ later) = (same_bytes entry.name name, says_named name later)

pub last_of_own : (name : List ℕ) (entries : List Entry)
    → last_in (entries_of name entries) name ≡ last_in entries name
last_of_own name entries =
    last_passed name (λ (entry : Entry). bytes_eq entry.name name) entries (says_named name entries)

-- a device without a last entry has none
pub says_of_none : (name : List ℕ) (test : Entry → Bool) (says : Bool) (entries : List Entry)
    → last_in entries name ≡ None → SaysOf name test says entries
says_of_none name test says [] none = tt
says_of_none name test says (entry ∷ later) none = (
  (λ named.
      let known = rw (same_bytes entry.name name named) at none in
      absurd (elim (cases_Bool (is_some (last_in later name))) [
        | inl some ↦ none_of_some (last_in later name) some (rw some at known)
        | inr unnamed ↦ let here = rw unnamed at known in cc here
      ])),
  says_of_none name test says later (none_behind entry later name none),
)
  where
    none_of_some : (last : Option Entry) → is_some last ≡ true → last ≡ None → ⊥
    none_of_some None some none = cc some
    none_of_some (Some last) some none = cc none

    none_behind : (first : Entry) (later : List Entry) (name : List ℕ)
        → last_in (first ∷ later) name ≡ None → last_in later name ≡ None
    none_behind first later name none = elim (cases_Bool (is_some (last_in later name))) [
      | inl some ↦ rw some at none
      | inr unnamed ↦ no_last (last_in later name) unnamed
    ]
      where
        no_last : (last : Option Entry) → is_some last ≡ false → last ≡ None
        no_last None unnamed = refl
        no_last (Some last) unnamed = absurd (cc unnamed)

-- the lines by which a device moves have one home
abbrev pub AreAt : Home → List Entry → Type 0
AreAt home [] = Unit {0}
AreAt home (entry ∷ later) = (entry.home ≡ home) × AreAt home later

are_moved : (home : Home) (entries : List Entry)
    → AreAt home (map (at_home home) entries)
are_moved home [] = tt
are_moved home (entry ∷ later) = (refl, are_moved home later)

pub moved_are_alike : (name : List ℕ) (entries : List Entry)
    → AreAt (home_of (last_in entries name)) (moved_lines name entries)
moved_are_alike name entries =
    are_moved (home_of (last_in entries name)) (entries_of name entries)

says_alike : (name : List ℕ) (test : Entry → Bool) (says : Bool) (home : Home)
    (entries : List Entry)
    → ((entry : Entry) → entry.name ≡ name → entry.home ≡ home → test entry ≡ says)
    → AreAt home (entries_of name entries)
    → SaysOf name test says entries
says_alike name test says home [] all alike = tt
says_alike name test says home (entry ∷ later) all alike =
    elim (cases_Bool (bytes_eq entry.name name)) [
      | inl hit ↦
          let own = rw hit at alike in
          ((λ named. all entry named own.0), says_alike name test says home later all own.1)
      | inr miss ↦ (
        (λ named. let known = same_bytes entry.name name named in absurd cc),
        says_alike name test says home later all (rw miss at alike),
      )
    ]

-- the last of the lines is the last of the entries
map_last : (home : Home) (entries : List Entry) (name : List ℕ)
    → last_in (map (at_home home) entries) name
    ≡ option_map (at_home home) (last_in entries name)
map_last home [] name = refl
map_last home (entry ∷ later) name =
    rw (map_last home later name)
    (either (last_in later name) (bytes_eq entry.name name))
  where
    either : (last : Option Entry) (own : Bool)
        → (if is_some (option_map (at_home home) last)
        then option_map (at_home home) last
        else if own then Some (at_home home entry) else None)
        ≡ option_map (at_home home)
        (if is_some last then last else if own then Some entry else None)
    either (Some last) own = refl
    either None true = refl
    either None false = refl

pub moved_last : (name : List ℕ) (entries : List Entry)
    → last_in (moved_lines name entries) name ≡ last_in entries name
moved_last name entries =
    map_last (home_of (last_in entries name)) (entries_of name entries) name
    ∙ ap (option_map (at_home (home_of (last_in entries name))))
    (last_of_own name entries)
    ∙ own_home (last_in entries name)
  where
    own_home : (last : Option Entry)
        → option_map (at_home (home_of last)) last ≡ last
    own_home None = refl
    own_home (Some last) = refl

-- the last of entries and further ones
abbrev pub or_else : Option Entry → Option Entry → Option Entry
or_else None last = last
or_else (Some new) last = Some new

pub more_last : (entries news : List Entry) (name : List ℕ)
    → last_in (with_entries entries news) name ≡ or_else (last_in news name) (last_in entries name)
more_last entries [] name = refl
more_last entries (new ∷ more) name =
    more_last (with_entry entries new) more name
    ∙ ap (or_else (last_in more name)) (entry_is_last entries new name)
    ∙ either (last_in more name) (bytes_eq new.name name)
  where
    either : (last : Option Entry) (own : Bool)
        → or_else last (if own then Some new else last_in entries name)
        ≡ or_else (if is_some last then last else if own then Some new else None)
        (last_in entries name)
    either (Some last) own = refl
    either None true = refl
    either None false = refl

-- what is added of lines by which a device has not come
needed_last : (entries : List Entry) (line : Entry) (later : List Entry) (name : List ℕ)
    → last_in (entries_on_arrival entries later) name
    ≡ option_map entry_on_arrival (last_in later name)
    → last_in (entry_on_arrival line ∷ entries_on_arrival entries later) name
    ≡ option_map entry_on_arrival (last_in (line ∷ later) name)
needed_last entries line later name so =
    rw so (either (last_in later name) (bytes_eq line.name name))
  where
    either : (last : Option Entry) (own : Bool)
        → (if is_some (option_map entry_on_arrival last) then option_map entry_on_arrival last
        else if own then Some (entry_on_arrival line) else None)
        ≡ option_map entry_on_arrival
        (if is_some last then last else if own then Some line else None)
    either (Some last) own = refl
    either None true = refl
    either None false = refl

-- a line that is left out is not the last of a device that has not come
left_last : (entries : List Entry) (line : Entry) (later : List Entry) (name : List ℕ)
    → is_needed entries line later ≡ false
    → (line.name ≡ name → is_new_in entries line ≡ true)
    → last_in (line ∷ later) name ≡ last_in later name
left_last entries line later name left new = elim (cases_Bool (bytes_eq line.name name)) [
  | inl hit ↦
      let named : line.name ≡ name = (bytes_eq-Decides line.name name).0 hit in
      let some : is_none (last_in later name) ≡ false =
      ap (λ (one : List ℕ). is_none (last_in later one)) (sym named)
      ∙ first_false (is_new_in entries line) (is_none (last_in later line.name))
      (is_none (owner_in entries line.mark)) (new named) left in
      is_last (last_in later name) (bytes_eq line.name name) some
  | inr miss ↦ last_behind line later name miss
]
  where
    first_false : (a b c : Bool) → a ≡ true → (a && (b || c)) ≡ false → b ≡ false
    first_false true true c is none = absurd (cc none)
    first_false true false c is none = refl
    first_false false b c is none = absurd (cc is)

    is_last : (last : Option Entry) (own : Bool) → is_none last ≡ false
        → (if is_some last then last else if own then Some line else None) ≡ last
    is_last None own some = absurd (cc some)
    is_last (Some last) own some = refl

arriving_last : (entries lines : List Entry) (name : List ℕ)
    → SaysOf name (is_new_in entries) true lines
    → last_in (entries_on_arrival entries lines) name
    ≡ option_map entry_on_arrival (last_in lines name)
arriving_last entries [] name new = refl
arriving_last entries (line ∷ later) name new =
    let more : last_in (entries_on_arrival entries later) name
    ≡ option_map entry_on_arrival (last_in later name) =
    arriving_last entries later name new.1 in
    elim (cases_Bool (is_needed entries line later)) [
      | inl needed ↦ rw needed (needed_last entries line later name more)
      | inr left ↦
          let rest : entries_on_arrival entries (line ∷ later)
          ≡ entries_on_arrival entries later = rw left refl in
          ap (λ (some : List Entry). last_in some name) rest ∙ more
          ∙ ap (option_map entry_on_arrival) (sym (left_last entries line later name left new.0))
    ]

none_arriving : (entries lines : List Entry) (name : List ℕ)
    → SaysOf name (is_new_in entries) false lines
    → last_in (entries_on_arrival entries lines) name ≡ None
none_arriving entries [] name old = refl
none_arriving entries (line ∷ later) name old =
    elim (cases_Bool (is_needed entries line later)) [
      | inl needed ↦
          let new : is_new_in entries line ≡ true =
          first_true (is_new_in entries line) (is_none (last_in later line.name))
          (is_none (owner_in entries line.mark)) needed in
          let miss : bytes_eq line.name name ≡ false =
          other_bytes line.name name (λ named. let known = old.0 named in cc) in
          let more : entries_on_arrival entries (line ∷ later) ≡ entry_on_arrival line
          ∷ entries_on_arrival entries later =
          rw needed refl in
          ap (λ (some : List Entry). last_in some name) more
          ∙ last_behind (entry_on_arrival line) (entries_on_arrival entries later) name miss
          ∙ none_arriving entries later name old.1
      | inr left ↦
          let rest : entries_on_arrival entries (line ∷ later)
          ≡ entries_on_arrival entries later = rw left refl in
          ap (λ (some : List Entry). last_in some name) rest
          ∙ none_arriving entries later name old.1
    ]
  where
    first_true : (a b c : Bool) → (a && (b || c)) ≡ true → a ≡ true
    first_true true b c all = refl
    first_true false b c all = absurd (cc all)

-- a device of which there are no lines keeps its last entry
pub adopted_elsewhere : (entries lines : List Entry) (name : List ℕ)
    → last_in lines name ≡ None
    → last_in (with_arrivals entries lines) name ≡ last_in entries name
adopted_elsewhere entries lines name none =
    more_last entries (entries_on_arrival entries lines) name
    ∙ ap (λ (last : Option Entry). or_else last (last_in entries name))
    (none_arriving entries lines name
    (says_of_none name (is_new_in entries) false lines none))

pub new_alike : (entries : List Entry) (other line : Entry) (name : List ℕ)
    → other.name ≡ name → other.home ≡ line.home
    → is_new_in entries other ≡ has_not_come line (last_in entries name)
new_alike entries other line name named home =
    ap (λ (one : List ℕ). has_not_come other (last_in entries one)) named
    ∙ by_home (last_in entries name)
  where
    by_home : (last : Option Entry) → has_not_come other last ≡ has_not_come line last
    by_home None = refl
    by_home (Some last) =
        ap (λ (one : Home). not (is_here last && nat_eq last.home.moves one.moves)) home

-- a device that has not come by its lines is here by them
pub adopted_last : (entries lines : List Entry) (name : List ℕ) (line : Entry)
    → last_in lines name ≡ Some line → AreAt line.home (entries_of name lines)
    → last_in (with_arrivals entries lines) name
    ≡ (if has_not_come line (last_in entries name) then Some (entry_on_arrival line)
    else last_in entries name)
adopted_last entries lines name line is alike =
    more_last entries (entries_on_arrival entries lines) name
    ∙ elim (cases_Bool (has_not_come line (last_in entries name))) [
      | inl new ↦ rw new (ap (λ (last : Option Entry). or_else last (last_in entries name))
          (arriving_last entries lines name
          (says_alike name (is_new_in entries) true line.home lines
          (λ other named home. new_alike entries other line name named home ∙ new) alike)
          ∙ ap (option_map entry_on_arrival) is))
      | inr old ↦ rw old (ap (λ (last : Option Entry). or_else last (last_in entries name))
          (none_arriving entries lines name
          (says_alike name (is_new_in entries) false line.home lines
          (λ other named home. new_alike entries other line name named home ∙ old) alike)))
    ]

-- a line without a fault is not behind
pub not_behind : (desk : List ℕ) (entries : List Entry) (line : Entry)
    → adoption_fault desk entries line ≡ None
    → is_behind line (last_in entries line.name) ≡ false
not_behind desk entries line none =
    third (not (is_gone_to desk line)) (is_of_other line.name (owner_in entries line.mark))
    (is_behind line (last_in entries line.name)) none
  where
    third : (a b c : Bool)
        → (if a then Some Place else if b then Some Twice else if c then Some Order else None)
        ≡ None
        → c ≡ false
    third true b c none = absurd (cc none)
    third false true c none = absurd (cc none)
    third false false true none = absurd (cc none)
    third false false false none = refl
