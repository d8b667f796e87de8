-- The place at which one more entry changes the entries.
use Rattle.std.{proofs.{Common.{◌≡◌, ◌∙◌, ◌≤◌, ◌<◌, ◌+◌, ℕ, zero, suc, List, [], ◌∷◌, ◌++◌, length, length-drop, drop, drop-cons, get_or, slice_set, false, if◌then◌else◌, refl, sym, ap, inl, inr, arith}, lemmas.Bool.cases_Bool}, specs.{Option.is_some, Str.bytes_eq}}
use Rattle.desk_memory.specs.Entry.{Entry, is_replaced, last_in, with_entry, place_for}

-- the place that is known from the entries so far, unless the rest has a later one
abbrev pub place_from : ℕ → ℕ → List Entry → Entry → ℕ
place_from place index rest new =
    if is_some (last_in rest new.name) then index + place_for rest new else place

-- a device without an entry gets one behind all
place_for-unnamed : (entries : List Entry) (new : Entry)
    → is_some (last_in entries new.name) ≡ false → place_for entries new ≡ length entries
place_for-unnamed [] new none = refl
place_for-unnamed (entry ∷ later) new none = elim (cases_Bool (is_some (last_in later new.name))) [
  | inl named ↦ absurd (let known = rw named at none in cc)
  | inr unnamed ↦ elim (cases_Bool (bytes_eq entry.name new.name)) [
    | inl hit ↦ absurd (let known = rw (unnamed, hit) at none in cc)
    | inr miss ↦ rw miss (ap (λ n. suc n) (place_for-unnamed later new unnamed))
  ]
]

pub place_from-start : (entries : List Entry) (new : Entry)
    → place_for entries new ≡ place_from (length entries) 0 entries new
place_from-start entries new = elim (cases_Bool (is_some (last_in entries new.name))) [
  | inl named ↦ rw named (omega arith)
  | inr unnamed ↦ rw unnamed (place_for-unnamed entries new unnamed)
]

-- what one more entry says of the place
abbrev pub place_past : ℕ → ℕ → ℕ → Entry → Entry → ℕ
place_past place index all entry new =
    if bytes_eq entry.name new.name
    then (if bytes_eq entry.mark new.mark then index else all)
    else place

pub place_past-within : (place index all : ℕ) (entry new : Entry) → place ≤ all → index < all
    → place_past place index all entry new ≤ all
place_past-within place index all entry new within below =
    elim (cases_Bool (bytes_eq entry.name new.name)) [
      | inl hit ↦ elim (cases_Bool (bytes_eq entry.mark new.mark)) [
        | inl same ↦ rw (hit, same) (omega (arith, below))
        | inr other ↦ rw (hit, other) (omega arith)
      ]
      | inr miss ↦ rw miss within
    ]

place_from-step : (place index all : ℕ) (entry : Entry) (later : List Entry) (new : Entry)
    → all ≡ index + suc (length later)
    → place_from place index (entry ∷ later) new
    ≡ place_from (place_past place index all entry new) (index + 1) later new
place_from-step place index all entry later new whole =
    elim (cases_Bool (is_some (last_in later new.name))) [
      | inl named ↦ elim (cases_Bool (bytes_eq entry.name new.name)) [
        | inl hit ↦ elim (cases_Bool (bytes_eq entry.mark new.mark)) [
          | inl same ↦ rw (named, hit, same, named) (omega arith)
          | inr other ↦ rw (named, hit, other, named) (omega arith)
        ]
        | inr miss ↦ rw (named, miss, named) (omega arith)
      ]
      | inr unnamed ↦
          let behind = place_for-unnamed later new unnamed in
          elim (cases_Bool (bytes_eq entry.name new.name)) [
            | inl hit ↦ elim (cases_Bool (bytes_eq entry.mark new.mark)) [
              | inl same ↦ rw (unnamed, hit, same) (omega arith)
              | inr other ↦ rw (unnamed, hit, other) (omega (arith, behind, whole))
            ]
            | inr miss ↦ rw (unnamed, miss) refl
          ]
    ]

-- the place from the next entry on
pub place_from-next : (entries : List Entry) (place index next : ℕ) (entry new : Entry)
    → index < length entries → entry ≡ get_or entries index entry
    → next ≡ place_past place index (length entries) entry new
    → place_from place index (drop index entries) new
    ≡ place_from next (index + 1) (drop (index + 1) entries) new
place_from-next entries place index next entry new within is past =
    let later : List Entry = drop (suc index) entries in
    let rest : drop index entries ≡ entry ∷ later =
    drop-cons entries index entry within ∙ ap (λ (e : Entry). e ∷ later) (sym is) in
    let few = length-drop (suc index) entries in
    let one : suc index ≡ index + 1 = omega arith in
    ap (λ rest. place_from place index rest new) rest
    ∙ place_from-step place index (length entries) entry later new (omega (arith, few, within))
    ∙ (λ i. place_from (sym past i) (index + 1) (drop (one i) entries) new)

pub place_for-within : (entries : List Entry) (new : Entry) → place_for entries new ≤ length entries
place_for-within [] new = omega arith
place_for-within (entry ∷ later) new = elim (cases_Bool (is_replaced entry later new)) [
  | inl same ↦ rw same (omega arith)
  | inr other ↦ let within = place_for-within later new in rw other (omega (arith, within))
]

-- an entry that is written at its place

pub with_entry-set : (entries : List Entry) (place : ℕ) (new : Entry)
    → place ≡ place_for entries new → place < length entries
    → slice_set entries place new ≡ with_entry entries new
with_entry-set [] place new here within = absurd (omega (arith, within))
with_entry-set (entry ∷ later) zero new here within =
    elim (cases_Bool (is_replaced entry later new)) [
      | inl same ↦ rw same refl
      | inr other ↦ absurd (let known = rw other at here in cc)
    ]
with_entry-set (entry ∷ later) (suc place) new here within =
    elim (cases_Bool (is_replaced entry later new)) [
      | inl same ↦ absurd (let known = rw same at here in cc)
      | inr other ↦
          let known : place ≡ place_for later new = omega (arith, rw other at here) in
          let more = with_entry-set later place new known (omega (arith, within)) in
          rw other (ap (λ entries. entry ∷ entries) more)
    ]

pub with_entry-push : (entries : List Entry) (new : Entry) → length entries ≤ place_for entries new
    → entries ++ new ∷ [] ≡ with_entry entries new
with_entry-push [] new here = refl
with_entry-push (entry ∷ later) new here = elim (cases_Bool (is_replaced entry later new)) [
  | inl same ↦ absurd (let known = rw same at here in omega (arith, known))
  | inr other ↦
      let known : length later ≤ place_for later new = omega (arith, rw other at here) in
      rw other (ap (λ entries. entry ∷ entries) (with_entry-push later new known))
]
