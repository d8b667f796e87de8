-- Devices that are found by the places of their names and of their keys.
use Rattle.std.{proofs.{Common.{◌≡◌, ◌<◌, ◌∙◌, ℕ, zero, suc, Bool, true, false, List, [], ◌∷◌, ◌++◌, Option, Some, None, length, refl, arith, ap, sym, subst, ⊎_elim}, lemmas.{Option.same_Some, Bool.{cases_Bool, cond-true, cond-false, false≢true}, List.{get_or_append_left, get_or_default}, Slice.Eq.bytes_eq-Decides}, Math.Seq.get_or-append_seam}, specs.{Prelude.{◌≤◌, slice_index_or}, Map.update, Str.bytes_eq}}
use Rattle.verifier_desk.{specs.{DeviceKey.{DeviceKey, has_key, key_named, ArePlaced}, Standing.AreDistinct}, proofs.KeyPlaces.{IsPlaceOf, front_or_end, no_device, place_named, placed, unnamed}}

-- no device has this word
abbrev pub HasNone : (DeviceKey → List ℕ) → List DeviceKey → List ℕ → Type 0
HasNone word devices one =
    (i : ℕ) (d : DeviceKey) → i < length devices → word (slice_index_or devices i d) ≡ one → ⊥

none_placed : (name : List ℕ) (devices : List DeviceKey) (place : Option ℕ)
    → HasNone (λ device. device.name) devices name → IsPlaceOf name devices place
    → None ≡ place
none_placed name devices None none so = refl
none_placed name devices (Some place) none so =
    absurd (none place no_device so.0 (so.1 no_device))

pub unplaced : (name : List ℕ) (devices : List DeviceKey)
    → HasNone (λ device. device.name) devices name → None ≡ place_named name devices
unplaced name devices none =
    none_placed name devices (place_named name devices) none (placed name devices)

one_placed : (name : List ℕ) (devices : List DeviceKey) (at : ℕ) (place : Option ℕ)
    → AreDistinct devices → at < length devices
    → (slice_index_or devices at no_device).name ≡ name → IsPlaceOf name devices place
    → Some at ≡ place
one_placed name devices at None distinct within same so =
    absurd (unnamed name devices at no_device so within same)
one_placed name devices at (Some place) distinct within same so =
    ap (λ (one : ℕ). Some one)
    (distinct at place no_device within so.0 (same ∙ sym (so.1 no_device)))

pub placed_at : (name : List ℕ) (devices : List DeviceKey) (at : ℕ) → AreDistinct devices
    → at < length devices → (slice_index_or devices at no_device).name ≡ name
    → Some at ≡ place_named name devices
placed_at name devices at distinct within same =
    one_placed name devices at (place_named name devices) distinct within same (placed name devices)

pub keyed_at : (key : List ℕ) (devices : List DeviceKey) (i : ℕ) (d : DeviceKey)
    → i < length devices → bytes_eq (slice_index_or devices i d).key key ≡ true
    → has_key key devices ≡ true
keyed_at key [] i d within same = absurd (omega (arith, within))
keyed_at key (device ∷ devices) zero d within same = rw same refl
keyed_at key (device ∷ devices) (suc i) d within same =
    ⊎_elim
    (λ first. rw first refl)
    (λ other. rw other (keyed_at key devices i d (omega (arith, within)) same))
    (cases_Bool (bytes_eq device.key key))

pub unkeyed : (key : List ℕ) (devices : List DeviceKey)
    → HasNone (λ device. device.key) devices key → has_key key devices ≡ false
unkeyed key [] none = refl
unkeyed key (device ∷ devices) none =
    ⊎_elim
    (λ first. absurd (none 0 no_device (omega arith) ((bytes_eq-Decides device.key key).0 first)))
    (λ other. rw other (unkeyed key devices
    (λ i d within same. none (suc i) d (omega (arith, within)) same)))
    (cases_Bool (bytes_eq device.key key))

pub new_key : (key : List ℕ) (devices : List DeviceKey) → has_key key devices ≡ false
    → HasNone (λ device. device.key) devices key
new_key key devices fresh i d within same =
    false≢true (sym fresh ∙ keyed_at key devices i d within ((bytes_eq-Decides _ key).1 same))

-- a word that no device has may get any place
pub placed_beside : (word : DeviceKey → List ℕ) (devices : List DeviceKey)
    (places : List ℕ → Option ℕ) (one : List ℕ) (place : Option ℕ)
    → HasNone word devices one → ArePlaced word devices places
    → ArePlaced word devices (update bytes_eq places one place)
placed_beside word devices places one place none are i d within =
    ⊎_elim
    (λ same. absurd (none i d within (sym ((bytes_eq-Decides one _).0 same))))
    (λ other. cond-false (bytes_eq one _) place (places _) other ∙ are i d within)
    (cases_Bool (bytes_eq one (word (slice_index_or devices i d))))

-- a device with a new word gets the place behind the others
pub placed_with : (word : DeviceKey → List ℕ) (devices : List DeviceKey)
    (places : List ℕ → Option ℕ) (device : DeviceKey)
    → HasNone word devices (word device) → ArePlaced word devices places
    → ArePlaced word (devices ++ device ∷ [])
    (update bytes_eq places (word device) (Some (length devices)))
placed_with word devices places device none are i d within =
    let found = update bytes_eq places (word device) (Some (length devices)) in
    ⊎_elim
    (λ front. ap (λ (one : DeviceKey). found (word one))
    (get_or_append_left devices (device ∷ []) d i front)
    ∙ placed_beside word devices places (word device) (Some (length devices)) none are i d front)
    (λ last. ap (λ (at : ℕ). found (word (slice_index_or (devices ++ device ∷ []) at d))) last
    ∙ ap (λ (one : DeviceKey). found (word one)) (get_or-append_seam devices device [] d)
    ∙ cond-true (bytes_eq (word device) (word device)) (Some (length devices))
    (places (word device)) ((bytes_eq-Decides (word device) (word device)).1 refl)
    ∙ ap (λ (at : ℕ). Some at) (sym last))
    (front_or_end devices device i within)

-- the places after a device's word got one, for the same devices and with that device
pub kept_places : (word : DeviceKey → List ℕ) (devices : List DeviceKey)
    (old new : List ℕ → Option ℕ) (device : DeviceKey) (one : List ℕ) (place : ℕ)
    → one ≡ word device → HasNone word devices (word device)
    → new ≡ update bytes_eq old one (Some place)
    → ArePlaced word devices old → ArePlaced word devices new
kept_places word devices old new device one place is none after are =
    subst (ArePlaced word devices) (sym after)
    (placed_beside word devices old one (Some place)
    (subst (HasNone word devices) (sym is) none) are)

pub places_with : (word : DeviceKey → List ℕ) (devices : List DeviceKey)
    (old new : List ℕ → Option ℕ) (device : DeviceKey) (one : List ℕ) (place : ℕ)
    → one ≡ word device → HasNone word devices (word device)
    → new ≡ update bytes_eq old one (Some place) → place ≡ length devices
    → ArePlaced word devices old → ArePlaced word (devices ++ device ∷ []) new
places_with word devices old new device one place is none after last are =
    subst (ArePlaced word (devices ++ device ∷ []))
    (sym (after ∙ ap (λ (at : ℕ). update bytes_eq old one (Some at)) last
    ∙ ap (λ (by : List ℕ). update bytes_eq old by (Some (length devices))) is))
    (placed_with word devices old device none are)

pub new_name : (name : List ℕ) (devices : List DeviceKey) → key_named name devices ≡ None
    → HasNone (λ device. device.name) devices name
new_name name devices fresh i d within same = unnamed name devices i d fresh within same

-- what is looked up at a place
pub is_at_place : (word : DeviceKey → List ℕ) (devices : List DeviceKey)
    (places : List ℕ → Option ℕ) (one : List ℕ) (i : ℕ) (d : DeviceKey)
    → ArePlaced word devices places → i < length devices
    → word (slice_index_or devices i d) ≡ one → places one ≡ Some i
is_at_place word devices places one i d are within same =
    sym (ap places same) ∙ are i d within

-- a word whose place is none, or behind the devices
pub missed : (word : DeviceKey → List ℕ) (devices : List DeviceKey)
    (places : List ℕ → Option ℕ) (one : List ℕ) → ArePlaced word devices places
    → places one ≡ None → HasNone word devices one
missed word devices places one are none i d within same =
    absurd (cc (sym none ∙ is_at_place word devices places one i d are within same))

pub missed_behind : (word : DeviceKey → List ℕ) (devices : List DeviceKey)
    (places : List ℕ → Option ℕ) (one : List ℕ) (place : ℕ) → ArePlaced word devices places
    → places one ≡ Some place → length devices ≤ place → HasNone word devices one
missed_behind word devices places one place are at behind i d within same =
    omega (
      arith,
      within,
      behind,
      same_Some place i
          (sym at ∙ is_at_place word devices places one i d are within same),
    )

-- a word whose place is that of a device with another word
pub missed_there : (word : DeviceKey → List ℕ) (devices : List DeviceKey)
    (places : List ℕ → Option ℕ) (one : List ℕ) (place : ℕ) (there : DeviceKey)
    → ArePlaced word devices places → places one ≡ Some place
    → there ≡ slice_index_or devices place there → bytes_eq (word there) one ≡ false
    → place < length devices → HasNone word devices one
missed_there word devices places one place there are at is other inside i d within same =
    let here =
    same_Some i place (sym (is_at_place word devices places one i d are within same) ∙ at) in
    let first = is_at_place word devices places (word there) place there are inside
    (ap word (sym is)) in
    absurd (false≢true (sym other ∙ (bytes_eq-Decides (word there) one).1
    (ap word is ∙ ap (λ (k : ℕ). word (slice_index_or devices k there)) (sym here)
    ∙ ap word (get_or_default devices i there d within) ∙ same)))

pub keyed_there : (key : List ℕ) (devices : List DeviceKey) (places : List ℕ → Option ℕ)
    (place : ℕ) (there : DeviceKey) (same : Bool)
    → ArePlaced (λ device. device.key) devices places → places key ≡ Some place
    → there ≡ slice_index_or devices place there → bytes_eq there.key key ≡ same
    → place < length devices → same ≡ has_key key devices
keyed_there key devices places place there true are at is same within =
    sym (keyed_at key devices place there within
    (ap (λ (one : DeviceKey). bytes_eq one.key key) (sym is) ∙ same))
keyed_there key devices places place there false are at is same within =
    sym (unkeyed key devices
    (missed_there (λ device. device.key) devices places key place there are at is same within))

pub placed_there : (name : List ℕ) (devices : List DeviceKey) (place : ℕ) (there : DeviceKey)
    → AreDistinct devices → there ≡ slice_index_or devices place there
    → bytes_eq there.name name ≡ true → place < length devices
    → Some place ≡ place_named name devices
placed_there name devices place there distinct is same within =
    placed_at name devices place distinct within
    (ap (λ (one : DeviceKey). one.name)
    (get_or_default devices place no_device there within ∙ sym is)
    ∙ (bytes_eq-Decides there.name name).0 same)
