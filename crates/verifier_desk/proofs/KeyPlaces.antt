-- Devices and their places by names.
use Rattle.std.{proofs.{Common.{◌≡◌, ◌<◌, ◌+◌, ◌∙◌, ℕ, zero, suc, Bool, true, false, cond, List, [], ◌∷◌, ◌++◌, Option, Some, None, length, refl, arith, ap, sym, subst, ⊎_elim, ◌⊎◌, inl, inr}, Math.Seq.get_or-append_seam, lemmas.{Bool.{cases_Bool, false≢true, Decides.nat_tests}, List.{get_or_append_left, length-append}, Slice.Eq.bytes_eq-Decides}}, specs.{Prelude.{if◌then◌else◌, nat_lt, option_map, slice_index_or, IfSome, IfNone}, List.position_from, Option.is_some, Str.bytes_eq}}
use native.Mathlib.Numerals.{unary_clauses}
use Rattle.verifier_desk.specs.{DeviceKey.{DeviceKey, key_named}, Standing.AreDistinct}

-- any device, for places that stand for one
pub no_device : DeviceKey
no_device = record { name = []; key = [] }

-- where the device of this name stands
abbrev pub place_named : List ℕ → List DeviceKey → Option ℕ
place_named name devices =
    position_from (λ (device : DeviceKey). bytes_eq device.name name) 0 devices

place_moved : (name : List ℕ) (start : ℕ) (devices : List DeviceKey)
    → position_from (λ (device : DeviceKey). bytes_eq device.name name) (start + 1) devices
    ≡ option_map (λ place. place + 1)
    (position_from (λ (device : DeviceKey). bytes_eq device.name name) start devices)
place_moved name start [] = refl
place_moved name start (device ∷ devices) =
    ⊎_elim
    (λ same. rw same refl)
    (λ other. rw other (place_moved name (start + 1) devices))
    (cases_Bool (bytes_eq device.name name))

-- what the place of a name says of its device
abbrev pub IsPlaceOf : List ℕ → List DeviceKey → Option ℕ → Type 0
IsPlaceOf name devices None = key_named name devices ≡ None
IsPlaceOf name devices (Some place) =
    (place < length devices) × ((d : DeviceKey) → (slice_index_or devices place d).name ≡ name)
    × ((d : DeviceKey) → key_named name devices ≡ Some (slice_index_or devices place d).key)

behind : (device d : DeviceKey) (devices : List DeviceKey) (place : ℕ)
    → slice_index_or (device ∷ devices) (place + 1) d ≡ slice_index_or devices place d
behind device d devices place = simp unary_clauses refl

further : (name : List ℕ) (device : DeviceKey) (devices : List DeviceKey) (place : Option ℕ)
    → bytes_eq device.name name ≡ false → IsPlaceOf name devices place
    → IsPlaceOf name (device ∷ devices) (option_map (λ place. place + 1) place)
further name device devices None other so = rw other so
further name device devices (Some place) other so = (
  omega (arith, so.0),
  λ d. ap (λ (one : DeviceKey). one.name) (behind device d devices place) ∙ so.1 d,
  λ d. rw other (so.2 d ∙ ap (λ (one : DeviceKey). Some one.key) (sym (behind device d devices
      place))),
)

placed_first : (name : List ℕ) (device : DeviceKey) (devices : List DeviceKey) (same : Bool)
    (place : Option ℕ) → bytes_eq device.name name ≡ same → IsPlaceOf name devices place
    → IsPlaceOf name (device ∷ devices) (cond same (Some 0) (option_map (λ place. place + 1) place))
placed_first name device devices true place same so =
    (omega arith, λ d. (bytes_eq-Decides device.name name).0 same, λ d. rw same refl)
placed_first name device devices false place other so =
    further name device devices place other so

pub placed : (name : List ℕ) (devices : List DeviceKey)
    → IsPlaceOf name devices (place_named name devices)
placed name [] = refl
placed name (device ∷ devices) =
    subst (λ (later : Option ℕ).
    IsPlaceOf name (device ∷ devices) (cond (bytes_eq device.name name) (Some 0) later))
    (sym (place_moved name 0 devices))
    (placed_first name device devices (bytes_eq device.name name) (place_named name devices) refl
    (placed name devices))

-- a name that the first device has, or that no device has
none_first : (same : Bool) (key : List ℕ) (rest : Option (List ℕ))
    → (if same then Some key else rest) ≡ None → (same ≡ false) × (rest ≡ None)
none_first true key rest none = absurd (cc none)
none_first false key rest none = (refl, none)

-- a name that no device has
pub unnamed : (name : List ℕ) (devices : List DeviceKey) (i : ℕ) (d : DeviceKey)
    → key_named name devices ≡ None → i < length devices
    → (slice_index_or devices i d).name ≡ name → ⊥
unnamed name [] i d none within same = omega (arith, within)
unnamed name (device ∷ devices) zero d none within same =
    false≢true (sym (none_first (bytes_eq device.name name) device.key (key_named name devices)
    none).0
    ∙ (bytes_eq-Decides device.name name).1 same)
unnamed name (device ∷ devices) (suc i) d none within same =
    unnamed name devices i d
    (none_first (bytes_eq device.name name) device.key (key_named name devices) none).1
    (omega (arith, within)) same

in_front : (devices : List DeviceKey) (device d : DeviceKey) (i : ℕ) → i < length devices
    → (slice_index_or (devices ++ device ∷ []) i d).name ≡ (slice_index_or devices i d).name
in_front devices device d i within =
    ap (λ (one : DeviceKey). one.name) (get_or_append_left devices (device ∷ []) d i within)

at_end : (devices : List DeviceKey) (device d : DeviceKey) (i : ℕ) → i ≡ length devices
    → (slice_index_or (devices ++ device ∷ []) i d).name ≡ device.name
at_end devices device d i last =
    ap (λ (at : ℕ). (slice_index_or (devices ++ device ∷ []) at d).name) last
    ∙ ap (λ (one : DeviceKey). one.name) (get_or-append_seam devices device [] d)

pub front_or_end : (devices : List DeviceKey) (device : DeviceKey) (i : ℕ)
    → i < length (devices ++ device ∷ []) → (i < length devices) ⊎ (i ≡ length devices)
front_or_end devices device i within =
    ⊎_elim
    (λ below. inl (grind (arith, nat_tests, below)))
    (λ above. inr (grind (arith, nat_tests, above, within, length-append devices (device ∷ []))))
    (cases_Bool (nat_lt i (length devices)))

-- a device with a new name leaves them distinct
pub distinct_with : (devices : List DeviceKey) (device : DeviceKey)
    → key_named device.name devices ≡ None → AreDistinct devices
    → AreDistinct (devices ++ device ∷ [])
distinct_with devices device fresh distinct i j d within_i within_j same =
    ⊎_elim
    (λ front_i. ⊎_elim
    (λ front_j. distinct i j d front_i front_j
    (sym (in_front devices device d i front_i) ∙ same ∙ in_front devices device d j front_j))
    (λ end_j. absurd (unnamed device.name devices i d fresh front_i
    (sym (in_front devices device d i front_i) ∙ same ∙ at_end devices device d j end_j)))
    (front_or_end devices device j within_j))
    (λ end_i. ⊎_elim
    (λ front_j. absurd (unnamed device.name devices j d fresh front_j
    (sym (in_front devices device d j front_j) ∙ sym same ∙ at_end devices device d i end_i)))
    (λ end_j. end_i ∙ sym end_j)
    (front_or_end devices device j within_j))
    (front_or_end devices device i within_i)

-- what a place says, fact by fact
pub place_within : (name : List ℕ) (devices : List DeviceKey) (place : Option ℕ)
    → IsPlaceOf name devices place → IfSome place (λ at. at < length devices)
place_within name devices None so = tt
place_within name devices (Some place) so = so.0

pub place_found : (name : List ℕ) (devices : List DeviceKey) (place : Option ℕ)
    → IsPlaceOf name devices place
    → IfSome place (λ at. (d : DeviceKey) → (slice_index_or devices at d).name ≡ name)
place_found name devices None so = tt
place_found name devices (Some place) so = so.1

pub place_key : (name : List ℕ) (devices : List DeviceKey) (place : Option ℕ)
    → IsPlaceOf name devices place
    → IfSome place (λ at. (d : DeviceKey)
    → key_named name devices ≡ Some (slice_index_or devices at d).key)
place_key name devices None so = tt
place_key name devices (Some place) so = so.2

pub place_none : (name : List ℕ) (devices : List DeviceKey) (place : Option ℕ)
    → IsPlaceOf name devices place → IfNone place (key_named name devices ≡ None)
place_none name devices None so = so
place_none name devices (Some place) so = tt

-- whether a device has a name
pub is_named : (name : List ℕ) (devices : List DeviceKey) (place : Option ℕ)
    → IfSome place (λ at. (d : DeviceKey)
    → key_named name devices ≡ Some (slice_index_or devices at d).key)
    → IfNone place (key_named name devices ≡ None)
    → is_some place ≡ is_some (key_named name devices)
is_named name devices None key none = sym (ap (λ (one : Option (List ℕ)). is_some one) none)
is_named name devices (Some place) key none =
    sym (ap (λ (one : Option (List ℕ)). is_some one) (key no_device))
