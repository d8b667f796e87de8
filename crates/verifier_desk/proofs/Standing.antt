-- A line of the device at a place changes the state there alone.
use Rattle.std.{proofs.{Common.{◌≡◌, ◌<◌, ◌∙◌, ℕ, false, List, ◌∷◌, Option, Some, length, refl, ap, sym, subst, arith, ⊎_elim}, lemmas.{Option.same_Some, List.{get_or-set_same, get_or-set_other}, Bool.{cases_Bool, eqb-true, false_from_ne_true, Decides.nat_tests}, Slice.Eq.bytes_eq-Decides}}, specs.{Prelude.{nat_eq, slice_index_or, slice_set}, Str.bytes_eq}}
use Rattle.report_verifier.specs.{Judge.Judge, Policy.PolicyFields}
use Rattle.desk_memory.specs.declared.device_state.DeviceState.{DeviceState}
use Rattle.verifier_desk.specs.{DeskLine.{Own, DeviceLine}, DeviceKey.DeviceKey, Replies.{DeskFields, judge_at, state_at}, Standing.{IsKeptAtItsPlace, StatesStand, with_said}}

set-here : (states : List DeviceState) (place : ℕ) (state s : DeviceState) → place < length states
    → slice_index_or (slice_set states place state) place s ≡ state
set-here states place state s within = get_or-set_same states place state s within

set-elsewhere : (states : List DeviceState) (place i : ℕ) (state s : DeviceState)
    → (i ≡ place → ⊥)
    → slice_index_or (slice_set states place state) i s ≡ slice_index_or states i s
set-elsewhere states place i state s other = get_or-set_other states place i state s other

own-here : (device : DeviceKey) (line : DeviceLine) (lines : List ℕ → List DeviceLine)
    → with_said (Own device line) lines device.name ≡ line ∷ lines device.name
own-here device line lines = rw ((bytes_eq-Decides device.name device.name).1 refl) refl

own-elsewhere : (device : DeviceKey) (line : DeviceLine) (lines : List ℕ → List DeviceLine)
    (name : List ℕ) → (device.name ≡ name → ⊥)
    → with_said (Own device line) lines name ≡ lines name
own-elsewhere device line lines name other =
    rw (false_from_ne_true (bytes_eq device.name name)
    (λ same. other ((bytes_eq-Decides device.name name).0 same))) refl

unequal : (i place : ℕ) → nat_eq i place ≡ false → i ≡ place → ⊥
unequal i place differ at = grind (arith, nat_tests, differ, at)

kept-here : (desk : DeskFields) (states : List DeviceState) (lines : List ℕ → List DeviceLine)
    (place : ℕ) (device : DeviceKey) (line : DeviceLine) (state : DeviceState)
    (d : DeviceKey) (s : DeviceState)
    → place < length states
    → slice_index_or desk.devices place d ≡ device
    → state ≡ state_at desk device (line ∷ lines device.name)
    → slice_index_or (slice_set states place state) place s
    ≡ state_at desk (slice_index_or desk.devices place d)
    (with_said (Own device line) lines (slice_index_or desk.devices place d).name)
kept-here desk states lines place device line state d s within is after =
    set-here states place state s within
    ∙ after
    ∙ ap (state_at desk device) (sym (own-here device line lines))
    ∙ ap (λ (owner : DeviceKey). state_at desk owner (with_said (Own device line) lines owner.name))
    (sym is)

pub kept_at_its_place : IsKeptAtItsPlace
kept_at_its_place desk states lines place device line state distinct long within is after stands i
    d s below =
    ⊎_elim
    (λ same. subst (λ (at : ℕ). slice_index_or (slice_set states place state) at s
    ≡ state_at desk (slice_index_or desk.devices at d)
    (with_said (Own device line) lines (slice_index_or desk.devices at d).name))
    (sym (eqb-true i place same))
    (kept-here desk states lines place device line state d s (omega (arith, long, within)) (is d)
    after))
    (λ differ. set-elsewhere states place i state s (unequal i place differ)
    ∙ stands i d s below
    ∙ ap (state_at desk (slice_index_or desk.devices i d))
    (sym (own-elsewhere device line lines (slice_index_or desk.devices i d).name
    (λ named. unequal i place differ (distinct i place d below within
    (sym named ∙ ap (λ (owner : DeviceKey). owner.name) (sym (is d))))))))
    (cases_Bool (nat_eq i place))

-- what is said of the device at a place, as the code reads the parts of its judge and its state
pub said_at_place : {X : Type 0} (says : Judge → DeviceState → X)
    (desk : DeskFields) (states : List DeviceState) (lines : List ℕ → List DeviceLine) (place : ℕ)
    (device : DeviceKey) (old s : DeviceState)
    (digest : List ℕ → List ℕ) (key : List ℕ) (image : ℕ → Option ℕ) (policy : PolicyFields)
    → desk.digest ≡ digest → desk.image ≡ image → desk.policy ≡ policy → device.key ≡ key
    → place < length desk.devices
    → ((d : DeviceKey) → slice_index_or desk.devices place d ≡ device)
    → StatesStand desk states lines
    → old ≡ slice_index_or states place s
    → says (record { digest = digest; key = key; image = image; policy = policy }) old
    ≡ says (judge_at desk device) (state_at desk device (lines device.name))
said_at_place says desk states lines place device old s digest key image policy same_digest
    same_image same_policy same_key within is stands read =
    let judge : Judge = record { digest = digest; key = key; image = image; policy = policy } in
    let same : judge_at desk device ≡ judge =
    cc (same_digest, same_image, same_policy, same_key) in
    let state : old ≡ state_at desk device (lines device.name) =
    read
    ∙ stands place device s within
    ∙ ap (λ (owner : DeviceKey). state_at desk owner (lines owner.name)) (is device) in
    ap (λ (one : Judge). says one old) (sym same)
    ∙ ap (λ (one : DeviceState). says (judge_at desk device) one) state

with_name : (device : DeviceKey) (name : List ℕ) → device.name ≡ name
    → device ≡ record { name = name; key = device.key }
with_name device name same = ap (λ (one : List ℕ). record device { name = one }) same

with_key : (name one two : List ℕ) → one ≡ two
    → ◌≡◌ {A = DeviceKey} (record { name = name; key = one }) (record { name = name; key = two })
with_key name one two same = ap (λ (key : List ℕ). record { name = name; key = key }) same

pub same_device : (device : DeviceKey) (name key : List ℕ) → device.name ≡ name → device.key ≡ key
    → device ≡ record { name = name; key = key }
same_device device name key same_name same_key =
    with_name device name same_name ∙ with_key name device.key key same_key

-- the device at the place where its name was found
pub device_at :
    (devices : List DeviceKey) (place : ℕ) (name : List ℕ) (found : Option (List ℕ))
    → ((d : DeviceKey) → (slice_index_or devices place d).name ≡ name)
    → ((d : DeviceKey) → found ≡ Some (slice_index_or devices place d).key)
    → (d e : DeviceKey)
    → slice_index_or devices place d
    ≡ record { name = name; key = (slice_index_or devices place e).key }
device_at devices place name found named keyed d e =
    same_device (slice_index_or devices place d) name (slice_index_or devices place e).key (named d)
    (same_Some _ _ (sym (keyed d) ∙ keyed e))
