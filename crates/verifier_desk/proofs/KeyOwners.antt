-- Under which name each key stands after a desk's lines.
use Rattle.std.{proofs.{Common.{◌≡◌, ◌∙◌, ◌<◌, ℕ, Bool, true, false, List, [], ◌∷◌, ◌++◌, ◌&&◌, Option, Some, None, length, refl, ap, sym, subst, ⊎_elim, ◌⊎◌, inl, inr, arith}, lemmas.{Option.same_Some, Bool.{cases_Bool, ltb-true, Decides.nat_tests}, Slice.Eq.bytes_eq-Decides}}, specs.{Prelude.{if◌then◌else◌, nat_lt, not, slice_index_or}, Option.is_some, Str.bytes_eq}}
use Rattle.desk_memory.{specs.{declared.{answer.Answer.TheVariants.Stale, device_state.DeviceState.DeviceState}, DeviceState.is_new, Entry.{Entry, Note, entry_at, home_of, is_replaced, last_in, owner_in, with_entry, with_note}, KeyMark.key_mark}, proofs.Noted.{owner_is_kept, owner_is_noted}}
use Rattle.verifier_desk.{specs.{DeskLine.{DeskLine, TooLong, Silent, Foreign, Own, desk_line_of, DeviceLine}, DeviceKey.{DeviceKey, key_named}, DeviceReply.answer_after, Judged.{JudgedLine, answer_to, entry_after}, KeyOwner.{IsFreeFor, IsKeyBound, IsKeyKept, IsServedIn, IsServedThrough, IsUnderOneName, KeysAreKept, KeysStandApart, KeysStandApartIn}, Law.started_after, Noted.{entries_after, note_at, noted_of, with_noted}, Replies.{DeskFields, judge_at, lines_said, mark_at, own_answer, own_line, state_at}, Run.{AreStarted, Run, entries_through}}, proofs.{GoneOn.desk_goes_on, KeyPlaces.{IsPlaceOf, place_named, placed}, Remembered.{IsKnown, entry_known, line_known, memory_has_states, own_known_entry, state_known}, Repeated.{HasAnswer, has_answer}, Standing.same_device}}

second : (a b c : Bool) → (a && b && c) ≡ true → b ≡ true
second true true c all = refl
second true false c all = absurd (cc all)
second false b c all = absurd (cc all)

-- an entry takes no other key from its name
owner_elsewhere : (entries : List Entry) (new : Entry) (mark : List ℕ)
    → bytes_eq new.mark mark ≡ false
    → owner_in (with_entry entries new) mark ≡ owner_in entries mark
owner_elsewhere [] new mark other = rw other refl
owner_elsewhere (entry ∷ later) new mark other = elim (cases_Bool (is_replaced entry later new)) [
  | inl same ↦
      let marked : entry.mark ≡ new.mark =
      (bytes_eq-Decides entry.mark new.mark).0 (second (bytes_eq entry.name new.name)
      (bytes_eq entry.mark new.mark) (not (is_some (last_in later new.name))) same) in
      rw (same, marked, other) refl
  | inr more ↦ elim (cases_Bool (bytes_eq entry.mark mark)) [
    | inl hit ↦ rw (more, hit) refl
    | inr miss ↦ rw (more, miss) (owner_elsewhere later new mark other)
  ]
]

-- where a device stands among devices
record StandsAt (devices : List DeviceKey) (device : DeviceKey) : Type 0 where
  place : ℕ
  within : place < length devices
  is : (d : DeviceKey) → slice_index_or devices place d ≡ device

found_at : (devices : List DeviceKey) (device : DeviceKey) (place : Option ℕ)
    → IsPlaceOf device.name devices place → key_named device.name devices ≡ Some device.key
    → StandsAt devices device
found_at devices device None so known = absurd (cc (so, known))
found_at devices device (Some place) so known =
    record {
      place = place;
      within = so.0;
      is = λ d. same_device (slice_index_or devices place d) device.name device.key (so.1 d)
          (same_Some _ _ (sym (so.2 d) ∙ known));
    }

stands_at : (devices : List DeviceKey) (device : DeviceKey)
    → key_named device.name devices ≡ Some device.key → StandsAt devices device
stands_at devices device known =
    found_at devices device (place_named device.name devices) (placed device.name devices) known

abbrev note_of : (List ℕ → List ℕ) → DeviceKey → DeviceState → Note
note_of digest device state =
    record { name = device.name; mark = key_mark digest device.key; state = state }

abbrev entry_of : (List ℕ → List ℕ) → List Entry → DeviceKey → DeviceState → Entry
entry_of digest entries device state =
    entry_at (home_of (last_in entries device.name)) (note_of digest device state)

-- the key of a device of the desk stands under no other name
free_known : (digest : List ℕ → List ℕ) (devices : List DeviceKey) (entries : List Entry)
    (device : DeviceKey) → StandsAt devices device
    → KeysStandApart digest devices entries
    → IsFreeFor device.name (owner_in entries (key_mark digest device.key))
free_known digest devices entries device at so =
    subst (λ (one : DeviceKey). IsFreeFor one.name (owner_in entries (key_mark digest one.key)))
    (at.is device) ((so at.place at.within).free device)

pub key_is_free : (desk : DeskFields) (entries : List Entry) (device : DeviceKey)
    → key_named device.name desk.devices ≡ Some device.key
    → KeysStandApart desk.digest desk.devices entries
    → IsFreeFor device.name (owner_in entries (mark_at desk device))
key_is_free desk entries device known so =
    free_known desk.digest desk.devices entries device (stands_at desk.devices device known) so

free_owner : (name : List ℕ) (owner : Option (List ℕ)) → IsFreeFor name owner
    → (owner ≡ None) ⊎ (owner ≡ Some name)
free_owner name None free = inl refl
free_owner name (Some owner) free = inr (ap (λ (one : List ℕ). Some one) free)

-- a device's entry puts its key under its name
owns_noted : (digest : List ℕ → List ℕ) (devices : List DeviceKey) (entries : List Entry)
    (device : DeviceKey) (state : DeviceState) → StandsAt devices device
    → KeysStandApart digest devices entries
    → owner_in (with_note entries (note_of digest device state)) (key_mark digest device.key)
    ≡ Some device.name
owns_noted digest devices entries device state at so =
    owner_is_noted entries (entry_of digest entries device state)
    (free_owner device.name (owner_in entries (key_mark digest device.key))
    (free_known digest devices entries device at so))

at_once : (i j : ℕ) → nat_lt i j ≡ false → nat_lt j i ≡ false → i ≡ j
at_once i j above over = grind (arith, nat_tests, above, over)

-- no two places have one key
same_place : (digest : List ℕ → List ℕ) (devices : List DeviceKey) (entries : List Entry)
    (i j : ℕ) (d : DeviceKey) → KeysStandApart digest devices entries
    → i < length devices → j < length devices
    → key_mark digest (slice_index_or devices i d).key
    ≡ key_mark digest (slice_index_or devices j d).key
    → i ≡ j
same_place digest devices entries i j d so within_i within_j same =
    ⊎_elim
    (λ below. absurd ((so j within_j).new i d (ltb-true i j below) same))
    (λ above. ⊎_elim
    (λ under. absurd ((so i within_i).new j d (ltb-true j i under) (sym same)))
    (λ over. at_once i j above over)
    (cases_Bool (nat_lt j i)))
    (cases_Bool (nat_lt i j))

apart_noted : (digest : List ℕ → List ℕ) (devices : List DeviceKey) (entries : List Entry)
    (device : DeviceKey) (state : DeviceState) → StandsAt devices device
    → KeysStandApart digest devices entries
    → KeysStandApart digest devices (with_note entries (note_of digest device state))
apart_noted digest devices entries device state at so = λ i below.
    record {
      free = λ d.
          let one : DeviceKey = slice_index_or devices i d in
          ⊎_elim
          (λ same.
          let here : at.place ≡ i =
          same_place digest devices entries at.place i d so at.within below
          (ap (λ (owner : DeviceKey). key_mark digest owner.key) (at.is d)
          ∙ (bytes_eq-Decides (key_mark digest device.key) (key_mark digest one.key)).0 same) in
          let is : device ≡ one =
          sym (at.is d) ∙ ap (λ (place : ℕ). slice_index_or devices place d) here in
          subst (λ (owner : DeviceKey). IsFreeFor owner.name
          (owner_in (with_note entries (note_of digest device state))
          (key_mark digest owner.key))) is
          (subst (IsFreeFor device.name)
          (sym (owns_noted digest devices entries device state at so)) refl))
          (λ differ. subst (IsFreeFor one.name)
          (sym (owner_elsewhere entries (entry_of digest entries device state)
          (key_mark digest one.key) differ)) ((so i below).free d))
          (cases_Bool (bytes_eq (key_mark digest device.key) (key_mark digest one.key)));
      new = (so i below).new;
    }

entry_kept : (desk : DeskFields) (entries : List Entry) (device : DeviceKey) (state : DeviceState)
    → key_named device.name desk.devices ≡ Some device.key → KeysAreKept desk entries
    → KeysAreKept desk (with_note entries (note_of desk.digest device state))
entry_kept desk entries device state has so =
    record {
      apart = apart_noted desk.digest desk.devices entries device state
          (stands_at desk.devices device has) so.apart;
      kept = λ mark name owns. owner_is_kept entries
          (entry_of desk.digest entries device state) mark name (so.kept mark name owns);
    }

kept_if : (desk : DeskFields) (new : Bool) (entries : List Entry) (note : Note)
    → KeysAreKept desk (with_note entries note) → KeysAreKept desk entries
    → KeysAreKept desk (with_noted (if new then Some note else None) entries)
kept_if desk true entries note noted still = noted
kept_if desk false entries note noted still = still

said_kept : (desk : DeskFields) (lines : List ℕ → List DeviceLine) (said : DeskLine)
    (entries : List Entry) → IsKnown desk.devices said → KeysAreKept desk entries
    → KeysAreKept desk (with_noted (noted_of desk lines said) entries)
said_kept desk lines TooLong entries known so = so
said_kept desk lines Silent entries known so = so
said_kept desk lines Foreign entries known so = so
said_kept desk lines (Own device line) entries known so =
    kept_if desk (is_new line.number (state_at desk device (lines device.name)).last) entries
    (note_at desk device (line ∷ lines device.name))
    (entry_kept desk entries device (state_at desk device (line ∷ lines device.name)) known so) so

pub keys_are_kept : IsKeyKept
keys_are_kept desk [] apart = record { apart = apart; kept = λ mark name owns. owns }
keys_are_kept desk (line ∷ earlier) apart =
    said_kept desk (lines_said desk earlier) (desk_line_of desk.devices line)
    (entries_after desk earlier) (line_known desk.devices line) (keys_are_kept desk earlier apart)

-- the mark of a device's last entry stands under a name
last_owned : (entries : List Entry) (name : List ℕ) (last : Entry)
    → last_in entries name ≡ Some last → owner_in entries last.mark ≡ None → ⊥
last_owned [] name last is none = cc is
last_owned (entry ∷ later) name last is none =
    elim (cases_Bool (is_some (last_in later name))) [
      | inl named ↦ elim (cases_Bool (bytes_eq entry.mark last.mark)) [
        | inl hit ↦ let known = rw hit at none in cc known
        | inr miss ↦ last_owned later name last (rw named at is) (rw miss at none)
      ]
      | inr unnamed ↦ elim (cases_Bool (bytes_eq entry.name name)) [
        | inl hit ↦
            let same : entry ≡ last = same_Some entry last (rw (unnamed, hit) at is) in
            let mine : bytes_eq entry.mark last.mark ≡ true =
            (bytes_eq-Decides entry.mark last.mark).1
            (ap (λ (one : Entry). one.mark) same) in
            let known = rw mine at none in cc known
        | inr miss ↦ let known = rw (unnamed, miss) at is in cc known
      ]
    ]

free_and_owned : (name : List ℕ) (owner : Option (List ℕ)) → IsFreeFor name owner
    → (owner ≡ None → ⊥) → owner ≡ Some name
free_and_owned name None free owned = absurd (owned refl)
free_and_owned name (Some owner) free owned = ap (λ (one : List ℕ). Some one) free

-- a line of a device that is answered, and not by `stale`, is its last entry's, under its key
told_last : (desk : DeskFields) (earlier : List (List ℕ)) (line : List ℕ) (device : DeviceKey)
    (own : DeviceLine)
    → desk_line_of desk.devices line ≡ Own device own
    → key_named device.name desk.devices ≡ Some device.key
    → (own_answer desk (lines_said desk earlier device.name) device own ≡ Stale → ⊥)
    → HasAnswer (last_in (entries_after desk (line ∷ earlier)) device.name)
    (record { judge = judge_at desk device; line = own })
    (own_answer desk (lines_said desk earlier device.name) device own)
told_last desk earlier line device own said known told =
    let lines : List DeviceLine = lines_said desk earlier device.name in
    let before : Option Entry = entry_known desk device.name lines in
    let now : JudgedLine = record { judge = judge_at desk device; line = own } in
    let same : answer_to before now ≡ own_answer desk lines device own =
    ap (λ (state : DeviceState). answer_after (judge_at desk device) state own)
    (state_known desk device lines known) in
    let own_first : own_line device.name (Own device own) ++ lines ≡ own ∷ lines =
    rw ((bytes_eq-Decides device.name device.name).1 refl) refl in
    let all : lines_said desk (line ∷ earlier) device.name ≡ own ∷ lines =
    ap (λ (one : DeskLine). own_line device.name one ++ lines) said ∙ own_first in
    let after : last_in (entries_after desk (line ∷ earlier)) device.name
    ≡ entry_after device.name before now =
    memory_has_states desk (line ∷ earlier) device.name
    ∙ ap (entry_known desk device.name) all
    ∙ own_known_entry desk device (own ∷ lines) known
    ∙ ap (λ (entry : Option Entry). entry_after device.name entry now)
    (sym (own_known_entry desk device lines known)) in
    subst (λ (entry : Option Entry). HasAnswer entry now (own_answer desk lines device own))
    (sym after)
    (subst (HasAnswer (entry_after device.name before now) now) same
    (has_answer device.name before now (λ stale. told (sym same ∙ stale))))

pub told_key_is_bound : IsKeyBound
told_key_is_bound desk earlier line device apart told =
    let entries : List Entry = entries_after desk (line ∷ earlier) in
    let known : key_named device.name desk.devices ≡ Some device.key =
    subst (IsKnown desk.devices) told.said (line_known desk.devices line) in
    let has = told_last desk earlier line device told.own told.said known told.told in
    free_and_owned device.name (owner_in entries (mark_at desk device))
    (key_is_free desk entries device known (keys_are_kept desk (line ∷ earlier) apart).apart)
    (λ none. last_owned entries device.name has.entry has.is
    (ap (owner_in entries) has.marked ∙ none))

-- and goes on to
pub served_owns : (run : Run) (name mark : List ℕ)
    → KeysStandApart run.desk.digest run.desk.devices run.desk.entries
    → IsServedIn run name mark
    → owner_in (entries_after run.desk run.lines) mark ≡ Some name
served_owns run name mark apart served =
    let so_far : List (List ℕ) = served.line ∷ served.earlier in
    let bound : owner_in (entries_after run.desk so_far) mark ≡ Some name =
    ap (owner_in (entries_after run.desk so_far)) (sym served.marked)
    ∙ told_key_is_bound run.desk served.earlier served.line served.device apart served.told
    ∙ ap (λ (one : List ℕ). Some one) served.named in
    subst (λ (lines : List (List ℕ)). owner_in (entries_after run.desk lines) mark ≡ Some name)
    (sym served.parts)
    (ap (λ (entries : List Entry). owner_in entries mark)
    ((desk_goes_on run.desk so_far served.later).1)
    ∙ (keys_are_kept (started_after run.desk so_far) served.later
    (keys_are_kept run.desk so_far apart).apart).kept mark name bound)

owns_through : (start : List Entry) (runs : List Run) (name mark : List ℕ) → AreStarted start runs
    → KeysStandApartIn runs
    → IsServedThrough runs name mark → owner_in (entries_through start runs) mark ≡ Some name
owns_through start [] name mark so apart served = absurd served
owns_through start (run ∷ earlier) name mark so apart served =
    ⊎_elim
    (λ now. served_owns run name mark apart.0 now)
    (λ before. (keys_are_kept run.desk run.lines apart.0).kept mark name
    (ap (λ (entries : List Entry). owner_in entries mark) so.0
    ∙ owns_through start earlier name mark so.1 apart.1 before))
    served

pub key_is_under_one_name : IsUnderOneName
key_is_under_one_name start runs mark one other so apart served again =
    same_Some one other
    (sym (owns_through start runs one mark so apart served)
    ∙ owns_through start runs other mark so apart again)
