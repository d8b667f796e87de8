-- A transfer that was started, and its accesses.
use Rattle.std.{proofs.{Common.{slice_index, ◌≡◌, ℕ, ◌<◌, ◌+◌, ◌*◌, ◌++◌, true, false, List, [], ◌∷◌, length, Some, None, arith, ap, sym, subst, refl, ◌∙◌, inl, inr, is_some, if◌then◌else◌}, lemmas.Bool.{cases_Bool, true≢false, Decides.nat_tests}}, specs.List.list_any}
use Rattle.part_definitions.specs.{PeripheralRegister.register_word, Dma.{DmaEvent, TransferStart, Store, DmaAccess, DeviceReset, Transfer, transfer_of, transfer_access, access_at, dma_access, dma_word, DMA_CONTROL, is_active, after_start, starts, dma_writes, DMA_SOURCE, DMA_DESTINATION, DMA_LENGTH, after_access, new_transfer, place_of_word}}
use Rattle.word_arith.specs.declared.size.Size.{Size, TheVariants.Word}
use Rattle.device_types.specs.declared.access.Access.{Access, TheVariants.{Read, Write}}
use Rattle.device_peripherals.specs.Distance.{Start, start_of, is_reset, values_of, IsUnderWay, GoesByDistance}
use Rattle.device_peripherals.proofs.distance.transfer_goes_by_distance.Goals as goal

-- a transfer of this start, of which these values were taken
abbrev stage : Start → List ℕ → Transfer
stage start values =
    record {
      source = start.source;
      destination = start.destination;
      words = start.words;
      values = values;
    }

none_is_no_some : {A : Type 0} (value : A) → None ≡ Some value → ⊥
none_is_no_some value same = cc

-- no access is no transfer
is_active-none : (transfer : Transfer) → transfer_access transfer ≡ None
    → is_active transfer ≡ false
is_active-none transfer none = elim (cases_Bool (is_active transfer)) [
  | inl is ↦
      let some : transfer_access transfer ≡ Some (access_at transfer (length transfer.values)) =
      rw is refl in
      absurd (none_is_no_some (access_at transfer (length transfer.values)) (sym none ∙ some))
  | inr is ↦ is
]

is_active-some : (transfer : Transfer) (access : Access) → transfer_access transfer ≡ Some access
    → is_active transfer ≡ true
is_active-some transfer access some = elim (cases_Bool (is_active transfer)) [
  | inl is ↦ is
  | inr is ↦
      let none : transfer_access transfer ≡ None = rw is refl in
      absurd (none_is_no_some access (sym none ∙ some))
]

-- a start while a transfer is active is ignored
after_start-active : (before after : Transfer) → is_active before ≡ true
    → after_start before after ≡ before
after_start-active before after active = rw active refl

after_start-idle : (before after : Transfer) → is_active before ≡ false
    → after_start before after ≡ after
after_start-idle before after idle = rw idle refl

some_same : (left right : Start) → Some left ≡ Some right → left ≡ right
some_same left right same = cc

-- the start that a write asks for
abbrev register_start : List DmaEvent → Start
register_start before =
    record {
      source = register_word (dma_writes before) DMA_SOURCE;
      destination = register_word (dma_writes before) DMA_DESTINATION;
      words = register_word (dma_writes before) DMA_LENGTH;
    }

-- so is a write that starts one
transfer_of-written : (place : ℕ) (size : Size) (number : ℕ) (before : List DmaEvent)
    → is_active (transfer_of before) ≡ true
    → transfer_of (Store place size number ∷ before) ≡ transfer_of before
transfer_of-written place size number before active = elim (cases_Bool (starts place size number)) [
  | inl is ↦ rw is
      (after_start-active (transfer_of before) (stage (register_start before) []) active)
  | inr is ↦ rw is refl
]

-- a start that counts begins its transfer
begins : (event : DmaEvent) (before : List DmaEvent) (start : Start)
    → start_of event before ≡ Some start
    → is_active (transfer_of before) ≡ false → transfer_of (event ∷ before) ≡ stage start []
begins (TransferStart source destination words) before start asks idle =
    after_start-idle (transfer_of before) (new_transfer source destination words) idle
    ∙ ap (λ (s : Start). stage s [])
    (some_same
    (record { source = source; destination = destination; words = words }) start asks)
begins (Store place size number) before start asks idle =
    elim (cases_Bool (starts place size number)) [
      | inl is ↦
          let names : start_of (Store place size number) before ≡ Some (register_start before) =
          rw is refl in
          let same : register_start before ≡ start =
          some_same (register_start before) start (sym names ∙ asks) in
          let begins : transfer_of (Store place size number ∷ before)
          ≡ stage (register_start before) [] =
          rw is (after_start-idle (transfer_of before) (stage (register_start before) []) idle) in
          begins ∙ ap (λ (s : Start). stage s []) same
      | inr is ↦
          let none : start_of (Store place size number) before ≡ None = rw is refl in
          absurd (none_is_no_some start (sym none ∙ asks))
    ]
begins (DmaAccess value) before start asks idle = absurd (none_is_no_some start asks)
begins DeviceReset before start asks idle = absurd (none_is_no_some start asks)

-- fewer steps than two a word
begun-active : (start : Start) (values : List ℕ) → length values < 2 * start.words
    → is_active (stage start values) ≡ true
begun-active start values within = grind (arith, nat_tests)

begun-within : (start : Start) (values : List ℕ) → is_active (stage start values) ≡ true
    → length values < 2 * start.words
begun-within start values active = grind (arith, nat_tests)

-- while it is under way a transfer is the one that was started, with the values of the steps since
transfer_of-since :
    (start : Start) (event : DmaEvent) (before since : List DmaEvent)
    → start_of event before ≡ Some start → is_active (transfer_of before) ≡ false
    → list_any is_reset since ≡ false → length (values_of since) < 2 * start.words
    → transfer_of (since ++ event ∷ before) ≡ stage start (values_of since)
transfer_of-since start event before [] asks idle lasts within = begins event before start asks idle
transfer_of-since start event before
    (TransferStart source destination words ∷ since) asks idle lasts within =
    let now = transfer_of-since start event before since asks idle lasts within in
    let active : is_active (transfer_of (since ++ event ∷ before)) ≡ true =
    ap is_active now ∙ begun-active start (values_of since) within in
    after_start-active (transfer_of (since ++ event ∷ before))
    (new_transfer source destination words) active ∙ now
transfer_of-since start event before (Store place size number ∷ since) asks idle lasts within =
    let now = transfer_of-since start event before since asks idle lasts within in
    let active : is_active (transfer_of (since ++ event ∷ before)) ≡ true =
    ap is_active now ∙ begun-active start (values_of since) within in
    transfer_of-written place size number (since ++ event ∷ before) active ∙ now
transfer_of-since start event before (DmaAccess value ∷ since) asks idle lasts within =
    ap (λ transfer. after_access transfer value)
    (transfer_of-since start event before since asks idle lasts (omega arith))
transfer_of-since start event before (DeviceReset ∷ since) asks idle lasts within =
    absurd (true≢false lasts)

-- what is under way of the events is the transfer that they make
transfer_of-under_way : (start : Start) (values : List ℕ) (events : List DmaEvent)
    → IsUnderWay start values events → transfer_of events ≡ stage start values
transfer_of-under_way start values events way =
    let within : length (values_of way.since) < 2 * start.words =
    subst (λ (vs : List ℕ). length vs < 2 * start.words) (sym way.steps) way.within in
    ap transfer_of way.order
    ∙ transfer_of-since start way.event way.before way.since way.asks
    (is_active-none (transfer_of way.before) way.counts) way.lasts within
    ∙ ap (λ (vs : List ℕ). stage start vs) way.steps

-- the access of a transfer by the number of its steps so far
transfer_access-even : (start : Start) (values : List ℕ) (i : ℕ) → i < start.words
    → length values ≡ 2 * i
    → transfer_access (stage start values) ≡ Some (Read (place_of_word start.source i) Word)
transfer_access-even start values i within even = rw even (grind (arith, nat_tests))

transfer_access-odd : (start : Start) (values : List ℕ) (i : ℕ) → i < start.words
    → length values ≡ 2 * i + 1
    → transfer_access (stage start values)
    ≡ Some (Write (place_of_word start.destination i) Word (slice_index values 0))
transfer_access-odd start values i within odd = rw odd (grind (arith, nat_tests))

-- a start is under way, and the transfer is of it
abbrev IsBegun : List DmaEvent → Type 0
IsBegun events =
    (start : Start) × (values : List ℕ) × IsUnderWay start values events
    × (transfer_of events ≡ stage start values)

-- an event that leaves the transfer as it is
still_begun :
    (event : DmaEvent) (events : List DmaEvent)
    → is_reset event ≡ false
    → ((since : List DmaEvent) → values_of (event ∷ since) ≡ values_of since)
    → transfer_of (event ∷ events) ≡ transfer_of events
    → IsBegun events → IsBegun (event ∷ events)
still_begun event events lasts steps keeps stage = (
  stage.0,
  stage.1,
  record {
    since = event ∷ stage.2.since;
    event = stage.2.event;
    before = stage.2.before;
    order = ap (λ (es : List DmaEvent). event ∷ es) stage.2.order;
    asks = stage.2.asks;
    counts = stage.2.counts;
    lasts = rw lasts stage.2.lasts;
    steps = steps stage.2.since ∙ stage.2.steps;
    within = stage.2.within;
  },
  keeps ∙ stage.3,
)

-- an event that starts a transfer
newly_begun :
    (event : DmaEvent) (events : List DmaEvent) (start : Start)
    → start_of event events ≡ Some start
    → is_active (transfer_of events) ≡ false
    → is_active (transfer_of (event ∷ events)) ≡ true
    → IsBegun (event ∷ events)
newly_begun event events start asks idle active =
    let now : transfer_of (event ∷ events) ≡ stage start [] =
    begins event events start asks idle in (
      start,
      [],
      record {
        since = [];
        event = event;
        before = events;
        order = refl;
        asks = asks;
        counts = rw idle refl;
        lasts = refl;
        steps = refl;
        within = begun-within start [] (ap is_active (sym now) ∙ active);
      },
      now,
    )

active_before : (transfer : Transfer) (value : ℕ) → is_active (after_access transfer value) ≡ true
    → is_active transfer ≡ true
active_before transfer value active = grind (arith, nat_tests)

-- an active transfer has begun
begins_where_active : (events : List DmaEvent) → is_active (transfer_of events) ≡ true
    → IsBegun events
begins_where_active [] active = absurd (true≢false (sym active))
begins_where_active (TransferStart source destination words ∷ events) active =
    elim (cases_Bool (is_active (transfer_of events))) [
      | inl is ↦
          still_begun (TransferStart source destination words) events refl (λ since. refl)
          (after_start-active (transfer_of events) (new_transfer source destination words) is)
          (begins_where_active events is)
      | inr idle ↦
          newly_begun (TransferStart source destination words) events
          (record { source = source; destination = destination; words = words }) refl idle active
    ]
begins_where_active (Store place size number ∷ events) active =
    elim (cases_Bool (is_active (transfer_of events))) [
      | inl is ↦
          still_begun (Store place size number) events refl (λ since. refl)
          (transfer_of-written place size number events is)
          (begins_where_active events is)
      | inr idle ↦ elim (cases_Bool (starts place size number)) [
        | inl is_start ↦
            newly_begun (Store place size number) events (register_start events)
            (rw is_start refl) idle active
        | inr other ↦
            let keeps : transfer_of (Store place size number ∷ events) ≡ transfer_of events =
            rw other refl in
            absurd (true≢false (sym active ∙ ap is_active keeps ∙ idle))
      ]
    ]
begins_where_active (DmaAccess value ∷ events) active =
    let before : IsBegun events =
    begins_where_active events (active_before (transfer_of events) value active) in
    let way : IsUnderWay before.0 before.1 events = before.2 in
    let now : transfer_of (DmaAccess value ∷ events) ≡ stage (before.0) (value ∷ before.1) =
    ap (λ transfer. after_access transfer value) before.3 in (
      before.0,
      value ∷ before.1,
      record {
        since = DmaAccess value ∷ way.since;
        event = way.event;
        before = way.before;
        order = ap (λ (es : List DmaEvent). DmaAccess value ∷ es) way.order;
        asks = way.asks;
        counts = way.counts;
        lasts = way.lasts;
        steps = ap (λ (vs : List ℕ). value ∷ vs) way.steps;
        within = begun-within (before.0) (value ∷ before.1) (ap is_active (sym now) ∙ active);
      },
      now,
    )
begins_where_active (DeviceReset ∷ events) active = absurd (true≢false (sym active))

-- DCTL tells of the access
control : (events : List DmaEvent)
    → dma_word events DMA_CONTROL ≡ (if is_some (dma_access events) then 1 else 0)
control events = elim (cases_Bool (is_active (transfer_of events))) [
  | inl is ↦ rw is refl
  | inr is ↦ rw is refl
]

goes_by_distance : (events : List DmaEvent) → GoesByDistance events
goes_by_distance events =
    record {
      reads = λ start values i way even.
          ap transfer_access (transfer_of-under_way start values events way)
          ∙ transfer_access-even start values i (let within = way.within in omega arith) even;
      writes = λ start values i way odd.
          ap transfer_access (transfer_of-under_way start values events way)
          ∙ transfer_access-odd start values i (let within = way.within in omega arith) odd;
      only = λ access some.
          let stage : IsBegun events =
          begins_where_active events (is_active-some (transfer_of events) access some) in
          (stage.0, stage.1, stage.2);
      control = control events;
    }

pub returns : goal.returns
returns c = goes_by_distance
