-- Over a play the kept counter does not fall, and the counters of attested requests grow.
use Rattle.std.{proofs.{Common.{◌≡◌, ℕ, ◌<◌, ◌≤◌, Bool, true, false, List, [], ◌∷◌, ◌++◌, drop, inl, inr, Option, Some, None, length, ap, sym, ◌∙◌, arith, ◌+◌, ◌*◌, take, ◌⊎◌}, lemmas.{Bool.{cases_lt, cond-true, eq-eqb}, List.drop-append-le}}, specs.Prelude.{slice_get, ◌==◌, ◌&&◌, is_none, IsFalse, slice_index}}
use Rattle.device_types.specs.{declared.{access.Access.{Access, TheVariants.{Fetch, Read, Write}}, bus_record.BusRecord.BusRecord, rule.Rule.Rule, event.Event.Event}, ExecFlag.SeenHistory, Address.{Bytes, Contents}}
use Rattle.part_definitions.specs.{Metadata.{counter_in, little_endian}, Request.ATTESTS, Hmac.Digest}
use Rattle.device_trace.specs.{Trace.{Play, trace}, Start.{Start, with_key}}
use Rattle.mac_coverage.{specs.{AttestedBytes.{AttestedBytes, decision_of}, Coverage.{last_call, mac_written, IsDeviceKey, IsOfBytes, before_call, call_length}}, proofs.{Device.{Device, start_of}, KeptStored.{kept-late, four}, Plays.outcome_at, PlaySteps.{LastWroteHighWord, WritesHighWord}, Words.are_bytes, WordPlan.IsCounter}}
use Rattle.request_freshness.{specs.Freshness.{Attests, ends_between_words, kept_counter, writes_high_word}, proofs.Moments.{CallMoments, attests-newer, left_by, call-moments, each_step}}

-- What a step does to the kept counter.

-- a greater counter has no lesser high word
between_words : (a b c d e f g h : ℕ)
    → a < 256 → b < 256 → e < 256 → f < 256
    → a + 256 * (b + 256 * (c + 256 * (d + 256 * 0)))
    ≤ e + 256 * (f + 256 * (g + 256 * (h + 256 * 0)))
    → a + 256 * (b + 256 * (c + 256 * (d + 256 * 0)))
    ≤ a + 256 * (b + 256 * (g + 256 * (h + 256 * 0)))
between_words a b c d e f g h small_a small_b small_e small_f below =
    omega (arith, small_a, small_b, small_e, small_f, below)

high_word-grows : (kept left : List ℕ) → IsCounter kept → IsCounter left
    → little_endian kept ≤ little_endian left
    → little_endian kept ≤ little_endian (take 2 kept ++ drop 2 left)
high_word-grows kept left is_kept is_left below =
    let same = four kept is_kept.size in
    let same_left = four left is_left.size in
    let at_kept = ap little_endian same in
    let at_left = ap little_endian same_left in
    let both : little_endian (take 2 kept ++ drop 2 left)
    ≡ slice_index kept 0 + 256 * (slice_index kept 1 + 256 * (slice_index left 2
    + 256 * (slice_index left 3 + 256 * 0))) =
    (λ j. little_endian (take 2 (same j) ++ drop 2 (same_left j))) in
    let order = between_words (slice_index kept 0) (slice_index kept 1) (slice_index kept 2)
    (slice_index kept 3) (slice_index left 0) (slice_index left 1) (slice_index left 2)
    (slice_index left 3) (is_kept.bytes 0) (is_kept.bytes 1) (is_left.bytes 0) (is_left.bytes 1)
    (omega (arith, below, at_kept, at_left)) in
    omega (arith, order, at_kept, both)

-- what a step may do: the counter falls only after the high word was written
abbrev pub CounterStep : Device → Play → List Event → Type 0
CounterStep device play events =
    (kept_counter (start_of device) play ≤ kept_counter (start_of device) (events ∷ play))
    ⊎ ((LastWroteHighWord (trace (start_of device) play))
    × (call_length (start_of device) play ≡ 75)
    × (kept_counter (start_of device) (drop 1 play)
    ≤ kept_counter (start_of device) (events ∷ play)))

-- of every step
pub counter_step : (device : Device) (play : Play) (events : List Event)
    → CounterStep device play events
counter_step device play events =
    each_step device play events (CounterStep device play events) (record {
      leaves = λ same. let number = ap little_endian same in inl (omega (arith, number));
      high = λ call step.
          let now = ap little_endian step.now in
          let before = ap little_endian step.before in
          let grows = high_word-grows call.covers.kept
          (left_by device (events ∷ play) call.covers) call.is_kept call.is_left call.grows in
          inl (omega (arith, now, before, grows));
      low = λ call step.
          let now = ap little_endian step.now in
          let older = ap little_endian step.older in
          let grows = call.grows in
          inr (step.high, step.count, omega (arith, now, older, grows));
    })

-- the moment between the two writes
writes_high : (access : Option Access) → WritesHighWord access → writes_high_word access ≡ true
writes_high None writes = absurd writes
writes_high (Some (Fetch place)) writes = absurd writes
writes_high (Some (Read place size)) writes = absurd writes
writes_high (Some (Write place size number)) writes = eq-eqb place 0x4062 writes

not_refused : (rule : Option Rule) (test : Bool) → rule ≡ None → test ≡ true
    → (is_none rule && test) ≡ true
not_refused None test none holds = holds
not_refused (Some rule) test none holds = absurd (cc)

last_wrote-between : (history : List BusRecord) → LastWroteHighWord history
    → ends_between_words history ≡ true
last_wrote-between [] wrote = absurd wrote
last_wrote-between (entry ∷ history) wrote =
    not_refused entry.reset (writes_high_word entry.cpu) wrote.0 (writes_high entry.cpu wrote.1)

-- a moment from which the counter does not fall
abbrev pub IsFirm : Device → Play → Type 0
IsFirm device play =
    (LastWroteHighWord (trace (start_of device) play))
    → (call_length (start_of device) play ≡ 75) → ⊥

pub never_falls : (device : Device) (later earlier : Play) → IsFirm device earlier
    → kept_counter (start_of device) earlier ≤ kept_counter (start_of device) (later ++ earlier)
never_falls device [] earlier firm = omega arith
never_falls device (events ∷ []) earlier firm =
    elim (counter_step device earlier events) [
      | inl grows ↦ grows
      | inr falls ↦ absurd (firm falls.0 falls.1)
    ]
never_falls device (events ∷ before ∷ later) earlier firm =
    elim (counter_step device (before ∷ later ++ earlier) events) [
      | inl grows ↦
          (let so_far = never_falls device (before ∷ later) earlier firm in
          omega (arith, grows, so_far))
      | inr falls ↦
          (let so_far = never_falls device later earlier firm in
          let step = falls.2 in
          omega (arith, step, so_far))
    ]

-- a device
abbrev pub device_of : (flag : SeenHistory → Bool) (digest : Digest) (key : Bytes)
    (image : Contents) → IsDeviceKey key → IsOfBytes image → Device
device_of flag digest key image device_key bytes =
    record {
      flag = flag;
      digest = digest;
      key = key;
      image = image;
      key_size = device_key.size;
      key_bytes = are_bytes key device_key.bytes;
      image_bytes = bytes;
    }

pub kept_counter-never_falls : (flag : SeenHistory → Bool) (digest : Digest)
    (key : Bytes) (image : Contents) (later earlier : Play)
    → IsDeviceKey key → IsOfBytes image
    → IsFalse (ends_between_words (trace (with_key flag digest key image) earlier))
    → kept_counter (with_key flag digest key image) earlier
    ≤ kept_counter (with_key flag digest key image) (later ++ earlier)
kept_counter-never_falls flag digest key image later earlier device_key bytes firm =
    never_falls (device_of flag digest key image device_key bytes) later earlier
    (λ wrote count.
    let wrong : true ≡ false =
    sym (last_wrote-between (trace (with_key flag digest key image) earlier) wrote) ∙ firm in
    cc)

-- what is known where a call has decided to attest
record AttestsHere (device : Device) (play : Play) (counter : ℕ) : Type 0 where
  -- the counter of the request is kept
  kept : kept_counter (start_of device) play ≡ counter
  late : 77 ≤ call_length (start_of device) play
  -- and is greater than the one that was kept before the call
  older : kept_counter (start_of device) (before_call (start_of device) play) < counter

first_word-is : (words later rest : List ℕ) (decision first : ℕ)
    → slice_get words 0 ≡ Some first → words ++ later ≡ decision ∷ rest
    → (decision ≡ first) × (1 ≤ length words)
first_word-is [] later rest decision first is same = absurd (cc)
first_word-is (word ∷ words) later rest decision first is same = (cc, omega arith)

attests-here : (device : Device) (play : Play) (counter : ℕ)
    → Attests (start_of device) play counter → AttestsHere device play counter
attests-here device play counter attests =
    let start : Start = start_of device in
    let call : CallMoments device play = call-moments device play attests.in_call attests.unrefused
    in
    let contents : AttestedBytes = call.covers.contents in
    let kept : Bytes = call.covers.kept in
    let decision : ℕ = decision_of device.digest device.key contents kept in
    let first = first_word-is (mac_written (last_call (trace start play))) call.covers.later _
    decision ATTESTS attests.decision call.covers.words in
    let late : 77 ≤ call_length start play =
    (outcome_at device play attests.in_call).timed attests.unrefused first.1 in
    let request : left_by device play call.covers ≡ counter_in contents.metadata =
    cond-true (decision == ATTESTS) (counter_in contents.metadata) kept
    (eq-eqb decision ATTESTS first.0) in
    let asked : little_endian (counter_in contents.metadata) ≡ counter =
    ap (λ (bytes : AttestedBytes). little_endian (counter_in bytes.metadata)) (sym call.stands)
    ∙ attests.request in
    let now = call.now
    ∙ kept-late kept (left_by device play call.covers) (call_length start play)
    (omega (arith, late)) in
    let newer = attests-newer device.digest device.key contents.metadata kept first.0 in
    let number_before = ap little_endian call.covers.kept_before in
    record {
      kept = ap little_endian (now ∙ request) ∙ asked;
      late = late;
      older = omega (arith, newer, number_before, asked);
    }

pub counters-grow : (device : Device) (later earlier : Play) (first second : ℕ)
    → Attests (start_of device) earlier first
    → Attests (start_of device) (later ++ earlier) second
    → call_length (start_of device) (later ++ earlier) ≤ length later
    → first < second
counters-grow device later earlier first second attests attests_later begins =
    let here = attests-here device earlier first attests in
    let there = attests-here device (later ++ earlier) second attests_later in
    let count : ℕ = call_length (start_of device) (later ++ earlier) in
    let late = here.late in
    let same = ap (kept_counter (start_of device)) (drop-append-le count later earlier begins) in
    let grows = never_falls device (drop count later) earlier
    (λ wrote at_high. omega (arith, late, at_high)) in
    let kept = here.kept in
    let older = there.older in
    omega (arith, same, grows, kept, older)

pub attested_counters-grow : (flag : SeenHistory → Bool) (digest : Digest)
    (key : Bytes) (image : Contents) (later earlier : Play) (first second : ℕ)
    → IsDeviceKey key → IsOfBytes image
    → Attests (with_key flag digest key image) earlier first
    → Attests (with_key flag digest key image) (later ++ earlier) second
    → call_length (with_key flag digest key image) (later ++ earlier) ≤ length later
    → first < second
attested_counters-grow flag digest key image later earlier first second device_key bytes =
    counters-grow (device_of flag digest key image device_key bytes) later earlier first second

pub request-attested_once : (flag : SeenHistory → Bool) (digest : Digest)
    (key : Bytes) (image : Contents) (later earlier : Play) (counter : ℕ)
    → IsDeviceKey key → IsOfBytes image
    → Attests (with_key flag digest key image) earlier counter
    → Attests (with_key flag digest key image) (later ++ earlier) counter
    → length later < call_length (with_key flag digest key image) (later ++ earlier)
request-attested_once flag digest key image later earlier counter device_key bytes first second =
    elim (cases_lt (length later)
    (call_length (with_key flag digest key image) (later ++ earlier))) [
      | inl same_call ↦ same_call
      | inr begins ↦
          (let wrong = attested_counters-grow flag digest key image later earlier counter counter
          device_key bytes first second begins in
          omega (arith, wrong))
    ]
