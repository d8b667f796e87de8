-- The kept counter moves in calls on requests with the right token alone.
use Rattle.std.{proofs.{Common.{◌≡◌, ℕ, ◌+◌, ◌*◌, ◌/◌, ◌<◌, Bool, true, false, not, List, ◌∷◌, ◌++◌, take, drop, inl, inr, refl, ap, sym, ◌∙◌, arith, subst}, lemmas.{Bool.{cases_Bool, cond-false, cond-true, eqb-true, not-false}, List.take-append-drop, Slice.Eq.bytes_eq-Decides}}, specs.{Prelude.{◌==◌, nat_le, slice_index}, Str.bytes_eq}}
use Rattle.device_types.specs.{declared.event.Event.Event, ExecFlag.SeenHistory, Address.{Bytes, Contents}}
use Rattle.part_definitions.specs.{Metadata.{counter_in, kept_bytes, little_endian, token_in}, Request.{ATTESTS, right_token, request_decision}, Hmac.Digest}
use Rattle.device_trace.specs.{Trace.{Play, byte_after}, Start.with_key}
use Rattle.mac_coverage.{specs.{AttestedBytes.{AttestedBytes, counter_left, decision_of}, Coverage.{IsDeviceKey, IsOfBytes}}, proofs.{Device.{Device, start_of}, KeptStored.four, WordPlan.IsCounter}}
use Rattle.request_freshness.{specs.Freshness.{IsRightlyRequested, kept_counter}, proofs.{Moments.{CallMoments, choice, left_by, each_step}, Grows.device_of}}

-- a request that is attested has the right token
first_choice : (other old : Bool) → choice other old ≡ ATTESTS → other ≡ false
first_choice true old is = absurd (cc)
first_choice false old is = refl

attests-right : (digest : Digest) (key metadata kept : List ℕ)
    → request_decision digest key metadata kept ≡ ATTESTS
    → token_in metadata ≡ right_token digest key metadata
attests-right digest key metadata kept attests =
    (bytes_eq-Decides (token_in metadata) (right_token digest key metadata)).0
    (not-false (bytes_eq (token_in metadata) (right_token digest key metadata))
    (first_choice (not (bytes_eq (token_in metadata) (right_token digest key metadata)))
    (nat_le (little_endian (counter_in metadata)) (little_endian kept)) attests))

-- the high word of a counter
high_number : (a b c d : ℕ) → a < 256 → b < 256
    → (a + 256 * (b + 256 * (c + 256 * (d + 256 * 0)))) / 65536 ≡ c + 256 * d
high_number a b c d small_a small_b = omega (arith, small_a, small_b)

same_high : (kept left : List ℕ) → IsCounter kept → IsCounter left
    → little_endian (take 2 kept ++ drop 2 left) / 65536 ≡ little_endian left / 65536
same_high kept left is_kept is_left =
    let same = four kept is_kept.size in
    let same_left = four left is_left.size in
    (λ j. little_endian (take 2 (same j) ++ drop 2 (same_left j)) / 65536)
    ∙ (high_number (slice_index kept 0) (slice_index kept 1) (slice_index left 2)
    (slice_index left 3) (is_kept.bytes 0) (is_kept.bytes 1)
    ∙ (sym (high_number (slice_index left 0) (slice_index left 1) (slice_index left 2)
    (slice_index left 3) (is_left.bytes 0) (is_left.bytes 1))
    ∙ ap (λ (counter : List ℕ). little_endian counter / 65536) (sym same_left)))

-- what a step did
abbrev Moved : Device → Play → List Event → Type 0
Moved device play events =
    (kept_counter (start_of device) (events ∷ play) ≡ kept_counter (start_of device) play → ⊥)
    → IsRightlyRequested device.digest device.key (start_of device) (events ∷ play)

-- the bytes before and after a step that writes a word
record WordStep (device : Device) (play : Play) (events : List Event)
    (kept left : List ℕ) : Type 0 where
  before : (left ≡ kept) → kept_bytes (byte_after (start_of device) play) ≡ kept
  after : (left ≡ kept) → kept_bytes (byte_after (start_of device) (events ∷ play)) ≡ kept
  bound :
      kept_counter (start_of device) (events ∷ play) / 65536 ≡ little_endian left / 65536

word_step-moves : (device : Device) (play : Play) (events : List Event)
    (call : CallMoments device (events ∷ play))
    → WordStep device play events call.covers.kept
    (left_by device (events ∷ play) call.covers)
    → Moved device play events
word_step-moves device play events call step moves =
    let contents : AttestedBytes = call.covers.contents in
    let kept : List ℕ = call.covers.kept in
    let decision : ℕ = decision_of device.digest device.key contents kept in
    elim (cases_Bool (decision == ATTESTS)) [
      | inl attests ↦
          let left : counter_left device.digest device.key contents kept
          ≡ counter_in contents.metadata =
          cond-true (decision == ATTESTS) (counter_in contents.metadata) kept attests in
          let same : counter_in contents.metadata ≡ _ =
          ap (λ (bytes : AttestedBytes). counter_in bytes.metadata) (sym call.stands) in
          let token = attests-right device.digest device.key contents.metadata kept
          (eqb-true decision ATTESTS attests) in
          let number = ap (λ (counter : List ℕ). little_endian counter / 65536) (left ∙ same) in
          let bound = step.bound in
          record {
            in_call = call.in_call;
            token =
                subst
                (λ (bytes : AttestedBytes).
                token_in bytes.metadata ≡ right_token device.digest device.key bytes.metadata)
                (sym call.stands) token;
            bound = omega (arith, bound, number);
          }
      | inr denied ↦
          let same : counter_left device.digest device.key contents kept ≡ kept =
          cond-false (decision == ATTESTS) (counter_in contents.metadata) kept denied in
          absurd (moves (ap little_endian (step.after same ∙ sym (step.before same))))
    ]

-- of every step
step_moves : (device : Device) (play : Play) (events : List Event)
    → Moved device play events
step_moves device play events =
    let number : Bytes → ℕ = λ counter. little_endian counter / 65536 in
    let mixed : (kept left : Bytes) → left ≡ kept → take 2 kept ++ drop 2 left ≡ kept =
    λ kept left same.
    ap (λ (counter : Bytes). take 2 kept ++ drop 2 counter) same ∙ take-append-drop 2 kept in
    each_step device play events (Moved device play events) (record {
      leaves = λ same moves. absurd (moves (ap little_endian same));
      high = λ call step.
          let left : Bytes = left_by device (events ∷ play) call.covers in
          word_step-moves device play events call (record {
            before = λ same. step.before;
            after = λ same. step.now ∙ mixed call.covers.kept left same;
            bound = ap number step.now ∙ same_high call.covers.kept left call.is_kept call.is_left;
          });
      low = λ call step.
          let left : Bytes = left_by device (events ∷ play) call.covers in
          word_step-moves device play events call (record {
            before = λ same. step.before ∙ mixed call.covers.kept left same;
            after = λ same. step.now ∙ same;
            bound = ap number step.now;
          });
    })

pub kept_counter-moves : (flag : SeenHistory → Bool) (digest : Digest)
    (key : Bytes) (image : Contents) (play : Play) (events : List Event)
    → IsDeviceKey key → IsOfBytes image
    → (kept_counter (with_key flag digest key image) (events ∷ play)
    ≡ kept_counter (with_key flag digest key image) play
    → ⊥)
    → IsRightlyRequested digest key (with_key flag digest key image) (events ∷ play)
kept_counter-moves flag digest key image play events device_key bytes =
    step_moves (device_of flag digest key image device_key bytes) play events
