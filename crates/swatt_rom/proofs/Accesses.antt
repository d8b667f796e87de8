-- What the phases of a call ask for.
use Rattle.std.{proofs.{Common.{◌≡◌, ◌<◌, ◌∙◌, ℕ, List, Some, true, false, length, inl, inr, refl, ap, sym, subst, arith, ◌++◌, ◌∷◌, [], if◌then◌else◌}, lemmas.Bool.{cases_Bool, lt-ltb, Decides.nat_tests}}, specs.Prelude.{◌==◌, ◌+◌, ◌*◌, nat_lt, slice_index}}
use Rattle.word_arith.specs.declared.size.Size.TheVariants.{Word}
use Rattle.device_types.specs.{declared.{access.Access.Access, bounds.Bounds.Bounds}, Map.{mac_region, DERIVED_KEY, INNER_DIGEST, KEPT_COUNTER}}
use Rattle.part_definitions.{specs.{BusAccess.{read_at, write_at}, Attestation.{CallItem, KeptWrite, DecisionWrite, DerivedKeyWrite, RegionRead, InnerDigestWrite, MacWrite, call_item, item_access, item_pc, bounds_read, decision_read, region_words, region_place, written_word, word_of_bytes, is_return, word_passed}, Request.ATTESTS}, proofs.CallItems.{item_until_decision, item_after, item_after-is}}
use Rattle.swatt_rom.{specs.{RomCall.{call_access, next_word, RomCall, NoCall, InCall, AfterCall, end_of_call, after_step, after_value}, Phase.{read_place, IsWrite, PhaseStandsFor, HasDecided, IsBeforeReturn}, declared.{decided.Decided.Decided, region_words.RegionWords.RegionWords, request_words.RequestWords.RequestWords, phase.Phase.{Phase, TheVariants.{ReadsRequest, WritesHighWord, WritesLowWord, WritesDecision, WritesDerivedKey, ReadsRegion, WritesInnerDigest, WritesMac}}, state.State.TheVariants.{Calls, Returns}}, Rom.StateStandsFor}, proofs.WordsPassed.region_in}
use Rattle.hmac_core.specs.{Hash.Hash, declared.running_hmac.Hmac.Hmac}

-- The accesses of a call, by the number of words that passed.

pub item_after-request : (region decision count : ℕ) → count < 77
    → item_after region decision count ≡ item_until_decision count
item_after-request region decision count within = grind (arith, nat_tests, item_after-is)

pub item_after-high : (region decision count : ℕ) → count ≡ 74
    → item_after region decision count ≡ KeptWrite 1
item_after-high region decision count at = grind (arith, nat_tests, item_after-is)

pub item_after-low : (region decision count : ℕ) → count ≡ 75
    → item_after region decision count ≡ KeptWrite 0
item_after-low region decision count at = grind (arith, nat_tests, item_after-is)

pub item_after-decision : (region decision count : ℕ) → count ≡ 76
    → item_after region decision count ≡ DecisionWrite
item_after-decision region decision count at = grind (arith, nat_tests, item_after-is)

pub item_after-derived_key :
    (region decision count i : ℕ) → decision ≡ ATTESTS → i < 16 → count ≡ 77 + i
    → item_after region decision count ≡ DerivedKeyWrite i
item_after-derived_key region decision count i attests within at =
    grind (arith, nat_tests, item_after-is)

pub item_after-region :
    (region decision count i : ℕ) → decision ≡ ATTESTS → i < region → count ≡ 93 + i
    → item_after region decision count ≡ RegionRead i
item_after-region region decision count i attests within at =
    grind (arith, nat_tests, item_after-is)

pub item_after-inner_digest :
    (region decision count i : ℕ) → decision ≡ ATTESTS → i < 16 → count ≡ 93 + region + i
    → item_after region decision count ≡ InnerDigestWrite i
item_after-inner_digest region decision count i attests within at =
    grind (arith, nat_tests, item_after-is)

pub item_after-mac :
    (region decision count i : ℕ) → decision ≡ ATTESTS → i < 16 → count ≡ 109 + region + i
    → item_after region decision count ≡ MacWrite i
item_after-mac region decision count i attests within at = grind (arith, nat_tests, item_after-is)

-- the item of a phase
abbrev pub item_of : {D : Type 0} → Phase D → CallItem
item_of (ReadsRequest request) = item_until_decision (length request.words.items)
item_of (WritesHighWord decided) = KeptWrite 1
item_of (WritesLowWord decided) = KeptWrite 0
item_of (WritesDecision decided) = DecisionWrite
item_of (WritesDerivedKey key bounds bytes) = DerivedKeyWrite key.next
item_of (ReadsRegion region mac) = RegionRead region.next
item_of (WritesInnerDigest inner mac) = InnerDigestWrite inner.next
item_of (WritesMac mac) = MacWrite mac.next

-- the access of a phase
abbrev pub access_of : {D : Type 0} → Phase D → Access
access_of (ReadsRequest request) = read_at Word (read_place (length request.words.items))
access_of (WritesHighWord decided) =
    write_at Word (KEPT_COUNTER + 2 * 1) (slice_index decided.counter 1)
access_of (WritesLowWord decided) =
    write_at Word (KEPT_COUNTER + 2 * 0) (slice_index decided.counter 0)
access_of (WritesDecision decided) = write_at Word mac_region.first decided.decision
access_of (WritesDerivedKey key bounds bytes) =
    write_at Word (DERIVED_KEY + 2 * key.next) (word_of_bytes key.bytes key.next)
access_of (ReadsRegion region mac) = read_at Word (region_place region.bounds region.next)
access_of (WritesInnerDigest inner mac) =
    write_at Word (INNER_DIGEST + 2 * inner.next) (word_of_bytes inner.bytes inner.next)
access_of (WritesMac mac) =
    write_at Word (mac_region.first + 2 * mac.next) (word_of_bytes mac.bytes mac.next)

is_return-until : (count : ℕ) → is_return (item_until_decision count) ≡ false
is_return-until count = grind (arith, nat_tests)

is_return-item_of : {D : Type 0} (phase : Phase D) → is_return (item_of phase) ≡ false
is_return-item_of phase = grind (arith, is_return-until)

-- the first word of the key is read at the entry
pub item_pc-first : (count : ℕ) → (count == 0) ≡ true → 0xA000 ≡ item_pc (item_until_decision count)
item_pc-first count first = grind (arith, nat_tests)

pub item_pc-later : (count : ℕ) → (count == 0) ≡ false
    → 0xA002 ≡ item_pc (item_until_decision count)
item_pc-later count later = grind (arith, nat_tests)

pub item_pc-item_of :
    {D : Type 0} (phase : Phase D)
    → ((request : RequestWords) → phase ≡ ReadsRequest request → ⊥)
    → 0xA002 ≡ item_pc (item_of phase)
item_pc-item_of phase other = grind arith

-- a phase that reads neither the request nor the region writes
pub write-of :
    {D : Type 0} (phase : Phase D)
    → ((request : RequestWords) → phase ≡ ReadsRequest request → ⊥)
    → ((region : RegionWords) (mac : Hmac D) → phase ≡ ReadsRegion region mac → ⊥)
    → IsWrite phase
write-of (ReadsRequest request) no_request no_region = no_request request refl
write-of (ReadsRegion region mac) no_request no_region = no_region region mac refl
write-of (WritesHighWord decided) no_request no_region = tt
write-of (WritesLowWord decided) no_request no_region = tt
write-of (WritesDecision decided) no_request no_region = tt
write-of (WritesDerivedKey key bounds bytes) no_request no_region = tt
write-of (WritesInnerDigest inner mac) no_request no_region = tt
write-of (WritesMac mac) no_request no_region = tt

read_place-item : (sp number count : ℕ) (bounds : Bounds) → count < 74
    → read_at Word (read_place count)
    ≡ item_access sp bounds (item_until_decision count) number
read_place-item sp number count bounds within =
    elim (cases_Bool (nat_lt count 32)) [
      | inl key ↦ rw key refl
      | inr later ↦
          elim (cases_Bool (nat_lt count 72)) [
            | inl metadata ↦ rw (later, metadata) refl
            | inr last ↦ rw (later, last, lt-ltb count 74 within) refl
          ]
    ]

module _ {D : Type 0} (hash : Hash D) where
  pub call_item-phase :
      (phase : Phase D) (words : List ℕ)
      → PhaseStandsFor hash phase words
      → call_item words ≡ item_of phase
  call_item-phase (ReadsRequest request) words stands =
      item_after-request (region_in words) (decision_read words) (length words)
      (omega (arith, ap length stands, request.some_left))
      ∙ ap (λ words. item_until_decision (length words)) stands
  call_item-phase (WritesHighWord decided) words stands =
      item_after-high (region_in words) (decision_read words) (length words) stands.count
  call_item-phase (WritesLowWord decided) words stands =
      item_after-low (region_in words) (decision_read words) (length words) stands.count
  call_item-phase (WritesDecision decided) words stands =
      item_after-decision (region_in words) (decision_read words) (length words) stands.count
  call_item-phase (WritesDerivedKey key bounds bytes) words stands =
      item_after-derived_key (region_in words) (decision_read words) (length words) key.next
      stands.attests key.some_left stands.at_word.same_length
  call_item-phase (ReadsRegion region mac) words stands =
      item_after-region (region_in words) (decision_read words) (length words) region.next
      stands.attests
      (subst (λ bounds. region.next < region_words bounds) stands.same_bounds region.some_left)
      stands.same_length
  call_item-phase (WritesInnerDigest inner mac) words stands =
      item_after-inner_digest (region_in words) (decision_read words) (length words) inner.next
      stands.attests inner.some_left stands.at_word.same_length
  call_item-phase (WritesMac mac) words stands =
      item_after-mac (region_in words) (decision_read words) (length words) mac.next
      stands.attests mac.some_left stands.at_word.same_length

  pub is_return-phase :
      (phase : Phase D) (words : List ℕ)
      → PhaseStandsFor hash phase words
      → is_return (call_item words) ≡ false
  is_return-phase phase words stands =
      ap is_return (call_item-phase phase words stands) ∙ is_return-item_of phase

  access_of-item :
      (sp : ℕ) (phase : Phase D) (words : List ℕ)
      → PhaseStandsFor hash phase words
      → access_of phase
      ≡ item_access sp (bounds_read words) (item_of phase)
      (written_word hash.digest_of words (item_of phase))
  access_of-item sp phase words stands = grind (arith, read_place-item)

  -- the access of a phase that stands for these words is that of the call
  pub access_of-phase :
      (sp : ℕ) (phase : Phase D) (words : List ℕ)
      → PhaseStandsFor hash phase words
      → access_of phase ≡ call_access hash.digest_of sp words
  access_of-phase sp phase words stands =
      access_of-item sp phase words stands
      ∙ sym
      (ap (λ item. item_access sp (bounds_read words) item (written_word hash.digest_of words item))
      (call_item-phase phase words stands))

  -- the decision passes as it was written
  pub next_word-decision :
      (decided : Decided) (sp value : ℕ) (words : List ℕ)
      → HasDecided hash.digest_of decided 2 words
      → next_word hash.digest_of sp words value ≡ decided.decision
  next_word-decision decided sp value words has =
      sym (ap (λ access. word_passed (Some access) value)
      (access_of-phase sp (WritesDecision decided) words has))

  -- a word that is read passes as it was read
  pub next_word-request :
      (request : RequestWords) (sp value : ℕ) (words : List ℕ)
      → PhaseStandsFor hash (ReadsRequest request) words
      → next_word hash.digest_of sp words value ≡ value
  next_word-request request sp value words stands =
      sym (ap (λ access. word_passed (Some access) value)
      (access_of-phase sp (ReadsRequest request) words stands))

  pub next_word-region :
      (region : RegionWords) (mac : Hmac D) (sp value : ℕ) (words : List ℕ)
      → PhaseStandsFor hash (ReadsRegion region mac) words
      → next_word hash.digest_of sp words value ≡ value
  next_word-region region mac sp value words stands =
      sym (ap (λ access. word_passed (Some access) value)
      (access_of-phase sp (ReadsRegion region mac) words stands))

-- The engine's states, as a value is taken.

module _ {D : Type 0} (hash : Hash D) where
  -- a step that is not the return read goes on with the call
  after_step-phase :
      (phase : Phase D) (sp : ℕ) (words : List ℕ) (value : ℕ)
      → PhaseStandsFor hash phase words
      → InCall sp (words ++ next_word hash.digest_of sp words value ∷ [])
      ≡ after_step hash.digest_of sp words value
  after_step-phase phase sp words value stands =
      sym (ap (λ returns. if returns then AfterCall (end_of_call sp value (decision_read words))
      else InCall sp (words ++ next_word hash.digest_of sp words value ∷ []))
      (is_return-phase hash phase words stands))

  pub after_value-calls :
      (sp value : ℕ) (phase next : Phase D)
      → ((start : ℕ) (words : List ℕ)
      → PhaseStandsFor hash phase words
      → PhaseStandsFor hash next (words ++ next_word hash.digest_of start words value ∷ []))
      → (call : RomCall)
      → StateStandsFor hash (Calls sp phase) call
      → StateStandsFor hash (Calls sp next) (after_value hash.digest_of call value)
  after_value-calls sp value phase next step NoCall stands = absurd stands
  after_value-calls sp value phase next step (InCall start words) stands =
      subst (StateStandsFor hash (Calls sp next))
      (after_step-phase phase start words value stands.1)
      (stands.0, step start words stands.1)
  after_value-calls sp value phase next step (AfterCall end) stands = absurd stands

  pub after_value-returns :
      (sp value decision : ℕ) (phase : Phase D)
      → ((start : ℕ) (words : List ℕ)
      → PhaseStandsFor hash phase words
      → IsBeforeReturn decision (words ++ next_word hash.digest_of start words value ∷ []))
      → (call : RomCall)
      → StateStandsFor hash (Calls sp phase) call
      → StateStandsFor {D = D} hash
      (Returns sp decision) (after_value hash.digest_of call value)
  after_value-returns sp value decision phase step NoCall stands = absurd stands
  after_value-returns sp value decision phase step (InCall start words) stands =
      subst (StateStandsFor {D = D} hash (Returns sp decision))
      (after_step-phase phase start words value stands.1)
      (stands.0, step start words stands.1)
  after_value-returns sp value decision phase step (AfterCall end) stands = absurd stands
