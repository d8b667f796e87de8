-- After which words a call is in a phase. `hash` is the digest: its function, and the bytes that a
-- running one has taken.
use Rattle.std.specs.Prelude.{◌≡◌, ◌==◌, ◌++◌, ◌+◌, ◌*◌, ℕ, List, length, slice_index, if◌then◌else◌, Option, None, Some, ◌-◌, nat_lt}
use Rattle.device_types.specs.{declared.bounds.Bounds.Bounds, Map.{key_region, metadata_region, KEPT_COUNTER}}
use Rattle.hmac_core.specs.{Hash.Hash, Hmac.HmacStandsFor, declared.running_hmac.Hmac.Hmac}
use Rattle.part_definitions.specs.{Attestation.{REQUEST_WORDS, DIGEST_WORDS, BEFORE_REGION, bounds_read, decision_read, region_words, metadata_read, region_read, call_key, decision_in, counter_word, inner_in, tag_in, KEY_WORDS, METADATA_WORDS}, Hmac.Digest, Request.ATTESTS}
use Rattle.swatt_rom.specs.declared.{decided.Decided.Decided, digest_words.DigestWords.DigestWords, region_words.RegionWords.RegionWords, phase.Phase.{Phase, TheVariants.{ReadsRequest, WritesHighWord, WritesLowWord, WritesDecision, WritesDerivedKey, ReadsRegion, WritesInnerDigest, WritesMac}}}

-- After which words the engine writes a word of a digest.

-- it writes this digest, the first word of it after so many words
pub record WritesDigest
    (writes : DigestWords) (digest : List ℕ) (before : ℕ) (words : List ℕ) : Type 0 where
  pub same_bytes : writes.bytes ≡ digest
  pub same_length : length words ≡ before + writes.next

-- how many words pass before the derived key is written: also the counter and the decision
abbrev pub BEFORE_DERIVED_KEY : ℕ
BEFORE_DERIVED_KEY = REQUEST_WORDS + 2 + 1

-- and before the phases that come after the region
abbrev pub before_inner_digest : List ℕ → ℕ
before_inner_digest words = BEFORE_REGION + region_words (bounds_read words)

abbrev pub before_mac : List ℕ → ℕ
before_mac words = BEFORE_REGION + DIGEST_WORDS + region_words (bounds_read words)

-- and before the return read, which comes at once where the call does not attest
abbrev pub before_return : List ℕ → ℕ
before_return words =
    if decision_read words == ATTESTS
    then BEFORE_REGION + 2 * DIGEST_WORDS + region_words (bounds_read words)
    else BEFORE_DERIVED_KEY

-- the call has decided, and so many of the words that come of it have passed
pub record HasDecided
    (digest : Digest) (decided : Decided) (passed : ℕ) (words : List ℕ) : Type 0 where
  pub rest : List ℕ
  pub begins : words ≡ decided.words ++ rest
  pub size : length decided.words ≡ REQUEST_WORDS
  pub count : length words ≡ REQUEST_WORDS + passed
  pub same_decision : decided.decision ≡ decision_in digest words
  pub same_low : slice_index decided.counter 0 ≡ counter_word words (decision_in digest words) 0
  pub same_high : slice_index decided.counter 1 ≡ counter_word words (decision_in digest words) 1

pub record StandsAtDerivedKey
    (digest : Digest) (key : DigestWords) (bounds : Bounds) (metadata words : List ℕ)
    : Type 0 where
  pub at_word : WritesDigest key (call_key digest words) BEFORE_DERIVED_KEY words
  pub same_bounds : bounds ≡ bounds_read words
  pub same_metadata : metadata ≡ metadata_read words
  pub attests : decision_read words ≡ ATTESTS

pub record StandsAtInnerDigest
    (digest : Digest) (inner mac : DigestWords) (words : List ℕ) : Type 0 where
  pub at_word : WritesDigest inner (inner_in digest words) (before_inner_digest words) words
  pub same_mac : mac.bytes ≡ tag_in digest words
  pub mac_first : mac.next ≡ 0
  pub attests : decision_read words ≡ ATTESTS

pub record StandsAtMac (digest : Digest) (mac : DigestWords) (words : List ℕ) : Type 0 where
  pub at_word : WritesDigest mac (tag_in digest words) (before_mac words) words
  pub attests : decision_read words ≡ ATTESTS

module _ {D : Type 0} (hash : Hash D) where
  -- the MAC has taken metadata and region as far as they were read, under the derived key
  abbrev pub HashesRegion : Hmac D → List ℕ → Type 0
  HashesRegion mac words =
      HmacStandsFor hash mac (call_key hash.digest_of words)
      (metadata_read words ++ region_read words)

  pub record StandsAtRegion (region : RegionWords) (mac : Hmac D) (words : List ℕ) : Type 0 where
    pub same_bounds : region.bounds ≡ bounds_read words
    pub same_length : length words ≡ BEFORE_REGION + region.next
    pub hashes : HashesRegion mac words
    pub attests : decision_read words ≡ ATTESTS

  -- the region was read, and the MAC ends
  pub record EndsRegion (mac : Hmac D) (words : List ℕ) : Type 0 where
    pub count : length words ≡ before_inner_digest words
    pub hashes : HashesRegion mac words
    pub attests : decision_read words ≡ ATTESTS

  abbrev pub HasReadRegion : Phase D → List ℕ → Type 0
  HasReadRegion (ReadsRegion region mac) words = EndsRegion mac words
  HasReadRegion phase words = ⊥

  -- the phase is the one after these words
  abbrev pub PhaseStandsFor : Phase D → List ℕ → Type 0
  PhaseStandsFor (ReadsRequest request) words = words ≡ request.words.items
  PhaseStandsFor (WritesHighWord decided) words = HasDecided hash.digest_of decided 0 words
  PhaseStandsFor (WritesLowWord decided) words = HasDecided hash.digest_of decided 1 words
  PhaseStandsFor (WritesDecision decided) words = HasDecided hash.digest_of decided 2 words
  PhaseStandsFor (WritesDerivedKey key bounds bytes) words =
      StandsAtDerivedKey hash.digest_of key bounds bytes.items words
  PhaseStandsFor (ReadsRegion region mac) words = StandsAtRegion region mac words
  PhaseStandsFor (WritesInnerDigest inner mac) words =
      StandsAtInnerDigest hash.digest_of inner mac words
  PhaseStandsFor (WritesMac mac) words = StandsAtMac hash.digest_of mac words

-- the phase writes, and reads nothing
abbrev pub IsWrite : {D : Type 0} → Phase D → Type 0
IsWrite (ReadsRequest request) = ⊥
IsWrite (ReadsRegion region mac) = ⊥
IsWrite phase = Unit {0}

-- the return read comes after these words, in which this decision was written
pub record IsBeforeReturn (decision : ℕ) (words : List ℕ) : Type 0 where
  pub count : length words ≡ before_return words
  pub same_decision : decision ≡ decision_read words

-- after these words comes this phase, or the return read of a call with this decision
abbrev pub NextStandsFor : {D : Type 0} → Hash D → Phase D → Option ℕ → List ℕ → Type 0
NextStandsFor hash phase None words = PhaseStandsFor hash phase words
NextStandsFor hash phase (Some decision) words = IsBeforeReturn decision words

-- Where a call reads before it decides.

-- the place of the word that it reads after so many words
abbrev pub read_place : ℕ → ℕ
read_place count =
    if nat_lt count KEY_WORDS then key_region.first + 2 * count
    else if nat_lt count (KEY_WORDS + METADATA_WORDS)
    then metadata_region.first + 2 * (count - KEY_WORDS)
    else KEPT_COUNTER + 2 * (count - (KEY_WORDS + METADATA_WORDS))
