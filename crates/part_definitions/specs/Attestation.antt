-- A call of the attestation ROM: its accesses, by the words that passed in it so far, those that it
-- read and those that it wrote to the MAC. (VRASED.)
use Rattle.std.specs.{Prelude.{◌==◌, ◌++◌, ◌+◌, ◌-◌, ◌*◌, ◌/◌, ◌%◌, ℕ, Bool, true, false, List, [], ◌∷◌, length, take, drop, slice_index, map, get_or, nat_lt, if◌then◌else◌, Option, Some}, List.range_with_len}
use Rattle.word_arith.specs.{declared.size.Size.TheVariants.Word, Number.Word16}
use Rattle.device_types.specs.{declared.{access.Access.{Access, TheVariants.Write}, bounds.Bounds.Bounds}, Map.{lies_in, key_region, metadata_region, mac_region, DERIVED_KEY, INNER_DIGEST, KEPT_COUNTER, ROM_ENTRY, ROM_BODY, ROM_EXIT}, Bounds.{are_valid, bounds_with}, Address.{Bytes, Address}}
use Rattle.part_definitions.specs.{BusAccess.{read_at, write_at}, Hmac.{Digest, hmac, inner_digest}, Metadata.challenge_in, Request.{request_decision, ATTESTS}}

-- one access of a call, with its number among those of its sort
pub data CallItem : Type 0 where
  KeyRead : ℕ → CallItem
  MetadataRead : ℕ → CallItem
  -- of the kept counter, low word 0 and high word 1
  KeptRead : ℕ → CallItem
  KeptWrite : ℕ → CallItem
  DecisionWrite : CallItem
  DerivedKeyWrite : ℕ → CallItem
  RegionRead : ℕ → CallItem
  InnerDigestWrite : ℕ → CallItem
  MacWrite : ℕ → CallItem
  ReturnRead : CallItem

-- how many words a call reads of the key, and of the metadata
abbrev pub KEY_WORDS : ℕ
KEY_WORDS = 32

abbrev pub METADATA_WORDS : ℕ
METADATA_WORDS = 40

-- how many it reads before it decides: also the two of the kept counter
abbrev pub REQUEST_WORDS : ℕ
REQUEST_WORDS = KEY_WORDS + METADATA_WORDS + 2

-- those of the derived key, of the inner digest and of the MAC
abbrev pub DIGEST_WORDS : ℕ
DIGEST_WORDS = 16

-- how many pass before ER and OR are read: also those written of the counter, the decision and the
-- derived key
abbrev pub BEFORE_REGION : ℕ
BEFORE_REGION = REQUEST_WORDS + 2 + 1 + DIGEST_WORDS

-- a word of the metadata: the bounds are words 16 to 19, behind the challenge, and the counter is
-- words 22 and 23, behind the flags
abbrev pub metadata_word : List Word16 → ℕ → Word16
metadata_word words i = slice_index words (KEY_WORDS + i)

abbrev pub bounds_read : List Word16 → Bounds
bounds_read words =
    bounds_with (metadata_word words 16) (metadata_word words 17) (metadata_word words 18)
    (metadata_word words 19)

-- how many words there are from one place to another
abbrev pub words_between : Address → Address → ℕ
words_between first last = (last - first) / 2 + 1

abbrev pub executable_words : Bounds → ℕ
executable_words bounds = words_between bounds.er_min bounds.er_max

-- how many words of ER and OR a call reads
abbrev pub region_words : Bounds → ℕ
region_words bounds =
    if are_valid bounds
    then executable_words bounds + words_between bounds.or_min bounds.or_max
    else 0

-- the decision, which is written behind the two words of the counter
abbrev pub decision_read : List Word16 → Word16
decision_read words = slice_index words (REQUEST_WORDS + 2)

-- so many items of one sort, numbered from 0
abbrev pub series : (ℕ → CallItem) → ℕ → List CallItem
series item count = map item (range_with_len 0 count)

-- what a call that attests does behind its decision, where it reads so many words of ER and OR
abbrev pub attestation_items : ℕ → List CallItem
attestation_items region =
    series DerivedKeyWrite DIGEST_WORDS
    ++ series RegionRead region
    ++ series InnerDigestWrite DIGEST_WORDS
    ++ series MacWrite DIGEST_WORDS

-- a call up to its return read, with so many words of ER and OR and this decision; the high word of
-- the counter is written first
unfoldable pub call_items : ℕ → Word16 → List CallItem
call_items region decision =
    series KeyRead KEY_WORDS
    ++ series MetadataRead METADATA_WORDS
    ++ series KeptRead 2
    ++ KeptWrite 1 ∷ KeptWrite 0 ∷ DecisionWrite ∷ []
    ++ (if decision == ATTESTS then attestation_items region else [])

-- the access after these words, which is the return read where nothing else is left
abbrev pub call_item : List Word16 → CallItem
call_item words =
    get_or (call_items (region_words (bounds_read words)) (decision_read words)) (length words)
    ReturnRead

-- word i of ER and then of OR
abbrev pub region_place : Bounds → ℕ → Address
region_place bounds i =
    if nat_lt i (executable_words bounds) then bounds.er_min + 2 * i
    else bounds.or_min + 2 * (i - executable_words bounds)

-- the access of an item, with the number that it writes, in a call with this stack pointer
abbrev pub item_access : Address → Bounds → CallItem → Word16 → Access
item_access sp bounds (KeyRead i) number = read_at Word (key_region.first + 2 * i)
item_access sp bounds (MetadataRead i) number = read_at Word (metadata_region.first + 2 * i)
item_access sp bounds (KeptRead i) number = read_at Word (KEPT_COUNTER + 2 * i)
item_access sp bounds (KeptWrite i) number = write_at Word (KEPT_COUNTER + 2 * i) number
item_access sp bounds DecisionWrite number = write_at Word mac_region.first number
item_access sp bounds (DerivedKeyWrite i) number = write_at Word (DERIVED_KEY + 2 * i) number
item_access sp bounds (RegionRead i) number = read_at Word (region_place bounds i)
item_access sp bounds (InnerDigestWrite i) number = write_at Word (INNER_DIGEST + 2 * i) number
item_access sp bounds (MacWrite i) number = write_at Word (mac_region.first + 2 * i) number
item_access sp bounds ReturnRead number = read_at Word sp

-- the `pc` of an item: the first read of the key is the entry, the return read is the exit
abbrev pub item_pc : CallItem → Address
item_pc (KeyRead i) = if i == 0 then ROM_ENTRY else ROM_BODY
item_pc ReturnRead = ROM_EXIT
item_pc item = ROM_BODY

abbrev pub is_return : CallItem → Bool
is_return ReturnRead = true
is_return item = false

-- words as their bytes in memory order, and a word of such bytes
abbrev pub bytes_of_words : List Word16 → Bytes
bytes_of_words [] = []
bytes_of_words (word ∷ words) = word % 256 ∷ word / 256 ∷ bytes_of_words words

abbrev pub word_of_bytes : Bytes → ℕ → Word16
word_of_bytes bytes i = slice_index bytes (2 * i) + 256 * slice_index bytes (2 * i + 1)

-- what a call read, as bytes
abbrev pub key_read : List Word16 → Bytes
key_read words = bytes_of_words (take KEY_WORDS words)

abbrev pub metadata_read : List Word16 → Bytes
metadata_read words = bytes_of_words (take METADATA_WORDS (drop KEY_WORDS words))

abbrev pub kept_read : List Word16 → Bytes
kept_read words = bytes_of_words (take 2 (drop (KEY_WORDS + METADATA_WORDS) words))

abbrev pub region_read : List Word16 → Bytes
region_read words =
    bytes_of_words (take (region_words (bounds_read words)) (drop BEFORE_REGION words))

-- the key of one challenge
abbrev pub derived_key : Digest → Bytes → Bytes → Bytes
derived_key digest key metadata = hmac digest key (challenge_in metadata)

-- the MAC of metadata and region
abbrev pub attestation_tag : Digest → Bytes → Bytes → Bytes → Bytes
attestation_tag digest key metadata rest =
    hmac digest (derived_key digest key metadata) (metadata ++ rest)

-- what a call makes of the words that passed in it
abbrev pub call_key : Digest → List Word16 → Bytes
call_key digest words = derived_key digest (key_read words) (metadata_read words)

abbrev pub inner_in : Digest → List Word16 → Bytes
inner_in digest words =
    inner_digest digest (call_key digest words) (metadata_read words ++ region_read words)

abbrev pub tag_in : Digest → List Word16 → Bytes
tag_in digest words =
    attestation_tag digest (key_read words) (metadata_read words) (region_read words)

abbrev pub decision_in : Digest → List Word16 → Word16
decision_in digest words =
    request_decision digest (key_read words) (metadata_read words) (kept_read words)

-- a word of the counter that is kept from now on: the request's where the call attests, else the
-- one that was kept
abbrev pub counter_word : List Word16 → Word16 → ℕ → Word16
counter_word words decision i =
    if decision == ATTESTS then metadata_word words (22 + i)
    else slice_index words (KEY_WORDS + METADATA_WORDS + i)

-- the word that a call writes there, 0 where it reads
abbrev pub written_word : Digest → List Word16 → CallItem → Word16
written_word digest words (KeptWrite i) = counter_word words (decision_in digest words) i
written_word digest words DecisionWrite = decision_in digest words
written_word digest words (DerivedKeyWrite i) = word_of_bytes (call_key digest words) i
written_word digest words (InnerDigestWrite i) = word_of_bytes (inner_in digest words) i
written_word digest words (MacWrite i) = word_of_bytes (tag_in digest words) i
written_word digest words item = 0

-- the word that passes in a step: the one read, or the one released; of a write to the stack, which
-- a call does not read again, 0
abbrev pub word_passed : Option Access → Word16 → Word16
word_passed (Some (Write place size number)) value =
    if lies_in mac_region place then number else 0
word_passed access value = value
