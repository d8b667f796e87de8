-- The MAC covers what stands in memory throughout the call that writes it, and the call attests by
-- the token and the counters that stand there.
use Rattle.std.specs.Prelude.{◌≡◌, ◌<◌, ◌≤◌, ◌+◌, ◌++◌, ℕ, All, List, [], IsTrue, Some, length, take, drop, nat_lt, if◌then◌else◌, ◌==◌, ◌&&◌, Bool, false, ◌∷◌, is_some}
use Rattle.word_arith.specs.Number.{Word16}
use Rattle.device_types.specs.{Report.ReportFields, Address.{Contents, Bytes, Address}, declared.bus_record.BusRecord.BusRecord, Kind.is_rom, Map.ROM_ENTRY}
use Rattle.part_definitions.specs.{Attestation.REQUEST_WORDS, Metadata.kept_bytes, Region.mac_bytes, Request.ATTESTS, Hmac.Digest}
use Rattle.device_trace.specs.{Start.Start, Text.last_decision, Trace.{trace, byte_after, Play}, Logs.{finishes_call, released_words_after}}
use Rattle.mac_coverage.specs.AttestedBytes.{AttestedBytes, attested_bytes_in, without_flag_words, tag_of, decision_of, call_words, counter_left}

-- The last call of a history, which has the newest record first.

-- a call begins with its access at the ROM's entry
abbrev pub begins_call : BusRecord → Bool
begins_call entry = is_rom entry.kind && (entry.pc == ROM_ENTRY)

-- the records back to the one that begins the last call
abbrev pub last_call : List BusRecord → List BusRecord
last_call [] = []
last_call (entry ∷ history) = entry ∷ (if begins_call entry then [] else last_call history)

-- the words that records wrote to the MAC, oldest first; a refused one writes nothing
abbrev pub mac_written : List BusRecord → List Word16
mac_written [] = []
mac_written (entry ∷ older) =
    released_words_after entry.reset entry.kind entry.cpu (mac_written older)

-- the last record is one of a call
abbrev pub ends_in_call : List BusRecord → Bool
ends_in_call [] = false
ends_in_call (entry ∷ history) = is_rom entry.kind

abbrev pub ends_refused : List BusRecord → Bool
ends_refused [] = false
ends_refused (entry ∷ history) = is_some entry.reset

abbrev pub ends_finished : List BusRecord → Bool
ends_finished [] = false
ends_finished (entry ∷ history) = finishes_call entry

-- 64 bytes
pub record IsDeviceKey (key : Bytes) : Type 0 where
  pub size : length key ≡ 64
  pub bytes : All (λ byte. byte < 256) key

abbrev pub IsOfBytes : Contents → Type 0
IsOfBytes image = (place : Address) → image place < 256

pub record Gives32Bytes (digest : Digest) : Type 0 where
  pub size : (message : Bytes) → length (digest message) ≡ 32
  pub bytes : (message : Bytes) → All (λ byte. byte < 256) (digest message)

-- the attested bytes and the kept counter, as they stand in memory after a play
abbrev pub attested_after : Start → Play → AttestedBytes
attested_after start play = attested_bytes_in (byte_after start play)

abbrev pub kept_after : Start → Play → Bytes
kept_after start play = kept_bytes (byte_after start play)

-- how many steps the last call of a play has made, and the play before that call
abbrev pub call_length : Start → Play → ℕ
call_length start play = length (last_call (trace start play))

abbrev pub before_call : Start → Play → Play
before_call start play = drop (call_length start play) play

-- this holds after each step of the last call of a play, but for a last step that is refused
abbrev pub ThroughoutCall : Start → Play → (Play → Type 0) → Type 0
ThroughoutCall start play holds =
    (later earlier : Play) → play ≡ later ++ earlier → length later < call_length start play
    → (IsTrue (ends_refused (trace start play)) → 1 ≤ length later) → holds earlier

-- the kept counter after so many steps of a call, which replaces one by the other, high word first
abbrev pub kept_within : Bytes → Bytes → ℕ → Bytes
kept_within kept left steps =
    if nat_lt steps (REQUEST_WORDS + 1) then kept
    else if nat_lt steps (REQUEST_WORDS + 2) then take 2 kept ++ drop 2 left
    else left

-- what the MAC of the last call of a play covers
pub record MacCoversCall (digest : Digest) (key : Bytes) (start : Start) (play : Play)
    : Type 0 where
  pub contents : AttestedBytes
  pub kept : Bytes
  -- they stand in memory before the call, but for the EXEC word and the AUX word
  pub before : without_flag_words (attested_after start (before_call start play))
      ≡ without_flag_words contents
  pub kept_before : kept_after start (before_call start play) ≡ kept
  -- and throughout it, the counter up to the two writes of the one that the call leaves
  pub throughout : ThroughoutCall start play (λ moment. attested_after start moment ≡ contents)
  pub counter : ThroughoutCall start play (λ moment.
      kept_after start moment
      ≡ kept_within kept (counter_left digest key contents kept) (call_length start moment))
  -- what the call wrote to the MAC and has yet to write: its decision and, if it attests, the tag
  pub later : List Word16
  pub words :
      mac_written (last_call (trace start play)) ++ later ≡ call_words digest key contents kept
  pub whole : IsTrue (ends_finished (trace start play)) → later ≡ []
  -- its line tells the decision, as a report where it attests and as a denial elsewhere
  pub told : IsTrue (ends_finished (trace start play))
      → last_decision start play ≡ Some (decision_of digest key contents kept)
  -- and then the tag stands in memory, where the digest gives 32 bytes
  pub stored : IsTrue (ends_finished (trace start play))
      → decision_of digest key contents kept ≡ ATTESTS → Gives32Bytes digest
      → mac_bytes (byte_after start play) ≡ tag_of digest key contents

-- where a play ends in a call, under way, finished or broken off, the MAC covers that call
abbrev pub MacCoversLastCall : Digest → Bytes → Start → Play → Type 0
MacCoversLastCall digest key start play =
    IsTrue (ends_in_call (trace start play)) → MacCoversCall digest key start play

-- the MAC in a report, which the last step of a play makes, covers its call, and is the tag of what
-- stands in memory, where the digest gives 32 bytes
abbrev pub MacCoversReport : Digest → Bytes → Start → ReportFields → Play → Type 0
MacCoversReport digest key start report play =
    MacCoversCall digest key start play
    × (Gives32Bytes digest → report.mac ≡ tag_of digest key (attested_after start play))
