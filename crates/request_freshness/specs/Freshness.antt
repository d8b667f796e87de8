-- The counter that the device keeps, and the requests that it attests, over a whole play.
use Rattle.std.specs.Prelude.{slice_get, ◌≡◌, ◌<◌, ◌≤◌, ◌==◌, ◌&&◌, ◌+◌, ◌/◌, ◌++◌, ℕ, Bool, false, List, [], ◌∷◌, length, Option, Some, None, IsTrue, IsFalse, is_none}
use Rattle.word_arith.specs.Number.{Word16}
use Rattle.device_types.specs.{declared.{access.Access.{Access, TheVariants.Write}, bus_record.BusRecord.BusRecord}, Map.KEPT_COUNTER, Report.ReportFields, Address.Bytes}
use Rattle.part_definitions.specs.{Metadata.{counter_bytes, little_endian, token_in}, Region.metadata_bytes, Request.{ATTESTS, right_token}, Hmac.Digest}
use Rattle.device_trace.specs.{Start.Start, Text.last_report, Trace.{trace, byte_after, Play}}
use Rattle.mac_coverage.specs.Coverage.{ends_in_call, ends_refused, last_call, mac_written, call_length, kept_after}

-- the counter that is kept after a play, and the one of the request in the metadata
abbrev pub kept_counter : Start → Play → ℕ
kept_counter start play = little_endian (kept_after start play)

abbrev pub request_counter : Start → Play → ℕ
request_counter start play = little_endian (counter_bytes (byte_after start play))

-- the high word of the kept counter is written at the higher of its two places
abbrev pub writes_high_word : Option Access → Bool
writes_high_word (Some (Write place size number)) = place == KEPT_COUNTER + 2
writes_high_word access = false

-- the last record wrote it, and was not refused: the low word is not written yet
abbrev pub ends_between_words : List BusRecord → Bool
ends_between_words [] = false
ends_between_words (entry ∷ history) = is_none entry.reset && writes_high_word entry.cpu

-- the last step of a play is one of a call that has decided to attest the request with this counter
pub record Attests (start : Start) (play : Play) (counter : ℕ) : Type 0 where
  pub in_call : IsTrue (ends_in_call (trace start play))
  pub unrefused : IsFalse (ends_refused (trace start play))
  -- the first word that a call writes to the MAC is its decision
  pub decision : slice_get (mac_written (last_call (trace start play))) 0 ≡ Some ATTESTS
  pub request : request_counter start play ≡ counter

-- the call that a longer play ends in began after a shorter one, or was under way at its end
abbrev pub BeganAfter : Start → Play → Play → Type 0
BeganAfter start later earlier = call_length start (later ++ earlier) ≤ length later

abbrev pub WasUnderWay : Start → Play → Play → Type 0
WasUnderWay start later earlier = length later < call_length start (later ++ earlier)

-- every report that a play made before its last step tells a lesser counter than this one
abbrev pub TellsNewCounter : Start → ReportFields → Play → Type 0
TellsNewCounter start report play =
    (later earlier : Play) (older : ReportFields)
    → play ≡ later ++ earlier → 1 ≤ length later → last_report start earlier ≡ Some older
    → older.count < report.count

-- a play ends in a call on a request with the right token, and a high word not below the kept one
pub record IsRightlyRequested (digest : Digest) (key : Bytes) (start : Start) (play : Play)
    : Type 0 where
  pub in_call : IsTrue (ends_in_call (trace start play))
  pub token :
      token_in (metadata_bytes (byte_after start play))
      ≡ right_token digest key (metadata_bytes (byte_after start play))
  pub bound : kept_counter start play / 65536 ≤ request_counter start play / 65536
