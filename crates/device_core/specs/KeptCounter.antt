-- What a device keeps of the requests that it attests.
use Rattle.std.specs.Prelude.{◌≡◌, ◌<◌, ◌≤◌, ◌++◌, ◌∷◌, ℕ, List, IsFalse}
use Rattle.device_types.specs.{declared.event.Event.Event, Address.Bytes}
use Rattle.part_definitions.specs.Hmac.{Digest}
use Rattle.device_trace.specs.{Start.Start, Trace.{trace, Play}}
use Rattle.request_freshness.specs.Freshness.{Attests, BeganAfter, IsRightlyRequested, ends_between_words, kept_counter}

-- after a play, of a device with this key
pub record KeepsCounter (digest : Digest) (key : Bytes) (start : Start) (play : Play) : Type 0 where
  -- the kept counter is not less than it was, but for the moment between its two writes
  pub never_falls : (later earlier : Play)
      → play ≡ later ++ earlier
      → IsFalse (ends_between_words (trace start earlier))
      → kept_counter start earlier ≤ kept_counter start play
  -- where the last step moved it, that was a step of a call on a right request
  pub moves_rightly : (events : List Event) (before : Play)
      → play ≡ events ∷ before
      → (kept_counter start play ≡ kept_counter start before → ⊥)
      → IsRightlyRequested digest key start play
  -- a request that a call has decided to attest has a greater counter than each attested before it
  pub attests_new : (later earlier : Play) (older counter : ℕ)
      → play ≡ later ++ earlier
      → BeganAfter start later earlier
      → Attests start earlier older
      → Attests start play counter
      → older < counter
