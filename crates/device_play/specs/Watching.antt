-- A play before a watcher.
use Rattle.std.specs.Prelude.{◌≡◌, ◌++◌, ◌∷◌, [], ℕ, List, length, Contains, Result, IfOk, OnOk}
use Rattle.device_types.specs.{Address.Bytes, declared.event.Event.Event, TraceFlag.Flag}
use Rattle.hmac_core.specs.Hash.{Hash}
use Rattle.outside_edge.specs.Sink.{Puts}
use Rattle.device_trace.specs.{Trace.Play, Start.Start}
use Rattle.device_core.specs.{Device.{HeldStandsFor, LiveStandsFor}, Step.ForEachKey, declared.{device.{Device.Device, Held.Held}, live.Live.Live}}
use Rattle.device_play.specs.{Account.{Account, whole_text}, Cuts.{StopsOnlyAt, StopsWhere}, PlayLaws.{KeepsKeyHidden, ObeysLaws}, declared.put_fault.PutFault.PutFault}

-- there is what a device is powered on with, and it has made no step
abbrev pub IsPoweredOn : {D G : Type 0} → Hash D → Flag G → Device Held D G → Type 0
IsPoweredOn hash flag device = (start : Start) × HeldStandsFor hash flag device start []

-- there is a play that a device stands for
abbrev pub PlaysSome : {D G : Type 0} → Hash D → Flag G → Live D G → Type 0
PlaysSome hash flag live = (start : Start) × (play : Play) × LiveStandsFor hash flag live start play

-- a device that made one more step, of this number, than the play has of which this tally is
pub record IsShown {D G T : Type 0} (hash : Hash D) (flag : Flag G) (account : Account T)
    (live : Live D G) (tally : T) (step : ℕ) (start : Start) (events : List Event) (play : Play)
    : Type 0 where
  pub device : LiveStandsFor hash flag live start (events ∷ play)
  pub number : step ≡ length play
  pub counted : account.tallies start play tally

-- there is such a play
abbrev pub IsShownSome :
    {D G T : Type 0} → Hash D → Flag G → Account T → Live D G → T → ℕ → Type 0
IsShownSome hash flag account live tally step =
    (start : Start) × (events : List Event) × (play : Play)
    × IsShown hash flag account live tally step start events play

-- a watcher that was shown that step: what it put of it, and the tally after it
pub record HasSeen {S T V : Type 0} (stands : S → Bytes → Type 0) (account : Account T)
    (old new : S) (tally : T) (start : Start) (events : List Event) (play : Play)
    (result : Result V PutFault) : Type 0 where
  pub counted : OnOk result (account.tallies start (events ∷ play) tally)
  pub puts : Puts stands old new (account.step_text start events play) result
  pub memory : StopsWhere stands old new
      (λ bytes. Contains (account.cuts start (events ∷ play)) (account.text start play ++ bytes))
      result

-- a play before a watcher: the device after it, the tally, and what was put
pub record IsWatched {D G S T : Type 0} (hash : Hash D) (flag : Flag G)
    (stands : S → Bytes → Type 0) (account : Account T) (old new : S) (start : Start)
    (play : Play) (result : Result (Live D G × T) PutFault) : Type 0 where
  pub device : IfOk result (λ end. LiveStandsFor hash flag end.0 start play)
  pub counted : IfOk result (λ end. account.tallies start play end.1)
  pub puts : Puts stands old new (whole_text account start play) result
  pub memory : StopsOnlyAt stands old new (account.cuts start play) result
  -- and however it ends, the play obeys the laws of the device
  pub hides_key : KeepsKeyHidden start play
  pub laws : ForEachKey hash flag (λ key other.
      start ≡ other → ObeysLaws hash.digest_of key start play)
