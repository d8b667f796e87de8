-- The device of a life.
use Rattle.std.proofs.Common.{◌≡◌, ◌∙◌, Some, None}
use Rattle.device_types.specs.TraceFlag.{Flag}
use Rattle.hmac_core.specs.Hash.{Hash}
use Rattle.device_trace.specs.Start.{Start}
use Rattle.device_core.specs.{Device.{LiveStandsFor, steps_made}, declared.live.Live.Live}
use Rattle.device_play.proofs.WatchedPlay.{length-play_of}
use Rattle.device_live.specs.{Life.{Life, events_in, play_lived}, Living.LivingStandsFor, declared.living.Living.Living}

module _ {D G : Type 0} (hash : Hash D) (flag : Flag G) (living : Living D G) (start : Start)
    (life : Life) (stands : LivingStandsFor hash flag living start life) where
  pub alive : (live : Live D G) → living.live ≡ Some live
      → LiveStandsFor hash flag live start (play_lived life)
  alive live is =
      let same : live ≡ stands.live = cc (is, stands.there) in
      rw same stands.stands

  pub never-gone : living.live ≡ None → ⊥
  never-gone none = cc (none, stands.there)

  pub steps-of-life : (live : Live D G) → living.live ≡ Some live → steps_made live ≡ life.steps
  steps-of-life live is =
      (alive live is).same_steps ∙ length-play_of (events_in life) life.steps
