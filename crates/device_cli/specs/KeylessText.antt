-- What a round and a dump put of a play is no secret.
use Rattle.std.specs.Prelude.{◌≡◌, Bool, List}
use Rattle.word_arith.specs.Number.{Word16}
use Rattle.device_trace.specs.{Trace.Play, Start.Start}
use Rattle.key_isolation.specs.Keyless.{keyless}
use Rattle.report_verifier.specs.Judge.{Judge}
use Rattle.device_cli.specs.{Command.dump_text, RoundText.{round_text, unanswered_in}}

-- both texts are those that the play has without its key, and so is the request that is not
-- answered; a verifier has its own
pub record HasKeylessTexts (start : Start) (play : Play) : Type 0 where
  pub dump : (more : List Word16) → dump_text start play ≡ dump_text (keyless start play more) play
  pub round : (judge : Judge) (more : List Word16)
      → round_text judge start play ≡ round_text judge (keyless start play more) play
  pub unanswered : (all : Bool) (judge : Judge) (more : List Word16)
      → unanswered_in all judge start play ≡ unanswered_in all judge (keyless start play more) play
