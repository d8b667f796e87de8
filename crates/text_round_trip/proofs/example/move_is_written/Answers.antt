use Rattle.std.{proofs.Common.refl, specs.Fmt.digits}
use Rattle.text_round_trip.proofs.example.move_is_written.Goals as goal

pub returns : goal.returns
unfolding digits
returns c = record { text = refl; writable = refl }
