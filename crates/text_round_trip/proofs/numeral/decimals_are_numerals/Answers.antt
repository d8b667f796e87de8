use Rattle.text_round_trip.proofs.Numerals.{decimal-number}
use Rattle.text_round_trip.proofs.numeral.decimals_are_numerals.Goals as goal

pub returns : goal.returns
returns c = decimal-number
