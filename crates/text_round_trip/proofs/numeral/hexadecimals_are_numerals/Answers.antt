use Rattle.text_round_trip.proofs.Numerals.{word_text-number}
use Rattle.text_round_trip.proofs.numeral.hexadecimals_are_numerals.Goals as goal

pub returns : goal.returns
returns c = word_text-number
