use Rattle.text_round_trip.proofs.ListedPlace.{item-again}
use Rattle.text_round_trip.proofs.listing.listed_items_are_read_back.Goals as goal

pub returns : goal.returns
returns c = item-again c.heads_are_spelled.ensures
