use Rattle.key_isolation.proofs.OpenRecords.{blank_record-open, image_place-open, released_words_after-same}
use Rattle.key_isolation.proofs.secret.only_key_and_stack_are_hidden.Goals as goal

pub returns-clause-records : goal.returns-clause-records
returns-clause-records c = blank_record-open

pub returns-clause-places : goal.returns-clause-places
returns-clause-places c = image_place-open

pub returns-clause-released : goal.returns-clause-released
returns-clause-released c = released_words_after-same
