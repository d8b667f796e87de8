use Rattle.desk_database.proofs.TableRows.{rows_from-injective}
use Rattle.desk_database.proofs.law.table_is_of_one_list.Goals as goal

pub returns : goal.returns
returns c entries others sized sized_others same =
    rows_from-injective 0 entries others sized sized_others same
