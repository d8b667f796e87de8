use Rattle.std.proofs.Common.{◌∙◌, refl, sym}
use Rattle.desk_database.proofs.TableRows.{row_columns}
use Rattle.desk_database.proofs.row_entry.entry_of.Goals as goal

pub returns-clause-some : goal.returns-clause-some
returns-clause-some c =
    let name = c.in-Some.ensures in
    let mark = sym c.get.ensures ∙ c.in-Some-mark_in.ensures.some in
    let home = c.in-Some-home_in.ensures in
    let state = c.in-Some-state_in.ensures in
    let made = c.in_ok-new.ensures.made in
    row_columns c.args.row.now name.len
    ∙ rw (
      name.place,
      name.itself,
      name.name,
      mark,
      home.moves,
      home.gone,
      state.count,
      state.outstanding,
      state.last,
      made,
    ) refl
