use Rattle.std.proofs.Common.{◌∙◌, arith}
use Rattle.desk_memory.proofs.Places.{with_entry-set, with_entry-push}
use Rattle.desk_memory.proofs.entry_place.set_entry.Goals as goal

pub returns-then-place-len : goal.returns-then-place-len
returns-then-place-len c =
    with_entry-set c.args.entries.now.items c.args.place c.args.new c.requires.place
    (omega (arith, c.if-place-len.true, c.len.ensures))

pub returns-else-place-len : goal.returns-else-place-len
returns-else-place-len c =
    c.push_reserved.ensures.items
    ∙ with_entry-push c.args.entries.now.items c.args.new
    (omega (arith, c.if-place-len.false, c.len.ensures, c.requires.place))
