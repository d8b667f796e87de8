use Rattle.debug_walk.proofs.copies.Copies.leave.Goals as goal

pub returns-then-len-ge-MOST_FAR : goal.returns-then-len-ge-MOST_FAR
returns-then-len-ge-MOST_FAR g c = λ run are walks.
    let copy = rw c.in-Ok-Some.field-0-is at (c.in-Ok-Some.ensures.copy run walks) in
    c.thin.ensures run
    (record { far = c.push_copy.ensures run are.far copy; near = are.near })

pub returns-else-len-ge-MOST_FAR : goal.returns-else-len-ge-MOST_FAR
returns-else-len-ge-MOST_FAR g c = λ run are walks.
    let copy = rw c.in-Ok-Some.field-0-is at (c.in-Ok-Some.ensures.copy run walks) in
    record { far = c.push_copy.ensures run are.far copy; near = are.near }
