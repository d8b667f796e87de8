use Rattle.debug_walk.proofs.copies.Copies.leave_near.Goals as goal

pub returns-in-Ok-Some : goal.returns-in-Ok-Some
returns-in-Ok-Some g c = λ run are walks.
    let copy = rw c.in-Ok-Some.field-0-is at (c.in-Ok-Some.ensures.copy run walks) in
    record {
      far = are.far;
      near = c.push_copy.ensures run (c.drop_oldest.ensures run are.near) copy;
    }

pub returns : goal.returns
returns g c = λ run are walks.
    record { far = are.far; near = c.drop_oldest.ensures run are.near }

pub returns-2 : goal.returns-2
returns-2 g c = λ run are walks.
    record { far = are.far; near = c.drop_oldest.ensures run are.near }
