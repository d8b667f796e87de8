use Rattle.debug_walk.proofs.copies.Copies.last_before.Goals as goal

pub returns-clause-copy : goal.returns-clause-copy
returns-clause-copy g c = λ run are.
    c.last_of-2.ensures.copy run (rw c.deref.ensures.value are.near)
    (c.last_of.ensures.copy run (rw c.deref-2.ensures.value are.far) tt)
