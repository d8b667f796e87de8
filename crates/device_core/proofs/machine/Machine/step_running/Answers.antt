use Rattle.device_core.proofs.machine.Machine.step_running.Goals as goal

pub returns-then-is_none-clause-stands : goal.returns-then-is_none-clause-stands
returns-then-is_none-clause-stands g c = λ start logs stands beside.
    c.step_running_beside.ensures.stands start logs stands beside

pub returns-then-is_none-clause-kept : goal.returns-then-is_none-clause-kept
returns-then-is_none-clause-kept g c = λ start logs stands beside none.
    c.step_running_beside.ensures.kept start logs stands beside none

pub returns-else-is_none-clause-stands : goal.returns-else-is_none-clause-stands
returns-else-is_none-clause-stands g c = λ start logs stands beside.
    c.step_running_beside-else-is_none.ensures.stands start logs stands beside

pub returns-else-is_none-clause-kept : goal.returns-else-is_none-clause-kept
returns-else-is_none-clause-kept g c = λ start logs stands beside none.
    c.step_running_beside-else-is_none.ensures.kept start logs stands beside none
