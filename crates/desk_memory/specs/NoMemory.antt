-- What a memory that keeps nothing means.
use Rattle.desk_memory.specs.declared.memory.Memory.{Ghosts}

-- it may have any entries, and nothing is ever found of them
abbrev pub forgets : {M : Type 0} → Ghosts M
forgets =
    record {
      stands = λ memory entries. Unit {0};
      may_leave = λ memory found. ⊥;
      is_honest = λ memory. Unit {0};
      is_whole = λ memory. Unit {0};
      faults = λ memory. 0;
      lacks = ⊥;
    }
