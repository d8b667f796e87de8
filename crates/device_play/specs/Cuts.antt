-- Where the putting of a text stops when memory runs out.
use Rattle.std.specs.Prelude.{◌≡◌, ◌≤◌, ◌++◌, ◌⊎◌, List, ℕ, Result, IfErr, OnOk, Contains, map}
use Rattle.device_types.specs.Address.{Bytes}
use Rattle.outside_edge.specs.{Calls.Rose, Sink.Takes}
use Rattle.device_play.specs.{declared.put_fault.PutFault.{PutFault, TheVariants.{Write, Memory}}}

-- these texts, each behind that one
abbrev pub behind : Bytes → List Bytes → List Bytes
behind before cuts = map (λ (cut : Bytes). before ++ cut) cuts

-- the sink took bytes of which this is so
abbrev pub TakesSuch : {S : Type 0} → (S → Bytes → Type 0) → S → S → (Bytes → Type 0) → Type 0
TakesSuch stands old new is_so = (bytes : Bytes) × is_so bytes × Takes stands old new bytes

-- where memory ran out, the sink took bytes of which this is so, and no more
abbrev pub StopsWhere :
    {S V : Type 0}
    → (S → Bytes → Type 0) → S → S → (Bytes → Type 0) → Result V PutFault → Type 0
StopsWhere stands old new is_so result =
    IfErr result (λ fault. fault ≡ Memory → TakesSuch stands old new is_so)

-- and here it took one of these texts
abbrev pub StopsOnlyAt :
    {S V : Type 0} → (S → Bytes → Type 0) → S → S → List Bytes → Result V PutFault → Type 0
StopsOnlyAt stands old new cuts result = StopsWhere stands old new (Contains cuts) result

-- a call that puts text and may run out of memory: a fault of writing was counted
pub record CountsWriteFaults {S V : Type 0} (faults : S → ℕ) (old new : S)
    (result : Result V PutFault) : Type 0 where
  pub failed : IfErr result (λ fault.
      ((fault ≡ Write) × Rose (faults old) (faults new)) ⊎ (fault ≡ Memory))
  pub quiet : OnOk result (faults new ≡ faults old)
  pub counted : faults old ≤ faults new
