-- Under which name each key stands, in the memories of many desks.
use Rattle.std.specs.Prelude.{◌≡◌, ◌⊎◌, ℕ, List, [], ◌∷◌}
use Rattle.desk_memory.specs.Entry.{Entry}
use Rattle.verifier_desk.specs.KeyOwner.{IsServedIn}
use Rattle.many_desks.specs.Act.{Act, AreAllowed, Serves, World}

-- an entry puts a key of this mark under this name
abbrev pub StandsUnder : List Entry → List ℕ → List ℕ → Type 0
StandsUnder [] mark name = ⊥
StandsUnder (entry ∷ later) mark name =
    ((entry.mark ≡ mark) × (entry.name ≡ name)) ⊎ StandsUnder later mark name

-- no key stands under two names
abbrev pub KeysAreSound : World → Type 0
KeysAreSound world =
    (mark desk one desk_too other : List ℕ)
    → StandsUnder (world desk) mark one → StandsUnder (world desk_too) mark other
    → one ≡ other

-- a device of this name was served under a key of this mark, by whatever desk
abbrev pub IsServedBy : Act → List ℕ → List ℕ → Type 0
IsServedBy (Serves desk run) name mark = IsServedIn run name mark
IsServedBy act name mark = ⊥

abbrev pub WasServed : List Act → List ℕ → List ℕ → Type 0
WasServed [] name mark = ⊥
WasServed (act ∷ earlier) name mark = IsServedBy act name mark ⊎ WasServed earlier name mark

-- no key is served under two names
abbrev pub NoKeyHasTwoNames : Type 0
NoKeyHasTwoNames =
    (start : World) (acts : List Act) (mark one other : List ℕ)
    → KeysAreSound start → AreAllowed start acts
    → WasServed acts one mark → WasServed acts other mark
    → one ≡ other
