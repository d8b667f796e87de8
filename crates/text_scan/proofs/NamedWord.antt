-- A name is read as its value.
use Rattle.std.proofs.Common.{◌≡◌, ℕ, List, ◌∷◌, Some, Ok, refl}
use Rattle.named_value.specs.Names.{Names, value_named}
use Rattle.text_scan.specs.WordValue.{value_of}

pub value_of-name : {Value : Type 0} (names : Names Value) (value : Value) (rest : List (List ℕ))
    → value_named names (names.name value) ≡ Some value
    → value_of names (names.name value ∷ rest) ≡ Ok (value, rest)
unfolding value_of
value_of-name names value rest told = rw told refl
