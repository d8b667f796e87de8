-- Values that are read one by one, up to the first fault.
use Rattle.std.{proofs.Common.{◌≡◌, ◌∙◌, ap, sym, refl, List, [], ◌∷◌, ◌++◌, append_assoc, Result, Ok, Err}, specs.Prelude.map}
use Rattle.text_scan.specs.Reader.{◌>>=◌}
use Rattle.asm_text.specs.Operand.{all_of}

-- what is read behind values
abbrev pub behind : {Value Fault : Type 0} → List Value → Result (List Value) Fault
    → Result (List Value) Fault
behind prefix (Ok later) = Ok (prefix ++ later)
behind prefix (Err fault) = Err fault

pub behind-none : {Value Fault : Type 0} (later : Result (List Value) Fault)
    → later ≡ behind [] later
behind-none (Ok later) = refl
behind-none (Err fault) = refl

pub behind-values : {Value Fault : Type 0} (prefix : List Value) (value : Value)
    (later : Result (List Value) Fault)
    → behind prefix (later >>= (λ values. Ok (value ∷ values)))
    ≡ behind (prefix ++ value ∷ []) later
behind-values prefix value (Ok values) = ap (λ all. Ok all) (sym (append_assoc prefix (value ∷ [])
    values))
behind-values prefix value (Err fault) = refl

behind-value : {Value Fault : Type 0} (prefix : List Value) (value : Value)
    (rest : List (Result Value Fault))
    → behind prefix (all_of (Ok value ∷ rest)) ≡ behind (prefix ++ value ∷ []) (all_of rest)
behind-value prefix value rest = behind-values prefix value (all_of rest)

-- one value more was read
pub gathered-more : {Item Value Fault : Type 0} (read : Item → Result Value Fault)
    {whole : Result (List Value) Fault} (prefix more : List Value) (remainder rest : List Item)
    (item : Item) (value : Value) → whole ≡ behind prefix (all_of (map read remainder))
    → remainder ≡ item ∷ rest → read item ≡ Ok value → more ≡ prefix ++ value ∷ []
    → whole ≡ behind more (all_of (map read rest))
gathered-more read prefix more remainder rest item value so_far next is adds =
    rw adds (so_far ∙ ap (λ items. behind prefix (all_of (map read items))) next
    ∙ ap (λ first. behind prefix (all_of (first ∷ map read rest))) is
    ∙ behind-value prefix value (map read rest))
