-- Lists of bytes against functions of the place.
use Rattle.std.proofs.{Common.{◌≡◌, ◌<◌, ◌≤◌, ◌+◌, ◌∷◌, ◌++◌, ◌∙◌, [], ℕ, zero, suc, Bool, List, length, get_or, set, take, drop, refl, ap, arith, add-one, below_more, get_or-set_same, get_or-set_other, inl, inr}, lemmas.Bool.Decides.eqb_tells, Math.{ListN.get_or-append, Seq.{drop-cons, get_or-append_seam}}}
use Rattle.device_types.specs.Map.{EXEC_WORD, AUX_WORD}
use Rattle.part_definitions.specs.Memory.{PowerOn, ShownFlags, MemoryWrite, byte_at, bytes_from}

-- a piece of a list is the bytes of its places
pub take-drop-bytes :
    (bytes : ℕ → ℕ) (xs : List ℕ) (first count : ℕ)
    → ((place : ℕ) → place < length xs → get_or xs place 0 ≡ bytes place)
    → first + count ≤ length xs
    → take count (drop first xs) ≡ bytes_from bytes first count
take-drop-bytes bytes xs first zero same within = refl
take-drop-bytes bytes xs first (suc count) same within =
    let here : first < length xs = omega arith in
    rw (drop-cons xs first 0 here, add-one, ← same first here)
    (ap (λ rest. get_or xs first 0 ∷ rest)
    (take-drop-bytes bytes xs (suc first) count same (omega arith)))

-- one byte more
pub append-bytes :
    (bytes : ℕ → ℕ) (xs : List ℕ) (byte count : ℕ)
    → length xs ≡ count
    → ((place : ℕ) → place < count → get_or xs place 0 ≡ bytes place)
    → byte ≡ bytes count
    → (place : ℕ) → place < count + 1 → get_or (xs ++ byte ∷ []) place 0 ≡ bytes place
append-bytes bytes xs byte count size before here =
    below_more (λ place. get_or (xs ++ byte ∷ []) place 0 ≡ bytes place) count
    (λ place within. get_or-append xs (byte ∷ []) 0 place (omega arith) ∙ before place within)
    (rw size at (get_or-append_seam xs byte [] 0) ∙ here)

-- each flag shows at its own byte alone
pub set-exec_byte :
    (start : PowerOn) (flags : ShownFlags) (on : Bool) (writes : List MemoryWrite) (xs : List ℕ)
    (byte place : ℕ)
    → EXEC_WORD < length xs
    → get_or xs place 0 ≡ byte_at start flags writes place
    → byte ≡ byte_at start (record flags { exec = on }) writes EXEC_WORD
    → get_or (set xs EXEC_WORD byte) place 0
    ≡ byte_at start (record flags { exec = on }) writes place
set-exec_byte start flags on writes xs byte place within before shows =
    elim (eqb_tells place EXEC_WORD) [
      | inl same ↦ rw same.1 (get_or-set_same xs EXEC_WORD byte 0 within ∙ shows)
      | inr other ↦
          get_or-set_other xs EXEC_WORD place byte 0 other.1 ∙ before ∙ rw other.0 refl
    ]

pub set-aux_byte :
    (start : PowerOn) (flags : ShownFlags) (on : Bool) (writes : List MemoryWrite) (xs : List ℕ)
    (byte place : ℕ)
    → AUX_WORD < length xs
    → get_or xs place 0 ≡ byte_at start flags writes place
    → byte ≡ byte_at start (record flags { aux = on }) writes AUX_WORD
    → get_or (set xs AUX_WORD byte) place 0 ≡ byte_at start (record flags { aux = on }) writes place
set-aux_byte start flags on writes xs byte place within before shows =
    elim (eqb_tells place AUX_WORD) [
      | inl same ↦ rw same.1 (get_or-set_same xs AUX_WORD byte 0 within ∙ shows)
      | inr other ↦
          get_or-set_other xs AUX_WORD place byte 0 other.1 ∙ before ∙ rw other.0 refl
    ]
