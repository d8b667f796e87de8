-- The two bytes of a word, written together.
use Rattle.std.proofs.{Common.{◌≡◌, ◌<◌, ◌+◌, ◌*◌, ◌&&◌, ◌||◌, ◌∷◌, ◌∙◌, ℕ, Bool, true, false, not, List, length, get_or, set, nat_le, refl, ap, sym, arith, get_or-set_same, get_or-set_other, length-set, inl, inr, if◌then◌else◌}, lemmas.Bool.{le-leb, lt-leb, eq-eqb, Decides.{leb_tells, eqb_tells}}}
use Rattle.device_types.specs.Map.{lies_in, ram_region, stack_region}
use Rattle.part_definitions.specs.Memory.{PowerOn, ShownFlags, MemoryWrite, byte_at, first_byte, fixed_byte, last_written, takes_write, is_program, is_flag_word}

-- a range of whole words begins before both bytes of a word or before none
even_first : (first half : ℕ) → nat_le (first * 2) (half * 2 + 1) ≡ nat_le (first * 2) (half * 2)
even_first first half =
    elim (leb_tells (first * 2) (half * 2)) [
      | inl below ↦
          le-leb (first * 2) (half * 2 + 1) (omega (arith, below.1)) ∙ sym below.0
      | inr above ↦
          lt-leb (first * 2) (half * 2 + 1) (omega (arith, above.1)) ∙ sym above.0
    ]

-- and ends after both or after none
odd_last : (last half : ℕ)
    → nat_le (half * 2 + 1) (last * 2 + 1) ≡ nat_le (half * 2) (last * 2 + 1)
odd_last last half =
    elim (leb_tells (half * 2) (last * 2 + 1)) [
      | inl below ↦
          le-leb (half * 2 + 1) (last * 2 + 1) (omega (arith, below.1)) ∙ sym below.0
      | inr above ↦
          lt-leb (half * 2 + 1) (last * 2 + 1) (omega (arith, above.1)) ∙ sym above.0
    ]

-- so it holds both or none
whole_words : (first last half : ℕ)
    → (nat_le (first * 2) (half * 2 + 1) && nat_le (half * 2 + 1) (last * 2 + 1))
    ≡ (nat_le (first * 2) (half * 2) && nat_le (half * 2) (last * 2 + 1))
whole_words first last half =
    ap (λ above. above && nat_le (half * 2 + 1) (last * 2 + 1)) (even_first first half)
    ∙ ap (λ below. nat_le (first * 2) (half * 2) && below) (odd_last last half)

-- whether a place takes writes, by the ranges in which it lies
abbrev takes_by : Bool → Bool → Bool → Bool → Bool
takes_by ram program flag_word stack = ((ram || program) && not flag_word) || stack

-- the two bytes of a word take writes alike
pub takes_write-word : (half : ℕ) → takes_write (half * 2 + 1) ≡ takes_write (half * 2)
takes_write-word half =
    let low : ℕ = half * 2 in
    let high : ℕ = half * 2 + 1 in
    ap
    (λ ram. takes_by ram (is_program high) (is_flag_word high) (lies_in stack_region high))
    (whole_words 0x0100 0x10FF half)
    ∙ ap
    (λ program.
    takes_by (lies_in ram_region low) program (is_flag_word high) (lies_in stack_region high))
    (whole_words 0x6000 0x7FFF half)
    ∙ ap
    (λ flag_word.
    takes_by (lies_in ram_region low) (is_program low) flag_word (lies_in stack_region high))
    (whole_words 0x0134 0x0135 half)
    ∙ ap
    (λ stack. takes_by (lies_in ram_region low) (is_program low) (is_flag_word low) stack)
    (whole_words 0x2000 0x21FF half)

-- a write to a place that takes none changes nothing
pub byte_at-refused :
    (start : PowerOn) (flags : ShownFlags) (writes : List MemoryWrite) (write : MemoryWrite)
    (place : ℕ)
    → takes_write write.place ≡ false
    → byte_at start flags (write ∷ writes) place ≡ byte_at start flags writes place
byte_at-refused start flags writes write place refuses =
    let first : ℕ = first_byte start place in
    let fallback : ℕ = fixed_byte start flags place in
    elim (eqb_tells write.place place) [
      | inl same ↦
          let here : takes_write place ≡ false = ap takes_write (sym same.1) ∙ refuses in
          ap (λ takes. if takes then last_written (write ∷ writes) place first else fallback) here
          ∙ sym (ap (λ takes. if takes then last_written writes place first else fallback) here)
      | inr other ↦
          ap (λ same.
          if takes_write place
          then (if same then write.byte else last_written writes place first)
          else fallback)
          other.0
    ]

-- a write to a place that takes it shows there, and nowhere else
pub byte_at-taken :
    (start : PowerOn) (flags : ShownFlags) (writes : List MemoryWrite) (xs : List ℕ)
    (here byte place : ℕ)
    → takes_write here ≡ true
    → here < length xs
    → get_or xs place 0 ≡ byte_at start flags writes place
    → get_or (set xs here byte) place 0
    ≡ byte_at start flags (record { place = here; byte = byte } ∷ writes) place
byte_at-taken start flags writes xs here byte place takes within before =
    let first : ℕ = first_byte start place in
    let fallback : ℕ = fixed_byte start flags place in
    elim (eqb_tells here place) [
      | inl same ↦
          rw (← same.1)
          (get_or-set_same xs here byte 0 within
          ∙ sym (ap (λ same.
          if same then byte else last_written writes here (first_byte start here))
          (eq-eqb here here refl))
          ∙ sym (ap (λ takes.
          if takes
          then last_written (record { place = here; byte = byte } ∷ writes) here
          (first_byte start here)
          else fixed_byte start flags here)
          takes))
      | inr other ↦
          get_or-set_other xs here place byte 0 (λ same. other.1 (sym same))
          ∙ before
          ∙ sym (ap (λ same.
          if takes_write place
          then (if same then byte else last_written writes place first)
          else fallback)
          other.0)
    ]

-- a memory of all places, after both bytes of a word were written
pub word_taken :
    (start : PowerOn) (flags : ShownFlags) (writes : List MemoryWrite) (xs : List ℕ)
    (half low high : ℕ)
    → takes_write (half * 2) ≡ true
    → length xs ≡ 65536
    → half * 2 + 1 < 65536
    → ((place : ℕ) → place < 65536 → get_or xs place 0 ≡ byte_at start flags writes place)
    → (place : ℕ) → place < 65536
    → get_or (set (set xs (half * 2) low) (half * 2 + 1) high) place 0
    ≡ byte_at start flags
    (record { place = half * 2 + 1; byte = high }
    ∷ record { place = half * 2; byte = low }
    ∷ writes) place
word_taken start flags writes xs half low high takes whole within before place inside =
    let size : length (set xs (half * 2) low) ≡ 65536 = length-set xs (half * 2) low ∙ whole in
    byte_at-taken start flags (record { place = half * 2; byte = low } ∷ writes)
    (set xs (half * 2) low) (half * 2 + 1) high place
    (takes_write-word half ∙ takes) (omega (arith, size, within))
    (byte_at-taken start flags writes xs (half * 2) low place
    takes (omega (arith, whole, within)) (before place inside))

-- and after a word was refused
pub word_refused :
    (start : PowerOn) (flags : ShownFlags) (writes : List MemoryWrite) (half low high place : ℕ)
    → takes_write (half * 2) ≡ false
    → byte_at start flags
    (record { place = half * 2 + 1; byte = high }
    ∷ record { place = half * 2; byte = low }
    ∷ writes) place
    ≡ byte_at start flags writes place
word_refused start flags writes half low high place refuses =
    byte_at-refused start flags (record { place = half * 2; byte = low } ∷ writes)
    (record { place = half * 2 + 1; byte = high }) place (takes_write-word half ∙ refuses)
    ∙ byte_at-refused start flags writes (record { place = half * 2; byte = low }) place refuses
