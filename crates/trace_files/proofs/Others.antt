-- The other wires apart from those of the line.
use Rattle.std.{proofs.{Common.{◌≡◌, ◌∙◌, ℕ, ◌+◌, ◌<◌, ◌++◌, ◌||◌, Bool, false, List, [], ◌∷◌, Some, Option, eq-eqb, flat_map, take, drop, get_or, refl, sym, ap, arith}, lemmas.{Bool.or_parts, Grind.get_or_after_one, List.{get_or-take, Folds.list_any-append, Concat.flat_map-append}}}, specs.{Prelude.{not, slice_index, if◌then◌else◌}, List.list_any}}
use Rattle.trace_files.specs.{declared.{sample.Sample.Sample, wire.Wire.Wire}, Wire.{line_wires, other_wires, register_wires, wires}, WireValue.{is_same_value, register_value, wire_value}, WaveText.{change_of, change_text, is_any_told, is_told, wires_text}}

pub text_in_two : (last : Option Sample) (now : Sample)
    → wires_text last now wires
    ≡ wires_text last now line_wires ++ wires_text last now other_wires
unfolding wires_text
text_in_two last now = flat_map-append (change_of last now) line_wires other_wires

pub any_in_two : (last : Option Sample) (now : Sample)
    → is_any_told last now wires
    ≡ (is_any_told last now line_wires || is_any_told last now other_wires)
unfolding is_any_told
any_in_two last now = list_any-append (is_told last now) line_wires other_wires

-- wires of which neither part is told
pub untold_both : (last : Option Sample) (now : Sample) (front back : List Wire)
    → is_any_told last now front ≡ false
    → is_any_told last now back ≡ false
    → is_any_told last now (front ++ back) ≡ false
unfolding is_any_told
untold_both last now front back none_before none_behind =
    rw (list_any-append (is_told last now) front back, none_before, none_behind) refl

-- the same registers tell nothing, whatever PC is

none_of_any : (told : Wire → Bool) (text : Wire → List ℕ) (ws : List Wire)
    → list_any told ws ≡ false
    → flat_map (λ wire. if told wire then text wire else []) ws ≡ []
none_of_any told text [] none = refl
none_of_any told text (wire ∷ ws) none =
    let both = or_parts (told wire) (list_any told ws) none in
    rw both.0 (none_of_any told text ws both.1)

pub untold_text : (last : Option Sample) (now : Sample) (ws : List Wire)
    → is_any_told last now ws ≡ false → wires_text last now ws ≡ []
unfolding is_any_told wires_text
untold_text last now ws none =
    none_of_any (is_told last now) (λ wire. change_text wire (wire_value wire now)) ws none

-- R1 to R15
abbrev pub registers_but_pc : Sample → List ℕ
registers_but_pc sample = take 15 (drop 1 sample.state.registers)

register-at : (sample : Sample) (number : ℕ) → number < 15
    → get_or (registers_but_pc sample) number 0 ≡ slice_index sample.state.registers (1 + number)
register-at sample number within =
    get_or-take 15 (drop 1 sample.state.registers) number 0 within
    ∙ get_or_after_one sample.state.registers number 0

untold-register : (last now : Sample) → registers_but_pc last ≡ registers_but_pc now
    → (number : ℕ) → number < 15
    → not (is_same_value (register_value (1 + number) last) (register_value (1 + number) now))
    ≡ false
untold-register last now same number within =
    ap not (eq-eqb (slice_index last.state.registers (1 + number))
    (slice_index now.state.registers (1 + number))
    (sym (register-at last number within)
    ∙ ap (λ (registers : List ℕ). get_or registers number 0) same
    ∙ register-at now number within))

pub untold_registers : (last now : Sample) → registers_but_pc last ≡ registers_but_pc now
    → is_any_told (Some last) now register_wires ≡ false
unfolding is_any_told
untold_registers last now same =
    let untold = untold-register last now same in
    rw (
      untold 0 (omega arith),
      untold 1 (omega arith),
      untold 3 (omega arith),
      untold 4 (omega arith),
      untold 5 (omega arith),
      untold 6 (omega arith),
      untold 7 (omega arith),
      untold 8 (omega arith),
      untold 9 (omega arith),
      untold 10 (omega arith),
      untold 11 (omega arith),
      untold 12 (omega arith),
      untold 13 (omega arith),
      untold 14 (omega arith),
    ) refl
