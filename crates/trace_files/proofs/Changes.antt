-- How a reader takes the changes of a time.
use Rattle.std.{proofs.{Common.{suc, ◌≡◌, ◌∙◌, ℕ, ◌+◌, Bool, true, false, List, [], ◌∷◌, ◌++◌, Option, Some, append_assoc, eqb-true, flat_map, length, option_map, refl, sym, ap, subst, arith, rules}, lemmas.Bool.and_parts}, specs.{Prelude.{◌==◌, ◌&&◌, codes, if◌then◌else◌}, Bool.MatchBool, Fmt.digits}}
use Rattle.named_value.specs.Names.{is_plain}
use Rattle.trace_files.{specs.{declared.wire.Wire.Wire, Wire.{wires, wire_code}, WaveText.{change_text, digits_text, is_bit}, WaveReader.{WavePoint, with_change, with_value}}, proofs.{Fitting.{IsShort, Suits}, Reading.{Reads, plain_value, reads_both, reads_line, reads_nothing, value_in_digits}, Stages.{are_numbered, kept, replaced, staged}}}
use Rattle.word_arith.specs.Number.{bit_of}

plain-code : (wire : Wire) → is_plain (wire_code wire) ≡ true
plain-code = search rules

plain-after : (wire : Wire) → (is_plain (wire_code wire) && true) ≡ true
plain-after wire = ap (λ (plain : Bool). plain && true) (plain-code wire)

-- the same time with other values
abbrev with_values : WavePoint → List (Option ℕ) → WavePoint
with_values point values = record point { values = values }

changed : (code : ℕ) (value : Option ℕ) (point : WavePoint) (earlier : List WavePoint)
    (values : List (Option ℕ))
    → with_value code value wires point.values ≡ Some values
    → with_change (code ∷ []) (Some value) (point ∷ earlier)
    ≡ Some (with_values point values ∷ earlier)
changed code value point earlier values is =
    ap (option_map (λ (all : List (Option ℕ)). with_values point all ∷ earlier)) is

reads-bit : (wire : Wire) (bit : Bool) (point : WavePoint) (earlier : List WavePoint)
    (values : List (Option ℕ))
    → with_value (wire_code wire) (Some (bit_of bit)) wires point.values ≡ Some values
    → Reads (digits_text (Some (bit_of bit)) ++ wire_code wire ∷ codes "\n") (point ∷ earlier)
    (with_values point values ∷ earlier)
unfolding digits
reads-bit wire true point earlier values is =
    reads_line ((49 ∷ wire_code wire ∷ []) ∷ []) (point ∷ earlier)
    (with_values point values ∷ earlier) ((omega arith, plain-after wire), tt) (omega arith)
    (changed (wire_code wire) (Some 1) point earlier values is)
reads-bit wire false point earlier values is =
    reads_line ((48 ∷ wire_code wire ∷ []) ∷ []) (point ∷ earlier)
    (with_values point values ∷ earlier) ((omega arith, plain-after wire), tt) (omega arith)
    (changed (wire_code wire) (Some 0) point earlier values is)

reads-vector : (wire : Wire) (value : Option ℕ) (point : WavePoint) (earlier : List WavePoint)
    (values : List (Option ℕ))
    → IsShort value
    → with_value (wire_code wire) value wires point.values ≡ Some values
    → Reads (codes "b" ++ digits_text value ++ 32 ∷ wire_code wire ∷ codes "\n") (point ∷ earlier)
    (with_values point values ∷ earlier)
reads-vector wire value point earlier values short is =
    let word : List ℕ = digits_text value in
    let code : List ℕ = wire_code wire ∷ [] in
    let next : List WavePoint = with_values point values ∷ earlier in
    subst (λ (text : List ℕ). Reads (98 ∷ text) (point ∷ earlier) next)
    (append_assoc word (32 ∷ code) (10 ∷ []))
    (reads_line ((98 ∷ word) ∷ code ∷ []) (point ∷ earlier) next
    ((omega arith, plain_value value short), ((omega arith, plain-after wire), tt))
    (omega arith)
    (ap (λ (read : Option (Option ℕ)). with_change code read (point ∷ earlier))
    (value_in_digits value short)
    ∙ changed (wire_code wire) value point earlier values is))

reads-by : (one_bit : Bool) (wire : Wire) (value : Option ℕ) (point : WavePoint)
    (earlier : List WavePoint) (values : List (Option ℕ))
    → MatchBool one_bit ((bit : Bool) × (value ≡ Some (bit_of bit))) (IsShort value)
    → with_value (wire_code wire) value wires point.values ≡ Some values
    → Reads
    (if one_bit then digits_text value ++ wire_code wire ∷ codes "\n"
    else codes "b" ++ digits_text value ++ 32 ∷ wire_code wire ∷ codes "\n")
    (point ∷ earlier) (with_values point values ∷ earlier)
reads-by false wire value point earlier values suits is =
    reads-vector wire value point earlier values suits is
reads-by true wire value point earlier values suits is =
    let same : value ≡ Some (bit_of suits.0) = suits.1 in
    subst
    (λ (shown : Option ℕ). Reads (digits_text shown ++ wire_code wire ∷ codes "\n")
    (point ∷ earlier) (with_values point values ∷ earlier))
    (sym same)
    (reads-bit wire suits.0 point earlier values
    (subst (λ (shown : Option ℕ). with_value (wire_code wire) shown wires point.values
    ≡ Some values) same is))

reads_change : (wire : Wire) (value : Option ℕ) (point : WavePoint) (earlier : List WavePoint)
    (values : List (Option ℕ))
    → Suits wire value
    → with_value (wire_code wire) value wires point.values ≡ Some values
    → Reads (change_text wire value) (point ∷ earlier) (with_values point values ∷ earlier)
reads_change wire value point earlier values suits is =
    reads-by (is_bit wire) wire value point earlier values suits is

-- of each wire the old value or another, and the values that are told
pub record Telling (told : Wire → Bool) (old new : Wire → Option ℕ) : Type 0 where
  pub suits : (wire : Wire) → Suits wire (new wire)
  pub untold : (wire : Wire) → told wire ≡ false → old wire ≡ new wire

abbrev pub told_change : (Wire → Bool) → (Wire → Option ℕ) → Wire → List ℕ
told_change told new wire = if told wire then change_text wire (new wire) else []

abbrev pub stage_at : (Wire → Option ℕ) → (Wire → Option ℕ) → ℕ → ℕ → WavePoint
stage_at old new time code = record { time = time; values = staged old new code }

reads-told : (told : Wire → Bool) (old new : Wire → Option ℕ) → Telling told old new
    → (time : ℕ) (earlier : List WavePoint) (wire : Wire) (is_told : Bool) → told wire ≡ is_told
    → Reads (if is_told then change_text wire (new wire) else [])
    (stage_at old new time (wire_code wire) ∷ earlier)
    (stage_at old new time (suc (wire_code wire)) ∷ earlier)
reads-told told old new telling time earlier wire true is =
    reads_change wire (new wire) (stage_at old new time (wire_code wire)) earlier
    (staged old new (suc (wire_code wire))) (telling.suits wire) (replaced old new wire)
reads-told told old new telling time earlier wire false is =
    subst
    (λ (values : List (Option ℕ)). Reads [] (stage_at old new time (wire_code wire) ∷ earlier)
    (record { time = time; values = values } ∷ earlier))
    (kept old new wire (telling.untold wire is))
    (reads_nothing (stage_at old new time (wire_code wire) ∷ earlier))

pub reads_changes : (told : Wire → Bool) (old new : Wire → Option ℕ) → Telling told old new
    → (time : ℕ) (earlier : List WavePoint) (ws : List Wire) (code last : ℕ)
    → are_numbered code ws ≡ true → code + length ws ≡ last
    → Reads (flat_map (told_change told new) ws) (stage_at old new time code ∷ earlier)
    (stage_at old new time last ∷ earlier)
reads_changes told old new telling time earlier [] code last numbered count =
    let same : code ≡ last = omega (arith, count) in
    subst
    (λ (end : ℕ). Reads [] (stage_at old new time code ∷ earlier)
    (stage_at old new time end ∷ earlier))
    same (reads_nothing (stage_at old new time code ∷ earlier))
reads_changes told old new telling time earlier (wire ∷ ws) code last numbered count =
    let both = and_parts (wire_code wire == code) (are_numbered (suc code) ws) numbered in
    let first : wire_code wire ≡ code = eqb-true (wire_code wire) code both.0 in
    reads_both (told_change told new wire) (flat_map (told_change told new) ws)
    (stage_at old new time code ∷ earlier) (stage_at old new time (suc code) ∷ earlier)
    (stage_at old new time last ∷ earlier)
    (subst
    (λ (from : ℕ). Reads (told_change told new wire) (stage_at old new time from ∷ earlier)
    (stage_at old new time (suc from) ∷ earlier))
    first (reads-told told old new telling time earlier wire (told wire) refl))
    (reads_changes told old new telling time earlier ws (suc code) last both.1
    (omega (arith, count)))
