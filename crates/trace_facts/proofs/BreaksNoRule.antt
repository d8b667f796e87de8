-- What a step breaks, by its first rule: no rule where it has none, A1 or K3 where that is it.
use Rattle.std.{proofs.{Common.{◌≡◌, ℕ, Bool, true, false, ◌⊎◌, inl, inr, Option, Some, None, refl, arith}, lemmas.Bool.Decides.nat_tests}, specs.{Prelude.if◌then◌else◌, Option.option_or}}
use Rattle.device_types.specs.{declared.{rule.Rule.{Rule, TheVariants.{X0, A1, A2, A3, A4, K1, K2, K3, K4, K5, K6, I1}}, signals.Signals.Signals}}
use Rattle.part_definitions.specs.{FirstRule.{breaks_i1, rule_where, first_rule}, MonitorRule.{breaks_a1, breaks_a2, breaks_a3, breaks_a4, breaks_k1, breaks_k2, breaks_k3, breaks_k4, breaks_k5, breaks_k6, key_rule, atomicity_rule}}

pub record BreaksNoKeyRule (now : Signals) : Type 0 where
  pub k1 : breaks_k1 now ≡ false
  pub k2 : breaks_k2 now ≡ false
  pub k3 : breaks_k3 now ≡ false
  pub k4 : breaks_k4 now ≡ false
  pub k5 : breaks_k5 now ≡ false
  pub k6 : breaks_k6 now ≡ false

pub record BreaksNoAtomicity (last : Option ℕ) (now : Signals) : Type 0 where
  pub a3 : breaks_a3 now ≡ false
  pub a2 : breaks_a2 last now ≡ false
  pub a1 : breaks_a1 last now ≡ false
  pub a4 : breaks_a4 now ≡ false

pub record BreaksNoRule (last : Option ℕ) (now : Signals) : Type 0 where
  pub x0 : now.script_reset ≡ false
  pub atomicity : BreaksNoAtomicity last now
  pub key : BreaksNoKeyRule now
  pub i1 : breaks_i1 now ≡ false

if_none : (test : Bool) (rule : Rule) (rest : Option Rule)
    → (if test then Some rule else rest) ≡ None → (test ≡ false) × (rest ≡ None)
if_none true rule rest none = absurd (cc)
if_none false rule rest none = (refl, none)

or_else_none : (first second : Option Rule) → option_or first second ≡ None
    → (first ≡ None) × (second ≡ None)
or_else_none None second none = (refl, none)
or_else_none (Some rule) second none = absurd (cc)

pub key_rule-none : (now : Signals) → key_rule now ≡ None → BreaksNoKeyRule now
unfolding key_rule
key_rule-none now none =
    let k1 = if_none (breaks_k1 now) K1 _ none in
    let k2 = if_none (breaks_k2 now) K2 _ k1.1 in
    let k3 = if_none (breaks_k3 now) K3 _ k2.1 in
    let k4 = if_none (breaks_k4 now) K4 _ k3.1 in
    let k5 = if_none (breaks_k5 now) K5 _ k4.1 in
    let k6 = if_none (breaks_k6 now) K6 _ k5.1 in
    record { k1 = k1.0; k2 = k2.0; k3 = k3.0; k4 = k4.0; k5 = k5.0; k6 = k6.0 }

pub atomicity_rule-none : (last : Option ℕ) (now : Signals) → atomicity_rule last now ≡ None
    → BreaksNoAtomicity last now
unfolding atomicity_rule
atomicity_rule-none last now none =
    let a3 = if_none (breaks_a3 now) A3 _ none in
    let a2 = if_none (breaks_a2 last now) A2 _ a3.1 in
    let a1 = if_none (breaks_a1 last now) A1 _ a2.1 in
    let a4 = if_none (breaks_a4 now) A4 _ a1.1 in
    record { a3 = a3.0; a2 = a2.0; a1 = a1.0; a4 = a4.0 }

pub first_rule-none : (last : Option ℕ) (now : Signals) → first_rule last now ≡ None
    → BreaksNoRule last now
unfolding first_rule
first_rule-none last now none =
    let x0 = or_else_none (rule_where now.script_reset X0) _ none in
    let atomicity = or_else_none (atomicity_rule last now) _ x0.1 in
    let key = or_else_none (key_rule now) (rule_where (breaks_i1 now) I1) atomicity.1 in
    record {
      x0 = (if_none now.script_reset X0 None x0.0).0;
      atomicity = atomicity_rule-none last now atomicity.0;
      key = key_rule-none now key.0;
      i1 = (if_none (breaks_i1 now) I1 None key.1).0;
    }

-- which rule a chain of tests names
names_a1 : (a3 a2 a1 a4 : Bool)
    → (if a3 then Some A3 else if a2 then Some A2 else if a1 then Some A1
    else if a4 then Some A4 else None) ≡ Some A1
    → a1 ≡ true
names_a1 a3 a2 a1 a4 name = grind (arith, nat_tests)

names_no_k3 : (a3 a2 a1 a4 : Bool)
    → (if a3 then Some A3 else if a2 then Some A2 else if a1 then Some A1
    else if a4 then Some A4 else None) ≡ Some K3 → ⊥
names_no_k3 a3 a2 a1 a4 name = grind (arith, nat_tests)

abbrev key_chain : Bool → Bool → Bool → Bool → Bool → Bool → Option Rule
key_chain k1 k2 k3 k4 k5 k6 =
    if k1 then Some K1
    else if k2 then Some K2
    else if k3 then Some K3
    else if k4 then Some K4
    else if k5 then Some K5
    else if k6 then Some K6
    else None

names_k3 : (k1 k2 k3 k4 k5 k6 : Bool) → key_chain k1 k2 k3 k4 k5 k6 ≡ Some K3 → k3 ≡ true
names_k3 k1 k2 k3 k4 k5 k6 name = grind (arith, nat_tests)

names_no_a1 : (k1 k2 k3 k4 k5 k6 : Bool) → key_chain k1 k2 k3 k4 k5 k6 ≡ Some A1 → ⊥
names_no_a1 k1 k2 k3 k4 k5 k6 name = grind (arith, nat_tests)

or_else-some : (first second : Option Rule) (rule : Rule)
    → option_or first second ≡ Some rule
    → (first ≡ Some rule) ⊎ ((first ≡ None) × (second ≡ Some rule))
or_else-some None second rule name = inr (refl, name)
or_else-some (Some earlier) second rule name = inl name

other_rule : (test : Bool) (name other : Rule) → rule_where test name ≡ Some other → name ≡ other
other_rule true name other is = cc
other_rule false name other is = absurd (cc)

-- a first rule that is neither X0 nor I1
first_rule-in : (last : Option ℕ) (now : Signals) (rule : Rule)
    → (X0 ≡ rule → ⊥)
    → (I1 ≡ rule → ⊥)
    → first_rule last now ≡ Some rule
    → (atomicity_rule last now ≡ Some rule)
    ⊎ ((atomicity_rule last now ≡ None) × (key_rule now ≡ Some rule))
unfolding first_rule
first_rule-in last now rule no_x0 no_i1 name =
    elim (or_else-some (rule_where now.script_reset X0) _ rule name) [
      | inl x0 ↦ absurd (no_x0 (other_rule now.script_reset X0 rule x0))
      | inr later ↦
          elim (or_else-some (atomicity_rule last now) _ rule later.1) [
            | inl atomicity ↦ inl atomicity
            | inr rest ↦
                elim (or_else-some (key_rule now) (rule_where (breaks_i1 now) I1) rule rest.1) [
                  | inl key ↦ inr (rest.0, key)
                  | inr i1 ↦ absurd (no_i1 (other_rule (breaks_i1 now) I1 rule i1.1))
                ]
          ]
    ]

-- where the first rule is A1 or K3, its test holds, and the earlier rules of the ROM's entry do not
pub first_rule-a1 : (last : Option ℕ) (now : Signals) → first_rule last now ≡ Some A1
    → breaks_a1 last now ≡ true
unfolding atomicity_rule key_rule
first_rule-a1 last now name =
    elim (first_rule-in last now A1 (λ same. cc) (λ same. cc) name) [
      | inl atomicity ↦
          names_a1 (breaks_a3 now) (breaks_a2 last now) (breaks_a1 last now) (breaks_a4 now)
          atomicity
      | inr key ↦
          absurd (names_no_a1 (breaks_k1 now) (breaks_k2 now) (breaks_k3 now) (breaks_k4 now)
          (breaks_k5 now) (breaks_k6 now) key.1)
    ]

pub first_rule-k3 : (last : Option ℕ) (now : Signals)
    → first_rule last now ≡ Some K3 → (atomicity_rule last now ≡ None) × (breaks_k3 now ≡ true)
unfolding atomicity_rule key_rule
first_rule-k3 last now name =
    elim (first_rule-in last now K3 (λ same. cc) (λ same. cc) name) [
      | inl atomicity ↦
          absurd (names_no_k3 (breaks_a3 now) (breaks_a2 last now) (breaks_a1 last now)
          (breaks_a4 now) atomicity)
      | inr key ↦ (
        key.0,
        names_k3 (breaks_k1 now) (breaks_k2 now) (breaks_k3 now) (breaks_k4 now) (breaks_k5 now)
            (breaks_k6 now) key.1,
      )
    ]
