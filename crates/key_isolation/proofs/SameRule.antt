-- The rules see what a step is about to do but for the number that a write carries, and a fetched
-- word only where no key rule is broken.
use Rattle.std.{proofs.Common.{arith, ◌≡◌, ℕ, Bool, true, false, Option, Some, None, refl, ap, sym, ◌∙◌}, specs.{Prelude.◌&&◌, Option.option_or}}
use Rattle.device_types.specs.{declared.{access.Access.Access, rule.Rule.{Rule, TheVariants.{X0, I1}}, signals.Signals.Signals}, Access.without_number}
use Rattle.part_definitions.specs.{FirstRule.{rule_where, first_rule}, NextAccess.is_illegal, MonitorRule.{key_rule, atomicity_rule}}

pub record SameSignals (view real : Signals) : Type 0 where
  pub kind : view.kind ≡ real.kind
  pub pc : view.pc ≡ real.pc
  pub shape : without_number view.cpu ≡ without_number real.cpu
  pub dma : view.dma ≡ real.dma
  pub irq : view.irq ≡ real.irq
  pub opcode : view.opcode ≡ real.opcode
  pub script_reset : view.script_reset ≡ real.script_reset
  pub word : key_rule real ≡ None → real.opcode ≡ true → view.word ≡ real.word

abbrev with_cpu : Signals → Option Access → Signals
with_cpu now cpu = record now { cpu = cpu; word = 0 }

key_rule-shape : (now : Signals) (cpu : Option Access)
    → key_rule (with_cpu now (without_number cpu)) ≡ key_rule (with_cpu now cpu)
unfolding key_rule
key_rule-shape now cpu = grind arith

atomicity_rule-shape : (last : Option ℕ) (now : Signals) (cpu : Option Access)
    → atomicity_rule last (with_cpu now (without_number cpu))
    ≡ atomicity_rule last (with_cpu now cpu)
unfolding atomicity_rule
atomicity_rule-shape last now cpu = grind arith

key_rule-word : (now : Signals) → key_rule (with_cpu now now.cpu) ≡ key_rule now
unfolding key_rule
key_rule-word now = refl

atomicity_rule-word : (last : Option ℕ) (now : Signals)
    → atomicity_rule last (with_cpu now now.cpu) ≡ atomicity_rule last now
unfolding atomicity_rule
atomicity_rule-word last now = refl

-- what both rules see
abbrev shape : Signals → Signals
shape now = with_cpu now (without_number now.cpu)

same_shape : (view real : Signals) → SameSignals view real → shape view ≡ shape real
same_shape view real same =
    λ i. record {
      kind = same.kind i;
      pc = same.pc i;
      cpu = same.shape i;
      dma = same.dma i;
      irq = same.irq i;
      word = 0;
      opcode = same.opcode i;
      script_reset = same.script_reset i;
    }

pub key_rule-same : (view real : Signals) → SameSignals view real → key_rule view ≡ key_rule real
key_rule-same view real same =
    sym (key_rule-shape view view.cpu ∙ key_rule-word view)
    ∙ (ap key_rule (same_shape view real same)
    ∙ (key_rule-shape real real.cpu ∙ key_rule-word real))

atomicity_rule-same : (last : Option ℕ) (view real : Signals)
    → SameSignals view real → atomicity_rule last view ≡ atomicity_rule last real
atomicity_rule-same last view real same =
    sym (atomicity_rule-shape last view view.cpu ∙ atomicity_rule-word last view)
    ∙ (ap (atomicity_rule last) (same_shape view real same)
    ∙ (atomicity_rule-shape last real real.cpu ∙ atomicity_rule-word last real))

-- an illegal word counts where no key rule is broken
illegal-same : (rule : Option Rule) (opcode : Bool) (word word' : ℕ)
    → (rule ≡ None → opcode ≡ true → word' ≡ word)
    → option_or rule (rule_where (opcode && is_illegal word') I1)
    ≡ option_or rule (rule_where (opcode && is_illegal word) I1)
illegal-same None true word word' same =
    ap (λ (w : ℕ). rule_where (is_illegal w) I1) (same refl refl)
illegal-same None false word word' same = refl
illegal-same (Some rule) opcode word word' same = refl

pub first_rule-same : (last : Option ℕ) (view real : Signals)
    → SameSignals view real → first_rule last view ≡ first_rule last real
unfolding first_rule
first_rule-same last view real same =
    let rest = (λ i. option_or (key_rule-same view real same i)
    (rule_where (same.opcode i && is_illegal view.word) I1))
    ∙ illegal-same (key_rule real) real.opcode real.word view.word same.word in
    λ i. option_or (rule_where (same.script_reset i) X0)
    (option_or (atomicity_rule-same last view real same i) (rest i))
