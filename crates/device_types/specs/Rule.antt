-- The names of rules, as the program prints them.
use Rattle.std.specs.Prelude.{[], ◌∷◌, codes}
use Rattle.device_types.specs.{declared.rule.Rule.{Rule, TheVariants.{X0, A1, A2, A3, A4, K1, K2, K3, K4, K5, K6, I1}}, Address.Bytes}
use Rattle.named_value.specs.Names.{Names}

abbrev pub rule_name : Rule → Bytes
rule_name X0 = codes "X0"
rule_name A1 = codes "A1"
rule_name A2 = codes "A2"
rule_name A3 = codes "A3"
rule_name A4 = codes "A4"
rule_name K1 = codes "K1"
rule_name K2 = codes "K2"
rule_name K3 = codes "K3"
rule_name K4 = codes "K4"
rule_name K5 = codes "K5"
rule_name K6 = codes "K6"
rule_name I1 = codes "I1"

abbrev pub rule_names : Names Rule
rule_names = record {
  values = X0 ∷ A1 ∷ A2 ∷ A3 ∷ A4 ∷ K1 ∷ K2 ∷ K3 ∷ K4 ∷ K5 ∷ K6 ∷ I1 ∷ [];
  name = rule_name;
}
