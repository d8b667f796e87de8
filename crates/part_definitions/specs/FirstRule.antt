-- The rule that a step breaks: the first in the order in which records name them.
use Rattle.std.specs.{Prelude.{◌&&◌, Bool, Option, Some, None, if◌then◌else◌}, Option.option_or}
use Rattle.device_types.specs.{declared.{rule.Rule.{Rule, TheVariants.{X0, I1}}, signals.Signals.Signals}, Address.Address}
use Rattle.part_definitions.specs.{NextAccess.is_illegal, MonitorRule.{key_rule, atomicity_rule}}

-- I1: an opcode fetch reads an illegal word
abbrev pub breaks_i1 : Signals → Bool
breaks_i1 now = now.opcode && is_illegal now.word

abbrev pub rule_where : Bool → Rule → Option Rule
rule_where holds rule = if holds then Some rule else None

-- X0, then those of a call of the ROM, then those of its secrets, then I1; of the record before,
-- its `pc` is given
unfoldable pub first_rule : Option Address → Signals → Option Rule
first_rule last now =
    option_or (rule_where now.script_reset X0)
    (option_or (atomicity_rule last now)
    (option_or (key_rule now) (rule_where (breaks_i1 now) I1)))
