-- What a debugger reads of a place, which is a number of steps.
use Rattle.std.specs.Prelude.{ℕ, Bool, List, Option}
use Rattle.device_types.specs.{declared.{kind.Kind.Kind, rule.Rule.Rule}}
use Rattle.part_definitions.specs.CpuRegister.{Registers}
use Rattle.debug_session.specs.{declared.watch.{Hit.Hit, Watch.Watch}}

-- of the step that the device makes there next, and which of some watches it hits
pub record StepSight : Type 0 where
  pub kind : Kind
  pub refused : Option Rule
  pub hits : List Watch → List Hit
  pub lines : List ℕ
  pub trace_line : List ℕ

-- of the device there, and of its next step; a secret byte has none
pub record Sight : Type 0 where
  pub boundary : Bool
  pub registers : Registers
  pub level : ℕ
  pub exec : Bool
  pub aux : Bool
  pub byte_at : ℕ → Option ℕ
  pub end_line : List ℕ
  pub next : StepSight

-- of each place
abbrev pub View : Type 0
View = ℕ → Sight
