-- The first line of a list that is not right, and what would be right there.
use Rattle.std.specs.{Prelude.{◌≡◌, ◌↔◌, ℕ, Bool, true, false, not, List, [], ◌∷◌, length, Option, Some, None, if◌then◌else◌}, Str.bytes_eq}
use Rattle.device_types.specs.declared.rule.Rule.{Rule}
use Rattle.trace_files.specs.{LineText.rule_word, declared.{trace_line.TraceLine.TraceLine, offence.Offence.{Offence, TheVariants.{RuleIs, ExecIs}}}, Clean.{right_rule, right_exec, IsClean}}

-- rules are told apart by their words
abbrev pub is_same_rule : Option Rule → Option Rule → Bool
is_same_rule left right = bytes_eq (rule_word left) (rule_word right)

abbrev pub is_same_flag : Bool → Bool → Bool
is_same_flag true flag = flag
is_same_flag false flag = not flag

-- of the rule and EXEC of a line, and the right ones
abbrev pub difference : Option Rule → Bool → Option Rule → Bool → Option Offence
difference rule exec right_rule right_exec =
    if is_same_rule rule right_rule
    then (if is_same_flag exec right_exec then None else Some (ExecIs right_exec))
    else Some (RuleIs right_rule)

-- what is wrong with a line, after these lines
abbrev pub offence_of : List TraceLine → TraceLine → Option Offence
offence_of before line =
    difference line.rule line.exec (right_rule before line) (right_exec (line ∷ before))

-- the first offence, with the number of its step; later ones do not matter
abbrev pub or_first : Option (ℕ × Offence) → ℕ → Option Offence → Option (ℕ × Offence)
or_first (Some first) step offence = Some first
or_first None step None = None
or_first None step (Some offence) = Some (step, offence)

unfoldable pub first_offence : List TraceLine → Option (ℕ × Offence)
first_offence [] = None
first_offence (line ∷ before) =
    or_first (first_offence before) (length before) (offence_of before line)

-- a list has no offence exactly where it is clean
abbrev pub CleanHasNoOffence : Type 0
CleanHasNoOffence = (lines : List TraceLine) → (first_offence lines ≡ None) ↔ IsClean lines
