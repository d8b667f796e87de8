-- The actions that let a device go on: `c`, `s`, the same with a signal, and `r` of `vCont`.
use Rattle.std.specs.{Prelude.{ℕ, ◌==◌, ◌&&◌, ◌||◌, Bool, List, Option, Some, None, codes, drop, is_some, length, take, if◌then◌else◌}, Str.bytes_eq, List.before_first}
use Rattle.debug_session.specs.{Number.{number_of, two_numbers}, declared.command.{Command.{Command, TheVariants.{Go, Refused}}, Going.{Going, TheVariants.{On, Step, Range}}, Way.TheVariants.Ahead}}

-- what stands behind this beginning, where a body begins so
abbrev pub rest_behind : List ℕ → List ℕ → Option (List ℕ)
rest_behind beginning body =
    if bytes_eq (take (length beginning) body) beginning
    then Some (drop (length beginning) body) else None

-- a signal has two digits, and is passed over
abbrev pub is_signal : List ℕ → Bool
is_signal digits = (length digits == 2) && is_some (number_of digits)

abbrev pub going_with_signal : Going → List ℕ → Command
going_with_signal going digits = if is_signal digits then Go Ahead going else Refused

-- an action, what comes behind its letter, and what another letter asks for
abbrev pub signalled_or : Going → Option (List ℕ) → Command → Command
signalled_or going None other = other
signalled_or going (Some digits) other = going_with_signal going digits

abbrev pub signalled_action : List ℕ → Command
signalled_action action =
    signalled_or On (rest_behind (codes "C") action)
    (signalled_or Step (rest_behind (codes "S") action) Refused)

abbrev pub action_of : List ℕ → Command
action_of action =
    if bytes_eq action (codes "c") then Go Ahead On
    else if bytes_eq action (codes "s") then Go Ahead Step
    else signalled_action action

abbrev pub range_command : Option (ℕ × ℕ) → Command
range_command None = Refused
range_command (Some numbers) = Go Ahead (Range numbers.0 numbers.1)

abbrev pub range_or_action : List ℕ → Option (List ℕ) → Command
range_or_action action None = action_of action
range_or_action action (Some range) = range_command (two_numbers range)

-- the first action counts, up to `:` (58) or `;` (59)
abbrev pub ends_action : ℕ → Bool
ends_action byte = (byte == 58) || (byte == 59)

abbrev pub first_action : List ℕ → Command
first_action text =
    let action : List ℕ = before_first ends_action text in
    range_or_action action (rest_behind (codes "r") action)
