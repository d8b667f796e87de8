-- What the body of a packet asks for, in the words of GDB's remote serial protocol.
use Rattle.std.specs.{Prelude.{ℕ, ◌==◌, Bool, true, false, List, [], ◌∷◌, Option, Some, None, codes, nat_eq, nat_lt, if◌then◌else◌}, Str.bytes_eq, List.{list_any, starts_with}}
use Rattle.debug_session.specs.{declared.{stop_change.StopChange.TheVariants.{SetBreakpoint, ClearBreakpoint, SetWatch, ClearWatch}, watch.{Watch.Watch, WatchKind.WatchKind}, command.{Command.{Command, TheVariants.{Supported, LastStop, Attached, Registers, Memory, Change, Actions, Go, Monitor, Detach, Kill, Refused, Unknown}}, Way.TheVariants.Back}, request.Request.Request}, Action.{action_of, rest_behind, first_action}, Number.{before_comma, behind_comma, number_of, two_numbers}, Request.request_in}
use Rattle.debug_session.specs.declared.watch.WatchKind.TheVariants as watch
use Rattle.debug_session.specs.declared.command.Going.TheVariants as going

-- `m`: so many bytes from an address on
abbrev pub memory_command : Option (ℕ × ℕ) → Command
memory_command None = Refused
memory_command (Some numbers) = Memory numbers.0 numbers.1

-- `Z` and `z`, with a kind, a place and a size: breakpoints are of kinds 0 and 1, watches of 2 to 4
abbrev pub breakpoint_command : Bool → ℕ → Command
breakpoint_command true place = Change (SetBreakpoint place)
breakpoint_command false place = Change (ClearBreakpoint place)

abbrev pub watch_command : Bool → Watch → Command
watch_command sets one =
    if one.size == 0 then Refused else Change (if sets then SetWatch one else ClearWatch one)

abbrev pub watch_kind_of : ℕ → WatchKind
watch_kind_of kind =
    if kind == 2 then watch.Write else if kind == 3 then watch.Read else watch.Either

abbrev pub stop_numbered : Bool → ℕ → ℕ → ℕ → Command
stop_numbered sets kind place size =
    if nat_lt 4 kind then Unknown
    else if nat_lt 0xFFFF place then Refused
    else if nat_lt kind 2 then breakpoint_command sets place
    else watch_command sets (record { kind = watch_kind_of kind; first = place; size = size })

abbrev pub stop_where : Bool → Option ℕ → Option (ℕ × ℕ) → Command
stop_where sets (Some kind) (Some numbers) = stop_numbered sets kind numbers.0 numbers.1
stop_where sets kind numbers = Refused

abbrev pub stop_command : Bool → List ℕ → Command
stop_command sets text =
    stop_where sets (number_of (before_comma text)) (two_numbers (behind_comma text))

-- `qRcmd`
abbrev pub monitor_command : Option Request → Command
monitor_command None = Refused
monitor_command (Some request) = Monitor request

-- a packet that is one word; behind `qSupported` stands what GDB supports
abbrev pub word_command : List ℕ → Option Command
word_command body =
    if bytes_eq body (codes "?") then Some LastStop
    else if bytes_eq body (codes "g") then Some Registers
    else if bytes_eq body (codes "bs") then Some (Go Back going.Step)
    else if bytes_eq body (codes "bc") then Some (Go Back going.On)
    else if bytes_eq body (codes "D") then Some Detach
    else if bytes_eq body (codes "k") then Some Kill
    else if bytes_eq body (codes "vCont?") then Some Actions
    else if bytes_eq body (codes "qAttached") then Some Attached
    else if starts_with nat_eq body (codes "qSupported") then Some Supported
    else None

-- what goes on without `vCont`, and what would write
abbrev pub begins_with_any : List ℕ → List ℕ → Bool
begins_with_any letters [] = false
begins_with_any letters (first ∷ body) = list_any (λ letter. letter == first) letters

abbrev pub other_command : List ℕ → Command
other_command body =
    if begins_with_any (codes "csCS") body then action_of body
    else if begins_with_any (codes "GPM") body then Refused
    else Unknown

-- the first of some beginnings that a body has decides
abbrev pub command_behind : Option (List ℕ) → (List ℕ → Command) → Command → Command
command_behind None command other = other
command_behind (Some rest) command other = command rest

abbrev pub begun_command : List ℕ → Command
begun_command body =
    command_behind (rest_behind (codes "m") body) (λ rest. memory_command (two_numbers rest))
    (command_behind (rest_behind (codes "Z") body) (λ rest. stop_command true rest)
    (command_behind (rest_behind (codes "z") body) (λ rest. stop_command false rest)
    (command_behind (rest_behind (codes "vCont;") body) (λ rest. first_action rest)
    (command_behind (rest_behind (codes "qRcmd,") body) (λ rest. monitor_command (request_in rest))
    (other_command body)))))

abbrev pub command_or : Option Command → Command → Command
command_or None other = other
command_or (Some command) other = command

abbrev pub command_of : List ℕ → Command
command_of body = command_or (word_command body) (begun_command body)
