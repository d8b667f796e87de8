-- What is asked to stop a device: breakpoints, watches, and a number of steps.
use Rattle.std.specs.{Prelude.{ℕ, ◌==◌, ◌&&◌, ◌++◌, Bool, true, false, List, [], ◌∷◌, Option, Some, None, is_none, length, nat_lt, not, if◌then◌else◌}, List.{filter, list_any}}
use Rattle.debug_session.specs.{declared.{stop_change.StopChange.{StopChange, TheVariants.{SetBreakpoint, ClearBreakpoint, SetWatch, ClearWatch}}, watch.{Watch.Watch, WatchKind.{WatchKind, TheVariants.{Write, Read, Either}}}}}

pub record Stops : Type 0 where
  pub breakpoints : List ℕ
  pub watches : List Watch
  pub until : Option ℕ

abbrev pub no_stops : Stops
no_stops = record { breakpoints = []; watches = []; until = None }

-- nothing is asked
abbrev pub is_empty : Stops → Bool
is_empty stops =
    (length stops.breakpoints == 0) && (length stops.watches == 0) && is_none stops.until

-- at most so many are held
abbrev pub MOST_BREAKPOINTS : ℕ
MOST_BREAKPOINTS = 64

abbrev pub MOST_WATCHES : ℕ
MOST_WATCHES = 16

abbrev pub same_kind : WatchKind → WatchKind → Bool
same_kind Write Write = true
same_kind Read Read = true
same_kind Either Either = true
same_kind kind other = false

abbrev pub same_watch : Watch → Watch → Bool
same_watch one other =
    same_kind one.kind other.kind && (one.first == other.first) && (one.size == other.size)

abbrev pub has_breakpoint : Stops → ℕ → Bool
has_breakpoint stops place = list_any (λ one. one == place) stops.breakpoints

abbrev pub has_watch : Stops → Watch → Bool
has_watch stops wanted = list_any (λ one. same_watch one wanted) stops.watches

-- one more, where it is not held already; None where it doesn't fit
abbrev pub with_breakpoint : Stops → ℕ → Option Stops
with_breakpoint stops place =
    if has_breakpoint stops place then Some stops
    else if nat_lt (length stops.breakpoints) MOST_BREAKPOINTS
    then Some (record stops { breakpoints = stops.breakpoints ++ place ∷ [] })
    else None

abbrev pub with_watch : Stops → Watch → Option Stops
with_watch stops wanted =
    if has_watch stops wanted then Some stops
    else if nat_lt (length stops.watches) MOST_WATCHES
    then Some (record stops { watches = stops.watches ++ wanted ∷ [] })
    else None

abbrev pub without_breakpoint : Stops → ℕ → Stops
without_breakpoint stops place =
    record stops { breakpoints = filter (λ one. not (one == place)) stops.breakpoints }

abbrev pub without_watch : Stops → Watch → Stops
without_watch stops unwanted =
    record stops { watches = filter (λ one. not (same_watch one unwanted)) stops.watches }

-- with a breakpoint or a watch more or less, where it fits
abbrev pub with_change : Stops → StopChange → Option Stops
with_change stops (SetBreakpoint place) = with_breakpoint stops place
with_change stops (ClearBreakpoint place) = Some (without_breakpoint stops place)
with_change stops (SetWatch one) = with_watch stops one
with_change stops (ClearWatch one) = Some (without_watch stops one)
