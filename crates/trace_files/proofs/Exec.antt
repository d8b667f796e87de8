-- How the flag changes at a record.
use Rattle.std.{proofs.{Common.{◌≡◌, ◌&&◌, ◌||◌, Bool, true, false, not, List, [], ◌∷◌, sym, ◌∙◌, if◌then◌else◌}, Math.Bool.{and-true, and-false, or_comm}}, specs.List.list_any}
use Rattle.device_types.specs.ExecFlag.{SeenRecord, exec, clears, starts_run, last_pc, records_since}

pub exec_cons : (now : SeenRecord) (before : List SeenRecord)
    → exec (now ∷ before) ≡ ((exec before || starts_run now) && not (clears (last_pc before) now))
unfolding exec
exec_cons now before =
    let was_set : Bool = list_any starts_run (records_since clears before) in
    elim (clears (last_pc before) now) as
    (λ is_clear.
    list_any starts_run (if is_clear then [] else now ∷ records_since clears before)
    ≡ ((was_set || starts_run now) && not is_clear)) [
      | true ↦ sym (and-false (was_set || starts_run now))
      | false ↦ or_comm (starts_run now) was_set ∙ sym (and-true (was_set || starts_run now))
    ]
