use Rattle.std.proofs.Common.{◌≡◌, ◌&&◌, ◌||◌, ◌∙◌, not, sym, ap}
use Rattle.device_types.specs.ExecFlag.{SeenRecord, starts_run}
use Rattle.execution_flags.proofs.{UnclearedStarts.flag-cons, run_flag.RunFlagTraceFlag.see.Goals.{then-self, else-self, then-starts_run, else-starts_run}}
use Rattle.execution_flags.proofs.run_flag.RunFlagTraceFlag.see.Goals as goal

pub returns : goal.returns
returns g c = λ records stands last.
    let now : SeenRecord = record { entry = c.args.entry.now; bounds = c.args.bounds.now } in
    let clears = g.C.Conditions.clears in
    let may_be_set : c.if-self.value ≡ (c.args.self.now.is_set || starts_run now) =
    elim c.if-self.branch [
      | then-self w ↦ w.value-is
          ∙ w.if-self.true
          ∙ sym (ap (λ set. set || starts_run now) w.if-self.true)
      | else-self w ↦ w.value-is
          ∙ w.starts_run.ensures
          ∙ sym (ap (λ set. set || starts_run now) w.if-self.false)
    ] in
    let is_set : c.if-starts_run.self ≡ (c.if-self.value && not (clears c.args.last now)) =
    elim c.if-starts_run.branch [
      | then-starts_run w ↦ w.self-is
          ∙ ap not w.clears.ensures
          ∙ sym (ap (λ may. may && not (clears c.args.last now)) w.if-starts_run.true)
      | else-starts_run w ↦ w.self-is
          ∙ w.if-starts_run.false
          ∙ sym (ap (λ may. may && not (clears c.args.last now)) w.if-starts_run.false)
    ] in
    is_set
    ∙ ap (λ may. may && not (clears c.args.last now)) may_be_set
    ∙ ap (λ set. (set || starts_run now) && not (clears c.args.last now)) stands
    ∙ ap (λ last. (g.C.Conditions.flag records || starts_run now) && not (clears last now)) last
    ∙ sym (flag-cons clears g.met.C.Conditions.of_run now records)
