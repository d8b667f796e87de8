use Rattle.std.proofs.{Common.{◌≡◌, ◌==◌, ◌∙◌, true, false, ap, sym}, lemmas.Bool.not-true}
use Rattle.device_types.specs.ExecFlag.{SeenRecord, last_pc}
use Rattle.execution_flags.proofs.UnclearedStarts.{flag-elsewhere, flag-spared}
use Rattle.execution_flags.proofs.run_flag.RunFlagTraceFlag.stays.Goals as goal

pub returns-then-quiet : goal.returns-then-quiet
returns-then-quiet g c = λ entry before stands is quiet same.
    let now : SeenRecord = record { entry = entry; bounds = c.args.bounds.now } in
    let set : g.C.Conditions.flag before ≡ true = sym stands ∙ c.if-self.true in
    flag-spared g.C.Conditions.clears g.met.C.Conditions.of_run now before set
    (c.spares.ensures (last_pc before) entry is (quiet c.if-quiet.true) same)
    ∙ sym set

pub returns-else-self : goal.returns-else-self
returns-else-self g c = λ entry before stands is quiet same.
    let now : SeenRecord = record { entry = entry; bounds = c.args.bounds.now } in
    let unset : g.C.Conditions.flag before ≡ false = sym stands ∙ c.if-self.false in
    flag-elsewhere g.C.Conditions.clears g.met.C.Conditions.of_run now before unset
    (ap (λ pc. pc == now.bounds.er_min) is.same_pc ∙ not-true _ same)
    ∙ sym unset
