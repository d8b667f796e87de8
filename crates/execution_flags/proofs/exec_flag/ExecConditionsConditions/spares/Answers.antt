use Rattle.std.proofs.{Common.{◌≡◌, ◌==◌, ◌&&◌, ◌||◌, ◌∙◌, false, is_none, not, sym, ap}, lemmas.Bool.not-true}
use Rattle.device_types.specs.ExecFlag.{SeenRecord, clears_both, clears_e3, clears_e4, enters_region}
use Rattle.execution_flags.proofs.QuietStep.{quiet-parts}
use Rattle.execution_flags.proofs.exec_flag.ExecConditionsConditions.spares.Goals as goal

pub returns : goal.returns
returns c = λ last entry is quiet spared.
    let now : SeenRecord = record { entry = entry; bounds = c.args.bounds.now } in
    let parts =
    quiet-parts (is_none entry.dma) (enters_region last now) (clears_both last now) quiet in
    let unaccepted : clears_e4 now ≡ false =
    sym (c.may_accept.ensures entry is) ∙ not-true c.may_accept.result spared in
    ap (λ both. both || clears_e3 last now || clears_e4 now) parts.2
    ∙ ap (λ enters. (enters && not (entry.pc == now.bounds.er_min)) || clears_e4 now) parts.1
    ∙ unaccepted
