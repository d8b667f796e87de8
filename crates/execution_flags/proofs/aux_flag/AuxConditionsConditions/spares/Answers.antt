use Rattle.std.proofs.{Common.{◌≡◌, ◌&&◌, ◌||◌, ◌∙◌, false, is_none, not, sym, ap}, lemmas.Bool.not-true}
use Rattle.device_types.specs.ExecFlag.{SeenRecord, clears_both, enters_region, fetches_first}
use Rattle.part_definitions.specs.TrustedFlag.{clears_f3, clears_f4, clears_f10}
use Rattle.execution_flags.proofs.QuietStep.{quiet-parts}
use Rattle.execution_flags.proofs.aux_flag.AuxConditionsConditions.spares.Goals as goal

pub returns-then-not-may_write_vectors : goal.returns-then-not-may_write_vectors
returns-then-not-may_write_vectors c = λ last entry is quiet spared.
    let now : SeenRecord = record { entry = entry; bounds = c.args.bounds.now } in
    let parts =
    quiet-parts (is_none entry.dma) (enters_region last now) (clears_both last now) quiet in
    let uninterrupted : clears_f4 now ≡ false =
    c.may_be_interrupted.ensures entry is (not-true c.may_be_interrupted.result spared) in
    let unwritten : clears_f10 now ≡ false =
    sym (c.may_write_vectors.ensures entry c.args.bounds.now is parts.0)
    ∙ c.if-not-may_write_vectors.true in
    ap (λ both. both || clears_f3 last now || clears_f4 now || clears_f10 now) parts.2
    ∙ ap (λ enters. (enters && not (fetches_first now.bounds entry)) || clears_f4 now
    || clears_f10 now) parts.1
    ∙ ap (λ f4. f4 || clears_f10 now) uninterrupted
    ∙ unwritten
