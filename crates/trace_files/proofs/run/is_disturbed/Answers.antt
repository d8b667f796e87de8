-- What clears the flag, in the executable region and outside it.
use Rattle.std.{proofs.{Common.{arith, ◌≡◌, ℕ, Bool, true, false, List, [], ◌∷◌, Option, Some, None, refl, ap, sym, ◌∙◌, not}, Math.Bool.or-false, lemmas.List.Folds.list_any-append}, specs.{Prelude.{◌==◌, ◌&&◌, ◌||◌, ◌++◌, is_some, option_to_list}, List.list_any}}
use Rattle.device_types.specs.{declared.{access.Access.{Access, TheVariants.{Fetch, Read, Write}}, region.Region.Region}, Access.some_writes, Map.{touches, some_touches, metadata_region, lies_in}, Bounds.{executable_region, output_region}, ExecFlag.{SeenRecord, clears, runs_inside, ran_inside, ran_at, fetches_outside, writes_to}}
use Rattle.trace_files.specs.{Disturbance.{disturbs_run, disturbs_rest}, Clean.seen_in}
use Rattle.trace_files.proofs.run.is_disturbed.Goals as goal

-- what clears the flag, of a step in ER or outside it
abbrev clears_at : Bool → Region → Region → Option Access → Option Access
    → Bool → Bool → Bool → Bool → Bool → Bool
clears_at inside er output cpu dma reset irq at_min ran at_max =
    list_any (writes_to er) (option_to_list cpu ++ option_to_list dma)
    || (ran && not at_max && not inside)
    || (some_writes cpu && some_touches cpu output && not inside)
    || (some_touches dma er || some_touches dma output)
    || (is_some dma && inside)
    || (inside && list_any (fetches_outside er) (option_to_list cpu ++ option_to_list dma))
    || (list_any (writes_to metadata_region) (option_to_list cpu ++ option_to_list dma) || reset)
    || (inside && not ran && not at_min)
    || (irq && inside)

-- an access, where there is one, writes to a region
one_write : (region : Region) (access : Option Access)
    → list_any (writes_to region) (option_to_list access)
    ≡ (some_writes access && some_touches access region)
one_write region None = refl
one_write region (Some (Fetch place)) = refl
one_write region (Some (Read place size)) = refl
one_write region (Some (Write place size number)) =
    or-false (touches (Write place size number) region)

some_write : (region : Region) (cpu dma : Option Access)
    → list_any (writes_to region) (option_to_list cpu ++ option_to_list dma)
    ≡ ((some_writes cpu && some_touches cpu region) || (some_writes dma && some_touches dma region))
some_write region cpu dma =
    list_any-append (writes_to region) (option_to_list cpu) (option_to_list dma)
    ∙ (λ i. one_write region cpu i || one_write region dma i)

run_quiet : (reset irq writes t₁ t₂ t₃ fetches at_min ran at_max : Bool)
    → (reset || irq || false || (writes && (t₁ || t₃)) || fetches || (not at_min && not ran))
    ≡ (((writes && t₁) || false) || (ran && not at_max && not true) || (writes && t₂ && not true)
    || (false || false) || (false && true) || (true && (fetches || false))
    || (((writes && t₃) || false) || reset) || (true && not ran && not at_min) || (irq && true))
run_quiet reset irq writes t₁ t₂ t₃ fetches at_min ran at_max = grind arith

run_beside : (e₁ e₂ e₅ e₆ e₈ e₉ e₃ e₄ reset irq c f s : Bool)
    → (reset || irq || true || c || f || s)
    ≡ (e₁ || e₂ || e₅ || e₆ || (true && true) || e₈ || e₉ || e₃ || e₄)
run_beside e₁ e₂ e₅ e₆ e₈ e₉ e₃ e₄ reset irq c f s = grind arith

run_parts : (er output : Region) (cpu dma : Option Access) (reset irq at_min ran at_max : Bool)
    → disturbs_run er cpu dma reset irq at_min ran
    ≡ clears_at true er output cpu dma reset irq at_min ran at_max
run_parts er output cpu None reset irq at_min ran at_max =
    rw (
      some_write er cpu None,
      some_write metadata_region cpu None,
      list_any-append (fetches_outside er) (option_to_list cpu) [],
    )
    (run_quiet reset irq (some_writes cpu) (some_touches cpu er) (some_touches cpu output)
    (some_touches cpu metadata_region) (list_any (fetches_outside er) (option_to_list cpu)) at_min
    ran at_max)
run_parts er output cpu (Some access) reset irq at_min ran at_max =
    let all : List Access = option_to_list cpu ++ access ∷ [] in
    run_beside (list_any (writes_to er) all) (ran && not at_max && not true)
    (some_writes cpu && some_touches cpu output && not true)
    (touches access er || touches access output)
    (true && list_any (fetches_outside er) all)
    (list_any (writes_to metadata_region) all || reset)
    (true && not ran && not at_min) (irq && true) reset irq
    (some_writes cpu && (some_touches cpu er || some_touches cpu metadata_region))
    (list_any (fetches_outside er) (option_to_list cpu)) (not at_min && not ran)

rest_bools : (reset irq writes t₁ t₂ t₃ dma_writes u₁ u₂ u₃ dma fetch at_min ran at_max : Bool)
    → (reset || (writes && (t₁ || t₂ || t₃)) || u₁ || u₂ || (dma_writes && u₃)
    || (ran && not at_max))
    ≡ (((writes && t₁) || (dma_writes && u₁)) || (ran && not at_max && not false)
    || (writes && t₂ && not false) || (u₁ || u₂) || (dma && false) || (false && fetch)
    || (((writes && t₃) || (dma_writes && u₃)) || reset)
    || (false && not ran && not at_min) || (irq && false))
rest_bools reset irq writes t₁ t₂ t₃ dma_writes u₁ u₂ u₃ dma fetch at_min ran at_max = grind arith

rest_parts : (er output : Region) (cpu dma : Option Access) (reset irq at_min ran at_max : Bool)
    → disturbs_rest er output cpu dma reset ran at_max
    ≡ clears_at false er output cpu dma reset irq at_min ran at_max
rest_parts er output cpu dma reset irq at_min ran at_max =
    rw (some_write er cpu dma, some_write metadata_region cpu dma)
    (rest_bools reset irq (some_writes cpu) (some_touches cpu er) (some_touches cpu output)
    (some_touches cpu metadata_region) (some_writes dma) (some_touches dma er)
    (some_touches dma output) (some_touches dma metadata_region) (is_some dma)
    (list_any (fetches_outside er) (option_to_list cpu ++ option_to_list dma)) at_min ran at_max)

-- the same of a record, after a record with this `pc`
abbrev clears_where : Option ℕ → SeenRecord → Bool → Bool
clears_where last now inside =
    clears_at inside (executable_region now.bounds) (output_region now.bounds) now.entry.cpu
    now.entry.dma (is_some now.entry.reset) now.entry.irq (now.entry.pc == now.bounds.er_min)
    (ran_inside last (executable_region now.bounds)) (ran_at last now.bounds.er_max)

clears_inside : (last : Option ℕ) (now : SeenRecord) → runs_inside now ≡ true
    → disturbs_run (executable_region now.bounds) now.entry.cpu now.entry.dma
    (is_some now.entry.reset) now.entry.irq (now.entry.pc == now.bounds.er_min)
    (ran_inside last (executable_region now.bounds))
    ≡ clears last now
clears_inside last now inside =
    run_parts (executable_region now.bounds) (output_region now.bounds) now.entry.cpu now.entry.dma
    (is_some now.entry.reset) now.entry.irq (now.entry.pc == now.bounds.er_min)
    (ran_inside last (executable_region now.bounds)) (ran_at last now.bounds.er_max)
    ∙ ap (clears_where last now) (sym inside)

clears_outside : (last : Option ℕ) (now : SeenRecord) → runs_inside now ≡ false
    → disturbs_rest (executable_region now.bounds) (output_region now.bounds) now.entry.cpu
    now.entry.dma (is_some now.entry.reset) (ran_inside last (executable_region now.bounds))
    (ran_at last now.bounds.er_max)
    ≡ clears last now
clears_outside last now outside =
    rest_parts (executable_region now.bounds) (output_region now.bounds) now.entry.cpu
    now.entry.dma (is_some now.entry.reset) now.entry.irq (now.entry.pc == now.bounds.er_min)
    (ran_inside last (executable_region now.bounds)) (ran_at last now.bounds.er_max)
    ∙ ap (clears_where last now) (sym outside)

pub returns-then-has : goal.returns-then-has
returns-then-has c =
    c.disturbs_run.ensures
    ∙ clears_inside c.args.last (seen_in c.args.line.now)
    (ap (λ (er : Region). lies_in er c.args.line.now.pc) (sym c.executable-er.ensures)
    ∙ (sym c.has.ensures ∙ c.if-has.true))

pub returns-else-has : goal.returns-else-has
returns-else-has c =
    c.disturbs_rest.ensures
    ∙ clears_outside c.args.last (seen_in c.args.line.now)
    (ap (λ (er : Region). lies_in er c.args.line.now.pc) (sym c.executable-er.ensures)
    ∙ (sym c.has.ensures ∙ c.if-has.false))
