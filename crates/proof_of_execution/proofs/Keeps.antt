-- What a record does that does not clear the flag.
use Rattle.std.{proofs.{Common.{◌≡◌, ℕ, Bool, true, false, not, Option, ap, ◌∙◌, arith}, lemmas.{Bool.{or_parts, or_from, and_from, and_right, not_from_false}, List.Folds.list_any-append}, Math.Bool.and_comm}, specs.{Prelude.{◌==◌, ◌&&◌, is_some, is_none, option_to_list}, List.list_any}}
use Rattle.device_types.specs.{declared.{access.Access.Access, region.Region.Region}, Access.some_writes, Bounds.{executable_region, output_region}, Map.{some_touches, metadata_region}, ExecFlag.{SeenRecord, accesses_in, writes_to, fetches_outside, runs_inside, ran_inside, ran_at, clears_e1, clears_e2, clears_e3, clears_e4, clears_e5, clears_e6, clears_e7, clears_e8, clears_e9, clears_both, clears}}
use Rattle.trace_facts.proofs.{ExecFlag.{other_false, first_false, none_there}, BoundsStay.writes_nowhere}
use Rattle.device_trace.specs.RegionRun.{NoInterrupts, is_inside, runs_alone, runs_with, keeps_code, keeps_output}

-- what clears neither flag
pub record KeepsBoth (last : Option ℕ) (now : SeenRecord) : Type 0 where
  pub e1 : clears_e1 now ≡ false
  pub e2 : clears_e2 last now ≡ false
  pub e5 : clears_e5 now ≡ false
  pub e6 : clears_e6 now ≡ false
  pub e7 : clears_e7 now ≡ false
  pub e8 : clears_e8 now ≡ false
  pub e9 : clears_e9 now ≡ false

pub record Keeps (last : Option ℕ) (now : SeenRecord) : Type 0 where
  pub both : KeepsBoth last now
  pub e3 : clears_e3 last now ≡ false
  pub e4 : clears_e4 now ≡ false

pub clears_both-kept : (last : Option ℕ) (now : SeenRecord) → clears_both last now ≡ false
    → KeepsBoth last now
clears_both-kept last now none =
    let p9 = or_parts _ (clears_e9 now) none in
    let p8 = or_parts _ (clears_e8 now) p9.0 in
    let p7 = or_parts _ (clears_e7 now) p8.0 in
    let p6 = or_parts _ (clears_e6 now) p7.0 in
    let p5 = or_parts _ (clears_e5 now) p6.0 in
    let p2 = or_parts (clears_e1 now) (clears_e2 last now) p5.0 in
    record { e1 = p2.0; e2 = p2.1; e5 = p5.1; e6 = p6.1; e7 = p7.1; e8 = p8.1; e9 = p9.1 }

pub clears-kept : (last : Option ℕ) (now : SeenRecord) → clears last now ≡ false → Keeps last now
clears-kept last now none =
    let p4 = or_parts _ (clears_e4 now) none in
    let p3 = or_parts (clears_both last now) (clears_e3 last now) p4.0 in
    record { both = clears_both-kept last now p3.0; e3 = p3.1; e4 = p4.1 }

-- inside ER
pub alone-kept : (last : Option ℕ) (now : SeenRecord)
    → KeepsBoth last now → runs_inside now ≡ true → runs_alone now.bounds now.entry ≡ true
alone-kept last now keeps inside =
    let within : is_inside now.bounds now.entry ≡ true = inside in
    let no_dma : is_some now.entry.dma ≡ false =
    other_false (is_some now.entry.dma) (runs_inside now) keeps.e7 inside in
    let no_fetch : list_any (fetches_outside (executable_region now.bounds)) (accesses_in now.entry)
    ≡ false =
    other_false (list_any (fetches_outside (executable_region now.bounds)) (accesses_in now.entry))
    (runs_inside now)
    (and_comm (list_any (fetches_outside (executable_region now.bounds)) (accesses_in now.entry))
    (runs_inside now)
    ∙ keeps.e8) inside in
    and_from (is_inside now.bounds now.entry && is_none now.entry.dma) _
    (and_from (is_inside now.bounds now.entry) (is_none now.entry.dma) within
    (ap is_none (none_there now.entry.dma no_dma)))
    (not_from_false _ no_fetch)

pub undisturbed-kept : (last : Option ℕ) (now : SeenRecord)
    → Keeps last now → runs_inside now ≡ true
    → runs_with NoInterrupts now.bounds now.entry ≡ true
undisturbed-kept last now keeps inside =
    let quiet : now.entry.irq ≡ false =
    other_false now.entry.irq (runs_inside now) keeps.e4 inside in
    and_from (runs_alone now.bounds now.entry) (not now.entry.irq)
    (alone-kept last now keeps.both inside) (not_from_false now.entry.irq quiet)

pub code-kept : (last : Option ℕ) (now : SeenRecord) → KeepsBoth last now
    → keeps_code now.bounds now.entry ≡ true
code-kept last now keeps =
    let dma =
    or_parts (some_touches now.entry.dma (executable_region now.bounds))
    (some_touches now.entry.dma (output_region now.bounds)) keeps.e6 in
    let rest = or_parts (list_any (writes_to metadata_region) (accesses_in now.entry))
    (is_some now.entry.reset) keeps.e9 in
    let no_write =
    not_from_false
    (list_any (writes_to (executable_region now.bounds)) (accesses_in now.entry)) keeps.e1 in
    let no_dma = not_from_false (some_touches now.entry.dma (executable_region now.bounds)) dma.0 in
    let no_metadata =
    not_from_false (list_any (writes_to metadata_region) (accesses_in now.entry)) rest.0 in
    and_from _ (is_none now.entry.reset) (and_from _ _ (and_from _ _ no_write no_dma) no_metadata)
    (ap is_none (none_there now.entry.reset rest.1))

-- outside ER
touches_nowhere : (access : Option Access) (region : Region)
    → some_touches access region ≡ false
    → list_any (writes_to region) (option_to_list access) ≡ false
touches_nowhere access region off =
    writes_nowhere access region
    (and_right (some_writes access) (some_touches access region) off)

pub output-kept : (last : Option ℕ) (now : SeenRecord)
    → KeepsBoth last now
    → runs_inside now ≡ false
    → keeps_output now.bounds now.entry ≡ true
output-kept last now keeps outside =
    let region : Region = output_region now.bounds in
    let dma =
    or_parts (some_touches now.entry.dma (executable_region now.bounds))
    (some_touches now.entry.dma region) keeps.e6 in
    let cpu_off : list_any (writes_to region) (option_to_list now.entry.cpu) ≡ false =
    writes_nowhere now.entry.cpu region
    (first_false (some_writes now.entry.cpu && some_touches now.entry.cpu region)
    (runs_inside now) keeps.e5 outside) in
    let dma_off : list_any (writes_to region) (option_to_list now.entry.dma) ≡ false =
    touches_nowhere now.entry.dma region dma.1 in
    let off : list_any (writes_to region) (accesses_in now.entry) ≡ false =
    list_any-append (writes_to region) (option_to_list now.entry.cpu) (option_to_list now.entry.dma)
    ∙ or_from _ _ cpu_off dma_off in
    and_from _ _ (not_from_false _ off) (not_from_false _ dma.1)

-- how ER is entered and left
pub leaves_at_end : (last : Option ℕ) (now : SeenRecord) → KeepsBoth last now
    → ran_inside last (executable_region now.bounds) ≡ true → runs_inside now ≡ false
    → ran_at last now.bounds.er_max ≡ true
leaves_at_end last now keeps was_inside outside =
    ends (ran_inside last (executable_region now.bounds)) (ran_at last now.bounds.er_max)
    (runs_inside now) keeps.e2 was_inside outside
  where
    ends : (was at inside : Bool) → (was && not at && not inside) ≡ false → was ≡ true
        → inside ≡ false → at ≡ true
    ends was at inside off is out = grind arith

pub entered_only : (inside was at : Bool) → (inside && not was && not at) ≡ false → inside ≡ true
    → was ≡ false → at ≡ true
entered_only inside was at off is out = grind arith

pub enters_at_start : (last : Option ℕ) (now : SeenRecord) → Keeps last now
    → runs_inside now ≡ true → ran_inside last (executable_region now.bounds) ≡ false
    → (now.entry.pc == now.bounds.er_min) ≡ true
enters_at_start last now keeps =
    entered_only (runs_inside now) (ran_inside last (executable_region now.bounds))
    (now.entry.pc == now.bounds.er_min) keeps.e3
