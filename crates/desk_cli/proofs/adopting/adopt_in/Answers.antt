-- What came of lines that a memory was to adopt.
use Rattle.std.{proofs.Common.{◌≡◌, List, Option, Some, None, Result, refl, subst, inl, inr}, specs.Result.result_err}
use Rattle.text_scan.specs.declared.fault_at.FaultAt.{FaultAt}
use Rattle.desk_memory.specs.{declared.{memory.Memory.Ghosts as MemoryGhosts, memory_fault.MemoryFault.MemoryFault}, Entry.{Entry, with_entries}, Moving.entries_on_arrival}
use Rattle.input_files.specs.declared.status.Status.{Status}
use Rattle.desk_cli.specs.{Adopt.{AdoptsIf, IsUntaken}, Noting.{HasNoted, status_of_noted}}
use Rattle.desk_cli.proofs.adopting.adopt_in.Goals as goal

adopts-all : {M : Type 0} (m : MemoryGhosts M) (opened left : M)
    (entries lines new : List Entry) (fault : Option FaultAt) (result : Result Unit MemoryFault)
    (status : Status)
    → fault ≡ None → new ≡ entries_on_arrival entries lines
    → HasNoted m opened left (with_entries entries new) (result_err result)
    → status ≡ status_of_noted (result_err result)
    → AdoptsIf m opened left entries lines fault status
adopts-all m opened left entries lines new fault result status none is noted answer =
    rw none (inr (record {
      result = result_err result;
      noted = subst (λ (all : List Entry).
          HasNoted m opened left (with_entries entries all) (result_err result)) is noted;
      answer = answer;
    }))

adopts-none : {M : Type 0} (m : MemoryGhosts M) (opened : M) (entries lines : List Entry)
    (fault : Option FaultAt) (status : Status)
    → IsUntaken fault status → AdoptsIf m opened opened entries lines fault status
adopts-none m opened entries lines None status is = inl (is, refl)
adopts-none m opened entries lines (Some fault) status is = (is, refl)

pub returns-in-Ok : goal.returns-in-Ok
returns-in-Ok g c =
    let entries : List Entry = c.entries.result.now in (
      entries,
      c.entries.ensures,
      λ keeps. adopts-all g.M.Memory c.args.memory.now c.note_all.new.memory entries
          c.args.lines.now.entries c.as_slice.result.now _ c.note_all.result c.noted_status.result
          (rw c.desk.ensures at c.in-Ok.ensures.faultless)
          (rw c.as_slice.ensures.value c.in-Ok.ensures.taken)
          (c.note_all.ensures entries keeps.has) c.noted_status.ensures,
    )

pub returns-in-Err : goal.returns-in-Err
returns-in-Err g c =
    let entries : List Entry = c.entries.result.now in (
      entries,
      c.entries.ensures,
      λ keeps. adopts-none g.M.Memory c.args.memory.now entries c.args.lines.now.entries _
          c.in-Err.status
          (rw c.desk.ensures at c.in-Err.ensures.refused),
    )
