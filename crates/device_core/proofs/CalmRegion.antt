-- Calm steps in a row.
use borrow.Author.Tests.{not-true}
use Rattle.std.proofs.Common.{◌≡◌, ◌∙◌, ◌&&◌, ◌∷◌, ℕ, Bool, true, false, not, Some, None, refl, sym, ap}
use Rattle.device_types.specs.{declared.{bus_record.BusRecord.BusRecord, kind.Kind.{Kind, TheVariants.{Boot, Cpu, Idle, Irq, Rom}}, region.Region.Region, signals.Signals.Signals}, Bounds.executable_region, ExecFlag.{last_pc, SeenRecord}, Kind.is_cpu, Map.metadata_region, TraceFlag.Flag}
use Rattle.part_definitions.specs.{CpuRegister.Registers, Dma.dma_access, FirstRule.breaks_i1, Memory.ShownFlags}
use Rattle.device_trace.specs.{Logs.{Logs, flags_shown, logged_bounds, with_record}, Peripherals.Peripherals, Progress.last_registers, Signals.{signals_at, signals_of, value_read}, Start.Start, Step.{dma_value_read, record_of}}
use Rattle.trace_facts.proofs.BoundsStay.{logged_bounds-stay}
use Rattle.device_core.{specs.{Bus.{TurnStandsFor, answer_in, logs_after_step, record_performed}, Calm.{IsCalm, IsCalmRegion, ReadsCalmly, is_calm_turn}, FlagsKept.{IsQuietStep, LeavesFlags, has_flag}, Quiet.{GoesOver, Question}, declared.turn.Turn.Turn}, proofs.{CalmStep.{calm-peripherals, calm-quiet, calm-unbroken, calm-writes}, FlagsShown.flags-kept, Steps.record_of-tried}}

four-parts : (first second third last : Bool)
    → (first && second && third && last) ≡ true
    → (first ≡ true) × (second ≡ true) × (third ≡ true) × (last ≡ true)
four-parts true true true true all = (refl, refl, refl, refl)
four-parts true true true false all = absurd cc
four-parts true true false last all = absurd cc
four-parts true false third last all = absurd cc
four-parts false second third last all = absurd cc

cpu-kind : (kind : Kind) → is_cpu kind ≡ true → kind ≡ Cpu
cpu-kind Cpu is = refl
cpu-kind Boot is = absurd cc
cpu-kind Idle is = absurd cc
cpu-kind Irq is = absurd cc
cpu-kind Rom is = absurd cc

-- a calm turn, beside which the DMA asks for nothing
pub calm-signals :
    (start : Start) (logs : Logs) (regs : Registers) (turn : Turn) (code : Region)
    → TurnStandsFor regs turn start logs → dma_access logs.peripherals.dma ≡ None
    → is_calm_turn code turn ≡ true
    → IsCalm code (signals_of start logs false)
unfolding signals_at
calm-signals start logs regs turn code stands unasked calm =
    let (cpu, irq, inside, plain) =
    four-parts (is_cpu turn.kind) (not turn.irq) _ _ calm in
    record {
      by_processor = sym stands.same_kind ∙ cpu-kind turn.kind cpu;
      uninterrupted = sym stands.same_irq ∙ not-true turn.irq irq;
      alone = unasked;
      unasked = refl;
      inside = rw stands.same_pc at inside;
      plain = rw stands.same_access at plain;
    }

-- what its turn tells of it
pub turn-access :
    (start : Start) (logs : Logs) (regs : Registers) (turn : Turn)
    → TurnStandsFor regs turn start logs → turn.access ≡ (signals_of start logs false).cpu
unfolding signals_at
turn-access start logs regs turn stands = stands.same_access

pub turn-pc :
    (start : Start) (logs : Logs) (regs : Registers) (turn : Turn)
    → TurnStandsFor regs turn start logs → turn.pc ≡ (signals_of start logs false).pc
unfolding signals_at
turn-pc start logs regs turn stands = stands.same_pc

-- where a flag is set a calm step is quiet
pub quiet-where-watched :
    {G : Type 0} (flag : Flag G) (code : Region) (start : Start) (logs : Logs) (now : Signals)
    → IsCalmRegion flag code start logs → IsCalm code now
    → has_flag flag logs.records ≡ true
    → IsQuietStep (last_pc logs.records) now (logged_bounds start logs)
quiet-where-watched flag code start logs now region calm is_set entry is =
    let bounds = logged_bounds start logs in
    let same : code ≡ executable_region bounds = region.watched is_set in
    calm-quiet bounds (last_pc logs.records) now entry (rw same at region.above)
    (rw same at region.ran) (rw same at calm) is

module _ {G : Type 0} (flag : Flag G) (code : Region) (start : Start) (logs : Logs) (value : ℕ)
    (region : IsCalmRegion flag code start logs) (reads : ReadsCalmly flag code start logs value)
    (legal : breaks_i1 (signals_of start logs false) ≡ false)
  where
    -- what it leaves in the logs
    abbrev pub calm_entry : BusRecord
    calm_entry =
        record_performed start logs (last_registers logs.progress) (signals_of start logs false)

    abbrev calm_seen : SeenRecord
    calm_seen = record { entry = calm_entry; bounds = logged_bounds start logs }

    pub calm-entry : record_of start logs false ≡ calm_entry
    calm-entry =
        record_of-tried start logs false (last_registers logs.progress)
        (signals_of start logs false) None refl refl
        (calm-unbroken code (last_pc logs.records) (signals_of start logs false) region.above
        region.ran reads.calm legal)

    pub calm-answer : answer_in (record_of start logs false) ≡ Some value
    calm-answer = rw calm-entry (ap Some (sym reads.reads))

    pub calm-leaves : LeavesFlags flag calm_seen logs.records
    calm-leaves =
        reads.keeps.leaves calm_entry
        (record {
          same_kind = refl;
          same_pc = refl;
          same_cpu = refl;
          same_dma = refl;
          same_irq = refl;
          unrefused = refl;
        })

    pub calm-flags :
        start.second_flag ≡ flag.value
        → flags_shown start (calm_seen ∷ logs.records) ≡ flags_shown start logs.records
    calm-flags same =
        flags-kept flag start calm_seen logs.records same region.shown calm-leaves

    -- the step is gone over where its access is quiet
    pub calm-over :
        (quiet : Question)
        → quiet (signals_of start logs false).cpu None ≡ true
        → GoesOver quiet (record_of start logs false)
    calm-over quiet quietly = rw (calm-entry, reads.calm.alone) quietly

    calm-bounds : logged_bounds start (with_record start logs calm_entry) ≡ logged_bounds start logs
    calm-bounds =
        logged_bounds-stay start logs calm_entry refl
        (rw reads.calm.alone
        (calm-writes code metadata_region (signals_of start logs false).cpu refl reads.calm.plain))

    calm-after-entry :
        start.second_flag ≡ flag.value
        → IsCalmRegion flag code start (with_record start logs calm_entry)
    unfolding with_record
    calm-after-entry same =
        record {
          above = region.above;
          ran = reads.calm.inside;
          unasked =
              ap (λ (parts : Peripherals). dma_access parts.dma)
              (calm-peripherals code logs (signals_of start logs false)
              (last_registers logs.progress)
              (value_read start logs (signals_of start logs false).cpu)
              (dma_value_read start logs (signals_of start logs false)) region.above reads.calm)
              ∙ region.unasked;
          shown =
              ap (λ (flags : ShownFlags). flags.aux) (calm-flags same)
              ∙ region.shown
              ∙ sym calm-leaves.same_second;
          watched = λ is_set.
              region.watched
              (rw (calm-leaves.same_exec, calm-leaves.same_second) at is_set)
              ∙ ap executable_region (sym calm-bounds);
        }

    -- the steps behind it are calm in the same region
    pub calm-after :
        start.second_flag ≡ flag.value
        → IsCalmRegion flag code start (logs_after_step start logs false)
    calm-after same = rw calm-entry (calm-after-entry same)
