-- Calm steps: of the processor above the ROM, at which no rule, peripheral or line looks.
use Rattle.std.specs.Prelude.{◌≡◌, ◌&&◌, ◌||◌, ℕ, Bool, true, false, not, Option, Some, None, map, nat_le, nat_lt}
use Rattle.device_types.specs.{declared.{access.Access.{Access, TheVariants.{Fetch, Read, Write}}, kind.Kind.TheVariants.Cpu, region.Region.Region, signals.Signals.Signals}, Address.Address, Bounds.executable_region, ExecFlag.{last_pc, ran_inside}, Kind.is_cpu, Map.{is_within, lies_in, metadata_region, ram_region, rom_region}, TraceFlag.Flag}
use Rattle.part_definitions.specs.Dma.{dma_access}
use Rattle.device_trace.specs.{Blank.blank_seen, Logs.{Logs, aux_of, logged_bounds}, Signals.{signals_of, value_read}, Start.Start, Step.record_of}
use Rattle.device_core.specs.{Bus.logs_after_step, FlagsKept.{KeepsFlags, has_flag}, Machine.{MachineStandsFor, StandsAfter}, Quiet.{GoesOver, IsOpen, Question}, declared.{machine.Machine.Machine, stage.Stage.TheVariants.Running, turn.Turn.Turn}}
use Rattle.hmac_core.specs.Hash.{Hash}

-- in RAM above the metadata
abbrev pub is_free : Address → Bool
is_free place = nat_lt metadata_region.last place && nat_le place ram_region.last

abbrev pub is_above_rom : Region → Bool
is_above_rom region = nat_lt rom_region.last region.first

-- a fetch in this region, a read in free RAM or above the ROM, or a write to free RAM
abbrev pub is_calm_access : Region → Option Access → Bool
is_calm_access code None = false
is_calm_access code (Some (Fetch place)) = is_within (Fetch place) code
is_calm_access code (Some (Read place size)) = is_free place || nat_lt rom_region.last place
is_calm_access code (Some (Write place size number)) = is_free place

-- so of a turn, beside which the DMA asks for nothing
abbrev pub is_calm_turn : Region → Turn → Bool
is_calm_turn code turn =
    is_cpu turn.kind && not turn.irq && lies_in code turn.pc && is_calm_access code turn.access

-- a step that is about to do this is calm, with code in this region
pub record IsCalm (code : Region) (now : Signals) : Type 0 where
  pub by_processor : now.kind ≡ Cpu
  pub uninterrupted : now.irq ≡ false
  pub alone : now.dma ≡ None
  pub unasked : now.script_reset ≡ false
  pub inside : lies_in code now.pc ≡ true
  pub plain : is_calm_access code now.cpu ≡ true

-- what calm steps with code in this region have in common, and no such step changes
pub record IsCalmRegion {G : Type 0} (flag : Flag G) (code : Region) (start : Start) (logs : Logs)
    : Type 0 where
  pub above : is_above_rom code ≡ true
  pub ran : ran_inside (last_pc logs.records) code ≡ true
  pub unasked : dma_access logs.peripherals.dma ≡ None
  pub shown : aux_of start logs ≡ flag.value (map blank_seen logs.records)
  -- where a flag is set, they run in ER
  pub watched : has_flag flag logs.records ≡ true
      → code ≡ executable_region (logged_bounds start logs)

-- the next step is calm and leaves both flags as they are, and its access reads this value
pub record ReadsCalmly {G : Type 0} (flag : Flag G) (code : Region) (start : Start) (logs : Logs)
    (value : ℕ) : Type 0 where
  pub calm : IsCalm code (signals_of start logs false)
  pub keeps : KeepsFlags flag start logs (signals_of start logs false)
  pub reads : value ≡ value_read start logs (signals_of start logs false).cpu

-- the next step was made from logs of which this holds, it was calm and its access quiet
abbrev pub GoesCalmly :
    {D G : Type 0} → Hash D → Flag G
    → Question → Machine D G → (Logs → Type 0) → Region → Machine D G → Type 0
GoesCalmly hash flag quiet old when code new =
    (start : Start) (logs : Logs)
    → MachineStandsFor hash flag old start logs
    → when logs
    → IsCalmRegion flag code start logs
    → StandsAfter hash flag Running new start logs false
    × IsCalmRegion flag code start (logs_after_step start logs false)
    × GoesOver quiet (record_of start logs false)
    × IsOpen quiet logs
