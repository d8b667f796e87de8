-- Worked records: what the last step of a play leaves, as a whole.
use Rattle.std.specs.Prelude.{◌≡◌, ℕ, false, List, [], ◌∷◌, map, replicate, Option, Some, None}
use Rattle.word_arith.specs.declared.size.Size.TheVariants.{Word}
use Rattle.device_types.specs.{declared.{access.Access.{Access, TheVariants.{Fetch, Read, Write}}, bus_record.BusRecord.BusRecord, event.Event.TheVariants.{Dma, Reset}, kind.Kind.TheVariants.Cpu, rule.Rule.{Rule, TheVariants.{X0, K1, K4}}}, Address.Contents}
use Rattle.device_trace.specs.{Example.{start_with, quiet_steps, event_after, letter_a, key_reader, rewritten_program}, Trace.{last_record, trace, Play}}

-- an image, its play, and the last record
pub record WorkedRecord : Type 0 where
  pub image : Contents
  pub play : Play
  pub entry : BusRecord

-- a step of the instruction at a place, where all other registers are 0
abbrev pub step_at : ℕ → Option Access → ℕ → Option Access → ℕ → Option Rule → BusRecord
step_at pc cpu value dma dma_value reset =
    record {
      kind = Cpu;
      pc = pc;
      regs = pc ∷ replicate 15 0;
      cpu = cpu;
      value = value;
      dma = dma;
      dma_value = dma_value;
      irq = false;
      reset = reset;
    }

-- the last record of each is the one that it names
abbrev pub LeaveTheirRecords : List WorkedRecord → Type 0
LeaveTheirRecords rows =
    map (λ one. last_record (trace (start_with one.image) one.play)) rows
    ≡ map (λ one. Some one.entry) rows

abbrev pub row : Contents → Play → BusRecord → WorkedRecord
row image play entry = record { image = image; play = play; entry = entry }

abbrev pub worked_records : List WorkedRecord
worked_records =
    -- a fetch, beside a read of the DMA
    row rewritten_program (event_after (Dma 0xC008 0xC006 1) (quiet_steps 6 []))
    (step_at 0xC006 (Some (Fetch 0xC006)) 0x3FFF (Some (Read 0xC008 Word)) 0x3FFC None) ∷
    -- a write
    row letter_a (quiet_steps 5 [])
    (step_at 0xC000 (Some (Write 0x0076 Word 0x0041)) 0 None 0 None) ∷
    -- the same write, refused: it carries 0
    row letter_a (event_after Reset (quiet_steps 4 []))
    (step_at 0xC000 (Some (Write 0x0076 Word 0)) 0 None 0 (Some X0)) ∷
    -- a refused read of the key leaves no value
    row key_reader (quiet_steps 4 [])
    (step_at 0xC000 (Some (Read 0x6A00 Word)) 0 None 0 (Some K1)) ∷
    -- nor does a fetch beside a DMA that is refused
    row letter_a (event_after (Dma 0x6A3E 0x0300 2) (quiet_steps 5 []))
    (step_at 0xC006 (Some (Fetch 0xC006)) 0 (Some (Read 0x6A3E Word)) 0 (Some K4)) ∷
    []
