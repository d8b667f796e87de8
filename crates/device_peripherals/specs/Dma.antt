-- Which events the DMA engine stands for.
use Rattle.std.specs.Prelude.{slice_index, List, ◌≡◌, ◌+◌, ◌/◌, ◌%◌, false, length}
use Rattle.device_peripherals.specs.{Register.HoldsWrites, declared.{dma.Dma.Dma, activity.{Job.Job, Activity.{Activity, TheVariants.{Idle, Reads, Writes}}}}}
use Rattle.part_definitions.specs.Dma.{DmaEvent, DMA_SOURCE, DMA_DESTINATION, DMA_LENGTH, dma_writes, transfer_of, Transfer, is_active, place_of_word}

-- Which transfers an activity stands for.

-- the job is what is left of the transfer, from its next word to be written on
pub record IsRestOf (job : Job) (transfer : Transfer) : Type 0 where
  pub same_source : job.source ≡ place_of_word transfer.source (length transfer.values / 2)
  pub same_destination : job.destination
      ≡ place_of_word transfer.destination (length transfer.values / 2)
  pub same_words : job.words + length transfer.values / 2 ≡ transfer.words

-- the transfer is over, or a word is read next, or the word in the latch is written next
abbrev pub ActivityStandsFor : Activity → Transfer → Type 0
ActivityStandsFor Idle transfer = is_active transfer ≡ false
ActivityStandsFor (Reads job) transfer = IsRestOf job transfer × (length transfer.values % 2 ≡ 0)
ActivityStandsFor (Writes job word) transfer =
    IsRestOf job transfer × (length transfer.values % 2 ≡ 1)
    × (word ≡ slice_index transfer.values 0)

-- the engine is as these events, newest first, left it
pub record DmaStandsFor (dma : Dma) (events : List DmaEvent) : Type 0 where
  pub same_source : HoldsWrites DMA_SOURCE dma.source (dma_writes events)
  pub same_destination : HoldsWrites DMA_DESTINATION dma.destination (dma_writes events)
  pub same_length : HoldsWrites DMA_LENGTH dma.length (dma_writes events)
  pub same_activity : ActivityStandsFor dma.activity (transfer_of events)
