-- A transfer by the steps since its start: no counter, but the list of what happened since.
use Rattle.std.specs.{Prelude.{slice_index, ◌≡◌, ◌<◌, ◌+◌, ◌*◌, ◌++◌, ℕ, Bool, true, false, List, [], ◌∷◌, length, if◌then◌else◌, is_some, Option, Some, None}, List.list_any}
use Rattle.word_arith.specs.declared.size.Size.TheVariants.{Word}
use Rattle.device_types.specs.{declared.access.Access.{Access, TheVariants.{Read, Write}}}
use Rattle.part_definitions.specs.{PeripheralRegister.register_word, Dma.{DmaEvent, TransferStart, Store, DmaAccess, DeviceReset, DMA_SOURCE, DMA_DESTINATION, DMA_LENGTH, starts, dma_writes, dma_access, dma_word, DMA_CONTROL, place_of_word}}

-- source, destination and number of words of a start
pub record Start : Type 0 where
  pub source : ℕ
  pub destination : ℕ
  pub words : ℕ

-- the start that an event asks for: one from outside names it, a write that starts takes it from
-- the registers as they were before
abbrev pub start_of : DmaEvent → List DmaEvent → Option Start
start_of (TransferStart source destination words) before =
    Some (record { source = source; destination = destination; words = words })
start_of (Store place size number) before =
    if starts place size number
    then Some (record {
      source = register_word (dma_writes before) DMA_SOURCE;
      destination = register_word (dma_writes before) DMA_DESTINATION;
      words = register_word (dma_writes before) DMA_LENGTH;
    })
    else None
start_of (DmaAccess value) before = None
start_of DeviceReset before = None

abbrev pub is_reset : DmaEvent → Bool
is_reset (TransferStart source destination words) = false
is_reset (Store place size number) = false
is_reset (DmaAccess value) = false
is_reset DeviceReset = true

-- the values that the engine took, newest first: one a step
abbrev pub values_of : List DmaEvent → List ℕ
values_of [] = []
values_of (TransferStart source destination words ∷ events) = values_of events
values_of (Store place size number ∷ events) = values_of events
values_of (DmaAccess value ∷ events) = value ∷ values_of events
values_of (DeviceReset ∷ events) = values_of events

-- a start is under way after some events: it counted, since the engine had no access before it;
-- there was no reset since; and fewer steps were made since than two a word. Whatever else happened
-- since, writes and further starts among it, is of no account
pub record IsUnderWay (start : Start) (values : List ℕ) (events : List DmaEvent) : Type 0 where
  pub since : List DmaEvent
  pub event : DmaEvent
  pub before : List DmaEvent
  pub order : events ≡ since ++ event ∷ before
  pub asks : start_of event before ≡ Some start
  pub counts : dma_access before ≡ None
  pub lasts : list_any is_reset since ≡ false
  pub steps : values_of since ≡ values
  pub within : length values < 2 * start.words

-- after any events: the engine has an access exactly while a start is under way, by the steps made
-- since. In step 2 i it reads word i, in the step after it writes what it read. DCTL reads 1 as
-- long
pub record GoesByDistance (events : List DmaEvent) : Type 0 where
  pub reads : (start : Start) (values : List ℕ) (i : ℕ) → IsUnderWay start values events
      → length values ≡ 2 * i → dma_access events ≡ Some (Read (place_of_word start.source i) Word)
  pub writes : (start : Start) (values : List ℕ) (i : ℕ) → IsUnderWay start values events
      → length values ≡ 2 * i + 1
      → dma_access events
      ≡ Some (Write (place_of_word start.destination i) Word (slice_index values 0))
  pub only : (access : Access) → dma_access events ≡ Some access
      → (start : Start) × (values : List ℕ) × IsUnderWay start values events
  pub control : dma_word events DMA_CONTROL ≡ (if is_some (dma_access events) then 1 else 0)
