-- A history with the secrets blanked: what stands in the key and in the exclusive stack.
use Rattle.std.specs.Prelude.{◌||◌, ℕ, Bool, List, map, Option, Some, None, if◌then◌else◌, ◌≡◌, IsFalse}
use Rattle.device_types.specs.{declared.{access.Access.{Access, TheVariants.Write}, bus_record.BusRecord.BusRecord}, ExecFlag.SeenRecord, Map.{lies_in, touches, key_region, stack_region}, Address.{Contents, Address}}

abbrev pub touches_secrets : Access → Bool
touches_secrets access = touches access key_region || touches access stack_region

-- 0 for the number of a write to the exclusive stack
abbrev pub blank_access : Option Access → Option Access
blank_access (Some (Write place size number)) =
    Some (Write place size (if touches (Write place size number) stack_region then 0 else number))
blank_access access = access

-- 0 for the value of a read that touches the key or the stack
abbrev pub blank_value : Option Access → ℕ → ℕ
blank_value None value = value
blank_value (Some access) value = if touches_secrets access then 0 else value

abbrev pub blank_record : BusRecord → BusRecord
blank_record entry =
    record entry {
      cpu = blank_access entry.cpu;
      value = blank_value entry.cpu entry.value;
      dma = blank_access entry.dma;
      dma_value = blank_value entry.dma entry.dma_value;
    }

abbrev pub blank : List BusRecord → List BusRecord
blank history = map blank_record history

abbrev pub blank_seen : SeenRecord → SeenRecord
blank_seen now = record { entry = blank_record now.entry; bounds = now.bounds }

abbrev pub is_secret : Address → Bool
is_secret place = lies_in key_region place || lies_in stack_region place

-- memories that are equal outside the secrets
abbrev pub SameOutside : Contents → Contents → Type 0
SameOutside left right = (place : Address) → IsFalse (is_secret place) → left place ≡ right place
