-- Bytes leave the port in the order in which they came.
use Rattle.std.specs.Prelude.{◌≡◌, ◌≤◌, ◌++◌, ℕ, List, [], ◌∷◌, length, take, if◌then◌else◌}
use Rattle.part_definitions.specs.Serial.{SerialEvent, Arrival, Load, Store, DeviceReset, QUEUE_LENGTH, has_room, waiting_bytes, takes_byte}

-- the bytes that arrived where there was room, since the last reset, oldest first
abbrev pub bytes_let_in : List SerialEvent → List ℕ
bytes_let_in [] = []
bytes_let_in (Arrival byte ∷ events) =
    if has_room events then bytes_let_in events ++ byte ∷ [] else bytes_let_in events
bytes_let_in (Load place size ∷ events) = bytes_let_in events
bytes_let_in (Store place size number ∷ events) = bytes_let_in events
bytes_let_in (DeviceReset ∷ events) = []

-- the bytes that reads gave, since the last reset, oldest first
abbrev pub bytes_read : List SerialEvent → List ℕ
bytes_read [] = []
bytes_read (Arrival byte ∷ events) = bytes_read events
bytes_read (Load place size ∷ events) =
    if takes_byte place size
    then bytes_read events ++ take 1 (waiting_bytes events)
    else bytes_read events
bytes_read (Store place size number ∷ events) = bytes_read events
bytes_read (DeviceReset ∷ events) = []

-- what was let in is what was given and then what waits, and no more waits than there is room for
pub record KeepsOrder (events : List SerialEvent) : Type 0 where
  pub in_order : bytes_let_in events ≡ bytes_read events ++ waiting_bytes events
  pub within : length (waiting_bytes events) ≤ QUEUE_LENGTH
