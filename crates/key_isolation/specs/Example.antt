-- Closed plays at which the laws are computed.
use Rattle.std.specs.Prelude.{ℕ, List, [], ◌∷◌}
use Rattle.device_types.specs.{declared.bus_record.BusRecord.BusRecord, ExecFlag.no_flag}
use Rattle.device_trace.specs.{Example.{counting_digest, upwards, quiet_steps, attestation}, Start.{Start, with_key}, Trace.Play}

-- a device with the key from this byte upwards, and the program that attests
abbrev pub attestation_start : ℕ → Start
attestation_start first_byte = with_key no_flag counting_digest (upwards first_byte 64) attestation

-- up to the call's second read of the key
abbrev pub until_key_read : Play
until_key_read = quiet_steps 9 []

-- the whole call
abbrev pub whole_call : Play
whole_call = quiet_steps 141 []

-- what the last step of a history read, 0 before the first step
abbrev pub last_value : List BusRecord → ℕ
last_value [] = 0
last_value (entry ∷ history) = entry.value
