-- The memory map: regions of addresses, and what an access touches.
use Rattle.std.specs.{Prelude.{◌&&◌, ◌+◌, ◌-◌, ℕ, Bool, false, Option, Some, None, nat_le}, List.{list_any, list_all}}
use Rattle.device_types.specs.{declared.{region.Region.Region, access.Access.Access}, Access.bytes_of}

-- the registers of the peripherals
abbrev pub peripheral_region : Region
peripheral_region = record { first = 0x0000; last = 0x01FF }

-- where the registers of each lie
abbrev pub pins_region : Region
pins_region = record { first = 0x0020; last = 0x0021 }

abbrev pub serial_region : Region
serial_region = record { first = 0x0070; last = 0x0077 }

abbrev pub timer_region : Region
timer_region = record { first = 0x0160; last = 0x0165 }

abbrev pub dma_region : Region
dma_region = record { first = 0x01E0; last = 0x01E7 }

-- RAM; MAC and metadata are parts of it
abbrev pub ram_region : Region
ram_region = record { first = 0x0200; last = 0x21FF }

-- where a call of the attestation ROM writes the MAC (VRASED's MR)
abbrev pub mac_region : Region
mac_region = record { first = 0x0200; last = 0x021F }

-- challenge, bounds, the words of the flags, counter and token (APEX's METADATA)
abbrev pub metadata_region : Region
metadata_region = record { first = 0x0240; last = 0x028F }

-- the words of the metadata: the challenge is its first 32 bytes
abbrev pub ER_MIN : ℕ
ER_MIN = metadata_region.first + 32

abbrev pub ER_MAX : ℕ
ER_MAX = ER_MIN + 2

abbrev pub OR_MIN : ℕ
OR_MIN = ER_MAX + 2

abbrev pub OR_MAX : ℕ
OR_MAX = OR_MIN + 2

abbrev pub EXEC_WORD : ℕ
EXEC_WORD = OR_MAX + 2

abbrev pub AUX_WORD : ℕ
AUX_WORD = EXEC_WORD + 2

-- the counter of a request has four bytes, and its token stands behind it
abbrev pub COUNTER : ℕ
COUNTER = AUX_WORD + 2

abbrev pub TOKEN : ℕ
TOKEN = COUNTER + 4

-- in version 1 the metadata end with the EXEC word
abbrev pub version_one_metadata : Region
version_one_metadata = record { first = metadata_region.first; last = EXEC_WORD + 1 }

-- the exclusive stack of the attestation (VRASED's XS)
abbrev pub stack_region : Region
stack_region = record { first = 0x4000; last = 0x43FF }

-- where a call keeps the derived key, and after it the inner digest
abbrev pub DERIVED_KEY : ℕ
DERIVED_KEY = stack_region.first

abbrev pub INNER_DIGEST : ℕ
INNER_DIGEST = DERIVED_KEY + 32

-- where the counter of the last request that was attested is kept, four bytes
abbrev pub KEPT_COUNTER : ℕ
KEPT_COUNTER = stack_region.first + 0x60

-- the device key (VRASED's KR)
abbrev pub key_region : Region
key_region = record { first = 0x6A00; last = 0x6A3F }

-- the attestation ROM (VRASED's CR)
abbrev pub rom_region : Region
rom_region = record { first = 0xA000; last = 0xBFFF }

-- the program, and the vectors above it
abbrev pub program_region : Region
program_region = record { first = 0xC000; last = 0xFFDF }

abbrev pub vector_region : Region
vector_region = record { first = 0xFFE0; last = 0xFFFF }

-- a call of the ROM begins at its entry, goes on at the place after it, and ends at its exit
abbrev pub ROM_ENTRY : ℕ
ROM_ENTRY = rom_region.first

abbrev pub ROM_BODY : ℕ
ROM_BODY = ROM_ENTRY + 2

abbrev pub ROM_EXIT : ℕ
ROM_EXIT = rom_region.last - 1

-- where a boot finds the first address of the program
abbrev pub RESET_VECTOR : ℕ
RESET_VECTOR = vector_region.last - 1

-- where an interrupt finds the first address of its handler
abbrev pub SERIAL_VECTOR : ℕ
SERIAL_VECTOR = 0xFFF4

abbrev pub TIMER_VECTOR : ℕ
TIMER_VECTOR = 0xFFF2

-- an address lies in a region from its first to its last address
abbrev pub lies_in : Region → ℕ → Bool
lies_in region place = nat_le region.first place && nat_le place region.last

-- an access touches a region where one of its bytes lies in it
abbrev pub touches : Access → Region → Bool
touches access region = list_any (lies_in region) (bytes_of access)

abbrev pub some_touches : Option Access → Region → Bool
some_touches None region = false
some_touches (Some access) region = touches access region

-- an access is within a region where all of its bytes lie in it
abbrev pub is_within : Access → Region → Bool
is_within access region = list_all (lies_in region) (bytes_of access)
