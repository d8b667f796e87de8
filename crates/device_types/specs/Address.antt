-- Addresses, bytes, and what stands in a memory.
use Rattle.std.specs.Prelude.{◌*◌, ◌/◌, ℕ, List}

-- an address, of 16 bits: a place in memory
abbrev pub Address : Type 0
Address = ℕ

-- an address with bit 0 cleared
abbrev pub even : Address → Address
even place = place / 2 * 2

-- bytes in their order, as in a memory, a message or a text
abbrev pub Bytes : Type 0
Bytes = List ℕ

-- the byte at each address, of an image or of a memory
abbrev pub Contents : Type 0
Contents = Address → ℕ
