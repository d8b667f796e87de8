-- What a debugger shows at a place.
use Rattle.std.specs.Prelude.{ℕ, ◌==◌, ◌/◌, ◌%◌, ◌++◌, ◌∷◌, [], zero, suc, List, Option, Some, None, codes, min, if◌then◌else◌}
use Rattle.hex.specs.Hex.{encode_lower}
use Rattle.debug_session.specs.Sight.{Sight}

-- a register has four bytes for GDB, the low one first
abbrev pub register_bytes : ℕ → List ℕ
register_bytes word = word % 256 ∷ word / 256 ∷ 0 ∷ 0 ∷ []

abbrev pub registers_bytes : List ℕ → List ℕ
registers_bytes [] = []
registers_bytes (word ∷ words) = register_bytes word ++ registers_bytes words

abbrev pub registers_shown : Sight → List ℕ
registers_shown here = encode_lower (registers_bytes here.registers)

-- the bytes of at most so many addresses, up to the first that has none
abbrev pub byte_and : Option ℕ → List ℕ → List ℕ
byte_and None bytes = []
byte_and (Some byte) bytes = byte ∷ bytes

abbrev pub bytes_shown : Sight → ℕ → ℕ → List ℕ
bytes_shown here at zero = []
bytes_shown here at (suc count) = byte_and (here.byte_at at) (bytes_shown here (suc at) count)

-- at most 2,048 of them; E01 where the first has none
abbrev pub bytes_or : Option ℕ → List ℕ → List ℕ
bytes_or None bytes = codes "E01"
bytes_or (Some byte) bytes = encode_lower bytes

abbrev pub memory_body : Sight → ℕ → ℕ → List ℕ
memory_body here first size =
    if size == 0 then []
    else bytes_or (here.byte_at first) (bytes_shown here first (min size 2048))
