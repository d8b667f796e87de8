-- What is no secret: accesses, and steps that release a word.
use Rattle.std.specs.Prelude.{◌&&◌, Bool, Option, is_none, IsFalse}
use Rattle.device_types.specs.{declared.{access.Access.Access, kind.Kind.Kind, rule.Rule.Rule}, Access.some_writes, Kind.is_rom, Map.{touches, some_touches, key_region, stack_region, mac_region}}

-- an access that touches neither the key nor the exclusive stack
abbrev pub IsOpen : Access → Type 0
IsOpen access = IsFalse (touches access key_region) × IsFalse (touches access stack_region)

-- a step of the ROM that is not refused and writes to the MAC
abbrev pub releases_word : Option Rule → Kind → Option Access → Bool
releases_word rule kind access =
    is_none rule && is_rom kind && some_writes access && some_touches access mac_region
