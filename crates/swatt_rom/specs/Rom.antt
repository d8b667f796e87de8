-- Which calls the engine stands for. `hash` is the digest: its function, and the bytes that a
-- running one has taken.
use Rattle.hmac_core.specs.Hash.{Hash}
use Rattle.swatt_rom.specs.{RomCall.{RomCall, NoCall, InCall, AfterCall}, declared.{state.State.{State, TheVariants.{Idle, Calls, Returns, Leaves}}, rom.Rom.Rom}, Phase.{PhaseStandsFor, IsBeforeReturn}}
use Rattle.std.specs.Prelude.{◌≡◌}

abbrev pub StateStandsFor :
    {D : Type 0} → Hash D → State D → RomCall → Type 0
StateStandsFor hash Idle NoCall = Unit {0}
StateStandsFor hash (Calls sp phase) (InCall start words) =
    (sp ≡ start) × PhaseStandsFor hash phase words
StateStandsFor hash (Returns sp decision) (InCall start words) =
    (sp ≡ start) × IsBeforeReturn decision words
StateStandsFor hash (Leaves end) (AfterCall left) = end ≡ left
StateStandsFor hash state call = ⊥

abbrev pub RomStandsFor :
    {D : Type 0} → Hash D → Rom D → RomCall → Type 0
RomStandsFor hash rom call = StateStandsFor hash rom.state call

-- an engine that holds no key, no digest and no word
abbrev pub idle_rom : {D : Type 0} → Rom D
idle_rom = record { state = Idle }
