-- What the processor reads outside the secrets is the same without the key.
use Rattle.std.{proofs.{Common.{◌≡◌, ℕ, true, false, List, Some, refl, not, ◌*◌, ◌/◌, arith}, lemmas.Bool.Decides.nat_tests}, specs.Prelude.◌&&◌}
use Rattle.word_arith.specs.{declared.size.Size.{Size, TheVariants.Word}}
use Rattle.device_types.specs.{declared.access.Access.{Access, TheVariants.{Fetch, Read, Write}}, Map.{lies_in, touches, peripheral_region, key_region, stack_region}}
use Rattle.part_definitions.specs.{BusAccess.fetch_at, Memory.number_at, MonitorRule.in_rom}
use Rattle.device_trace.specs.{Blank.touches_secrets, Logs.{Logs, logged_byte}, Peripherals.peripheral_read, Signals.{number_read, value_read, word_fetched}, Start.Start}
use Rattle.key_isolation.proofs.{Bytes.same_if, Hiding.{open_start, hide, logged_byte-hide}, Numbers.number_at-outside}

number_read-hide : (start : Start) (words : List ℕ) (logs : Logs) (place : ℕ) (size : Size)
    → touches_secrets (Read place size) ≡ false
    → number_read (open_start words start) (hide logs) place size
    ≡ number_read start logs place size
number_read-hide start words logs place size off =
    same_if (lies_in peripheral_region place) (peripheral_read logs.peripherals place size)
    (peripheral_read logs.peripherals place size)
    (number_at (logged_byte (open_start words start) (hide logs)) place size)
    (number_at (logged_byte start logs) place size)
    (λ peripheral. refl)
    (λ memory.
    number_at-outside (logged_byte (open_start words start) (hide logs)) (logged_byte start logs)
    (logged_byte-hide start words logs) place size off)

pub value_read-hide : (start : Start) (words : List ℕ) (logs : Logs) (access : Access)
    → touches_secrets access ≡ false
    → value_read (open_start words start) (hide logs) (Some access)
    ≡ value_read start logs (Some access)
value_read-hide start words logs (Fetch place) off =
    number_read-hide start words logs place Word off
value_read-hide start words logs (Read place size) off =
    number_read-hide start words logs place size off
value_read-hide start words logs (Write place size number) off = refl

-- an opcode fetch that breaks no key rule touches no secret
pub fetch_off : (pc : ℕ)
    → (touches (fetch_at pc) key_region && true && not (in_rom pc)) ≡ false
    → (touches (fetch_at pc) stack_region && not (in_rom pc)) ≡ false
    → touches_secrets (fetch_at pc) ≡ false
fetch_off pc key stack = grind (arith, nat_tests)

pub word_fetched-hide : (start : Start) (words : List ℕ) (logs : Logs) (pc : ℕ)
    → touches_secrets (fetch_at pc) ≡ false
    → word_fetched (open_start words start) (hide logs) (Some (fetch_at pc))
    ≡ word_fetched start logs (Some (fetch_at pc))
word_fetched-hide start words logs pc off = number_read-hide start words logs (pc / 2 * 2) Word off
