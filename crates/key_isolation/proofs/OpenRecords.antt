-- Records without secrets stay as they are when they are blanked.
use Rattle.std.{proofs.{Common.{◌≡◌, ℕ, List, Option, None, IfSome, arith}, lemmas.Bool.Decides.nat_tests}, specs.Prelude.{IsTrue, IsFalse}}
use Rattle.device_types.specs.{declared.{access.Access.Access, bus_record.BusRecord.BusRecord, kind.Kind.{Kind, TheVariants.Rom}, rule.Rule.Rule}}
use Rattle.part_definitions.specs.Memory.{is_image_place}
use Rattle.device_trace.specs.{Blank.{blank_access, blank_value, blank_record, is_secret}, Logs.{with_released_word, released_words_after}}
use Rattle.key_isolation.specs.Openness.{IsOpen, releases_word}

blank_access-open : (access : Option Access) → IfSome access IsOpen → blank_access access ≡ access
blank_access-open access apart = grind (arith, nat_tests)

blank_value-open : (access : Option Access) (value : ℕ) → IfSome access IsOpen
    → blank_value access value ≡ value
blank_value-open access value apart = grind (arith, nat_tests)

pub blank_record-open : (entry : BusRecord) → IfSome entry.cpu IsOpen → IfSome entry.dma IsOpen
    → blank_record entry ≡ entry
blank_record-open entry cpu dma =
    λ i. record {
      kind = entry.kind;
      pc = entry.pc;
      regs = entry.regs;
      cpu = blank_access-open entry.cpu cpu i;
      value = blank_value-open entry.cpu entry.value cpu i;
      dma = blank_access-open entry.dma dma i;
      dma_value = blank_value-open entry.dma entry.dma_value dma i;
      irq = entry.irq;
      reset = entry.reset;
    }

pub image_place-open : (place : ℕ) → IsTrue (is_image_place place) → IsFalse (is_secret place)
image_place-open place holds = grind (arith, nat_tests)

-- an access that does not write to the MAC
with_released_word-elsewhere : (access : Option Access) (words : List ℕ)
    → IsFalse (releases_word None Rom access)
    → with_released_word access words ≡ words
with_released_word-elsewhere access words off = grind (arith, nat_tests)

pub released_words_after-same : (rule : Option Rule) (kind : Kind) (access : Option Access)
    (words : List ℕ)
    → IsFalse (releases_word rule kind access)
    → released_words_after rule kind access words ≡ words
released_words_after-same rule kind access words off = grind (arith, with_released_word-elsewhere)
