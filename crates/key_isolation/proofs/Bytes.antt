-- Memory outside the secrets, with the key away and what was written to the exclusive stack hidden.
use Rattle.std.{proofs.{Common.{◌≡◌, ℕ, ◌-◌, Bool, true, false, List, [], ◌∷◌, map, refl, ap, sym, ◌∙◌, arith, ◌+◌, ◌*◌, ◌/◌, ◌%◌, Option, Some, None, IfSome}, lemmas.Bool.{cond-true, cond-false, or_parts, eqb-true, Decides.nat_tests}}, specs.Prelude.{◌==◌, if◌then◌else◌, ◌||◌}}
use Rattle.device_types.specs.{Map.{lies_in, key_region, stack_region, touches}, declared.{access.Access.{Access, TheVariants.{Fetch, Read, Write}}, rule.Rule.Rule}, Access.IsFormed}
use Rattle.part_definitions.specs.Memory.{PowerOn, ShownFlags, MemoryWrite, is_image_place, takes_write, first_byte, fixed_byte, last_written, byte_at, with_access}
use Rattle.device_trace.specs.{Blank.{is_secret, blank_access}, Logs.memory_after}
use Rattle.word_arith.specs.declared.size.Size.TheVariants.{Byte, Word}

-- two choices by one test
pub same_if : {A : Type 0} (test : Bool) (x x' y y' : A)
    → (test ≡ true → x ≡ x') → (test ≡ false → y ≡ y')
    → (if test then x else y) ≡ (if test then x' else y')
same_if true x x' y y' left right = left refl
same_if false x x' y y' left right = right refl

pub zero_either : (test : Bool) → ◌≡◌ {A = ℕ} (if test then 0 else 0) 0
zero_either true = refl
zero_either false = refl

-- a write, with 0 in place of a byte of the exclusive stack
abbrev pub hide_write : MemoryWrite → MemoryWrite
hide_write write =
    record {
      place = write.place;
      byte =
          if lies_in stack_region write.place then 0 else write.byte;
    }

-- a key that is all 0
abbrev pub keyless : PowerOn → PowerOn
keyless power = record { key = λ i. 0; image = power.image }

pub last_written-hide : (writes : List MemoryWrite) (place before : ℕ)
    → lies_in stack_region place ≡ false
    → last_written (map hide_write writes) place before ≡ last_written writes place before
last_written-hide [] place before off = refl
last_written-hide (write ∷ writes) place before off =
    same_if (write.place == place)
    (if lies_in stack_region write.place then 0 else write.byte) write.byte
    (last_written (map hide_write writes) place before) (last_written writes place before)
    (λ here.
    cond-false (lies_in stack_region write.place) 0 write.byte
    (ap (lies_in stack_region) (eqb-true write.place place here) ∙ off))
    (λ there. last_written-hide writes place before off)

-- outside the secrets
pub byte_at-hide : (power : PowerOn) (flags : ShownFlags) (writes : List MemoryWrite) (place : ℕ)
    → is_secret place ≡ false
    → byte_at (keyless power) flags (map hide_write writes) place ≡ byte_at power flags writes place
byte_at-hide power flags writes place off =
    let parts = or_parts (lies_in key_region place) (lies_in stack_region place) off in
    same_if (takes_write place)
    (last_written (map hide_write writes) place (first_byte power place))
    (last_written writes place (first_byte power place)) (fixed_byte (keyless power) flags place)
    (fixed_byte power flags place)
    (λ takes. last_written-hide writes place (first_byte power place) parts.1)
    (λ is_fixed.
    same_if (lies_in key_region place) 0 (power.key (place - key_region.first)) _ _
    (λ key. absurd (let clash : true ≡ false = sym key ∙ parts.0 in cc))
    (λ other. refl))

-- the key reads as 0
key_takes_no_write : (place : ℕ) → lies_in key_region place ≡ true → takes_write place ≡ false
key_takes_no_write place within = grind (arith, nat_tests)

pub key_byte-hide : (power : PowerOn) (flags : ShownFlags) (writes : List MemoryWrite) (place : ℕ)
    → lies_in key_region place ≡ true → byte_at (keyless power) flags writes place ≡ 0
key_byte-hide power flags writes place within =
    cond-false (takes_write place) _ _ (key_takes_no_write place within)
    ∙ cond-true (lies_in key_region place) _ _ within

-- and so does the exclusive stack
stack_takes_write : (place : ℕ) → lies_in stack_region place ≡ true → takes_write place ≡ true
stack_takes_write place within = grind (arith, nat_tests)

stack_off_image : (place : ℕ) → lies_in stack_region place ≡ true → is_image_place place ≡ false
stack_off_image place within = grind (arith, nat_tests)

stack_begins_zero : (power : PowerOn) (place : ℕ) → lies_in stack_region place ≡ true
    → first_byte power place ≡ 0
stack_begins_zero power place within =
    cond-false (is_image_place place) _ _ (stack_off_image place within)

last_written-stack : (writes : List MemoryWrite) (place before : ℕ)
    → lies_in stack_region place ≡ true → before ≡ 0
    → last_written (map hide_write writes) place before ≡ 0
last_written-stack [] place before within begins = begins
last_written-stack (write ∷ writes) place before within begins =
    same_if (write.place == place)
    (if lies_in stack_region write.place then 0 else write.byte) 0
    (last_written (map hide_write writes) place before) 0
    (λ here.
    cond-true (lies_in stack_region write.place) 0 write.byte
    (ap (lies_in stack_region) (eqb-true write.place place here) ∙ within))
    (λ there. last_written-stack writes place before within begins)
    ∙ zero_either (write.place == place)

pub stack_byte-hide : (power : PowerOn) (flags : ShownFlags) (writes : List MemoryWrite)
    (place : ℕ)
    → lies_in stack_region place ≡ true
    → byte_at (keyless power) flags (map hide_write writes) place ≡ 0
stack_byte-hide power flags writes place within =
    cond-true (takes_write place) _ _ (stack_takes_write place within)
    ∙ last_written-stack writes place (first_byte (keyless power) place) within
    (stack_begins_zero (keyless power) place within)

-- What a blanked access writes is what the access writes, hidden.

-- both bytes of a word lie on one side of the stack's edges
low_side : (place : ℕ) → place % 2 ≡ 0
    → touches (Read place Word) stack_region ≡ lies_in stack_region (place / 2 * 2)
low_side place even = grind (arith, nat_tests)

high_side : (place : ℕ) → place % 2 ≡ 0
    → touches (Read place Word) stack_region ≡ lies_in stack_region (place / 2 * 2 + 1)
high_side place even = grind (arith, nat_tests)

byte-blank : (test : Bool) (number : ℕ)
    → (if test || false then 0 else number) % 256 ≡ (if test then 0 else number % 256)
byte-blank true number = refl
byte-blank false number = refl

low-blank : (test side : Bool) (number : ℕ)
    → test ≡ side → (if test then 0 else number) % 256 ≡ (if side then 0 else number % 256)
low-blank true side number same = ap (λ (t : Bool). if t then 0 else number % 256) same
low-blank false side number same = ap (λ (t : Bool). if t then 0 else number % 256) same

high-blank : (test side : Bool) (number : ℕ)
    → test ≡ side
    → (if test then 0 else number) / 256 % 256 ≡ (if side then 0 else number / 256 % 256)
high-blank true side number same = ap (λ (t : Bool). if t then 0 else number / 256 % 256) same
high-blank false side number same = ap (λ (t : Bool). if t then 0 else number / 256 % 256) same

pub with_access-hide : (access : Option Access) (writes : List MemoryWrite)
    → IfSome access IsFormed
    → with_access (blank_access access) (map hide_write writes)
    ≡ map hide_write (with_access access writes)
with_access-hide None writes is_formed = refl
with_access-hide (Some (Fetch place)) writes is_formed = refl
with_access-hide (Some (Read place size)) writes is_formed = refl
with_access-hide (Some (Write place Byte number)) writes is_formed =
    λ i. record {
      place = place;
      byte =
          byte-blank (lies_in stack_region place) number i;
    } ∷ map hide_write writes
with_access-hide (Some (Write place Word number)) writes is_formed =
    λ i. record {
      place = place / 2 * 2 + 1;
      byte = high-blank _ (lies_in stack_region (place / 2 * 2 + 1)) number
          (high_side place is_formed) i;
    }
    ∷ record {
      place = place / 2 * 2;
      byte = low-blank _ (lies_in stack_region (place / 2 * 2)) number (low_side place is_formed) i;
    }
    ∷ map hide_write writes

pub memory_after-hide : (rule : Option Rule) (cpu dma : Option Access) (writes : List MemoryWrite)
    → IfSome cpu IsFormed → IfSome dma IsFormed
    → memory_after rule (blank_access cpu) (blank_access dma) (map hide_write writes)
    ≡ map hide_write (memory_after rule cpu dma writes)
memory_after-hide None cpu dma writes cpu_formed dma_formed =
    ap (with_access (blank_access dma)) (with_access-hide cpu writes cpu_formed)
    ∙ with_access-hide dma (with_access cpu writes) dma_formed
memory_after-hide (Some rule) cpu dma writes cpu_formed dma_formed = refl
