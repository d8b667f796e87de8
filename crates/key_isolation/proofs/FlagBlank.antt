-- The EXEC flag does not look at what is blanked, and the second flag is given it alone.
use Rattle.std.{proofs.{Common.{arith, ◌≡◌, ℕ, Bool, true, false, List, [], ◌∷◌, Option, map, refl, ap, ◌∙◌}, lemmas.Bool.Decides.nat_tests}, specs.{Prelude.{if◌then◌else◌, ◌||◌}, List.list_any}}
use Rattle.device_types.specs.{declared.{access.Access.Access, bus_record.BusRecord.BusRecord}, ExecFlag.{SeenRecord, clears, exec, starts_run, last_pc, records_since}}
use Rattle.device_trace.specs.{Blank.{blank_access, blank_record, blank_seen, blank_value}, Logs.{goes_on_in_call, records_until_call}}
use Rattle.trace_facts.proofs.BlankRecords.{last_pc-blank, starts_run-blank}

-- The EXEC flag of records that are changed where it does not look.

-- one record more, where the test of it is the same
goes_on : (change : SeenRecord → SeenRecord) (test : Bool) (now : SeenRecord)
    (older changed : List SeenRecord)
    → changed ≡ map change older
    → (if test then [] else change now ∷ changed)
    ≡ map change (if test then [] else now ∷ older)
goes_on change true now older changed rest = refl
goes_on change false now older changed rest =
    ap (λ (rest : List SeenRecord). change now ∷ rest) rest

module _ (change : SeenRecord → SeenRecord)
    (clears-same : (last : Option ℕ) (now : SeenRecord)
    → clears last (change now) ≡ clears last now)
    (starts_run-same : (now : SeenRecord) → starts_run (change now) ≡ starts_run now)
    (last_pc-same : (records : List SeenRecord) → last_pc (map change records) ≡ last_pc records)
  where
    records_since-same : (records : List SeenRecord)
        → records_since clears (map change records) ≡ map change (records_since clears records)
    records_since-same [] = refl
    records_since-same (now ∷ before) =
        (λ i. if clears-same (last_pc-same before i) now i then []
        else change now ∷ records_since clears (map change before))
        ∙ goes_on change (clears (last_pc before) now) now (records_since clears before)
        (records_since clears (map change before)) (records_since-same before)

    any_start-same : (records : List SeenRecord)
        → list_any starts_run (map change records) ≡ list_any starts_run records
    any_start-same [] = refl
    any_start-same (now ∷ before) =
        λ i. starts_run-same now i || any_start-same before i

    pub exec-same : (records : List SeenRecord) → exec (map change records) ≡ exec records
    unfolding exec
    exec-same records =
        ap (list_any starts_run) (records_since-same records)
        ∙ any_start-same (records_since clears records)

clears-blank : (last : Option ℕ) (now : SeenRecord) → clears last (blank_seen now) ≡ clears last now
clears-blank last now = grind arith

pub exec-blank : (records : List SeenRecord) → exec (map blank_seen records) ≡ exec records
exec-blank records = exec-same blank_seen clears-blank starts_run-blank last_pc-blank records

-- the records that the second flag sees
choice : (test : Bool) (now : SeenRecord) (before older' older : List SeenRecord)
    → older' ≡ map blank_seen older
    → (if test then older' else map blank_seen (now ∷ before))
    ≡ map blank_seen (if test then older else now ∷ before)
choice true now before older' older rest = rest
choice false now before older' older rest = refl

until_call-blank : (records : List SeenRecord)
    → records_until_call (map blank_seen records) ≡ map blank_seen (records_until_call records)
until_call-blank [] = refl
until_call-blank (now ∷ before) =
    choice (goes_on_in_call now.entry) now before
    (records_until_call (map blank_seen before)) (records_until_call before)
    (until_call-blank before)

-- what is blanked once is blanked
pub blank_access-twice : (access : Option Access)
    → blank_access (blank_access access) ≡ blank_access access
blank_access-twice access = grind (arith, nat_tests)

pub blank_value-twice : (access : Option Access) (value : ℕ)
    → blank_value (blank_access access) (blank_value access value) ≡ blank_value access value
blank_value-twice access value = grind (arith, nat_tests)

pub blank_record-twice : (entry : BusRecord)
    → blank_record (blank_record entry) ≡ blank_record entry
blank_record-twice entry =
    λ i. record {
      kind = entry.kind;
      pc = entry.pc;
      regs = entry.regs;
      cpu = blank_access-twice entry.cpu i;
      value = blank_value-twice entry.cpu entry.value i;
      dma = blank_access-twice entry.dma i;
      dma_value = blank_value-twice entry.dma entry.dma_value i;
      irq = entry.irq;
      reset = entry.reset;
    }

blank_seen-twice : (now : SeenRecord) → blank_seen (blank_seen now) ≡ blank_seen now
blank_seen-twice now =
    λ i. record { entry = blank_record-twice now.entry i; bounds = now.bounds }

blanked-twice : (records : List SeenRecord)
    → map blank_seen (map blank_seen records) ≡ map blank_seen records
blanked-twice [] = refl
blanked-twice (now ∷ before) =
    λ i. blank_seen-twice now i ∷ blanked-twice before i

pub seen_by_flag-blank : (records : List SeenRecord)
    → map blank_seen (records_until_call (map blank_seen records))
    ≡ map blank_seen (records_until_call records)
seen_by_flag-blank records =
    ap (map blank_seen) (until_call-blank records) ∙ blanked-twice (records_until_call records)
