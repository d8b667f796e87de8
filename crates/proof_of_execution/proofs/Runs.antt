-- A run of the executable region over a history, one record more at a time, whichever interrupts it
-- may have.
use Rattle.std.{proofs.{Common.{◌≡◌, ℕ, true, false, not, List, [], ◌∷◌, ◌++◌, ◌⊎◌, inl, inr, Option, Some, refl, ap, sym, ◌∙◌}, lemmas.Bool.{cases_Bool, and_from, and_parts, not_from_false, eqb-true}}, specs.{Prelude.◌==◌, List.list_all}}
use Rattle.device_types.specs.{declared.{bus_record.BusRecord.BusRecord, bounds.Bounds.Bounds}, Bounds.{are_valid, executable_region}, Kind.is_irq, Map.lies_in, ExecFlag.{SeenRecord, is_opcode_fetch, fetches_first, ran_inside, ran_at, runs_inside}}
use Rattle.device_trace.specs.{Progress.Progress, RegionRun.{Interrupts, NoInterrupts, TrustedInterrupts, is_inside, runs_with, keeps_code_with, keeps_output, begins_run, ends_run, has_left, RegionRun}}
use Rattle.proof_of_execution.proofs.{Entries.Sleeps, InterruptEntries.StaysInside, Keeps.{KeepsBoth, output-kept, leaves_at_end}, Regions.min-inside}

-- asleep at the region's first place, which is told of a run with no interrupts alone
abbrev pub Rests : Interrupts → Bounds → Progress → Type 0
Rests NoInterrupts bounds progress = Sleeps bounds progress
Rests TrustedInterrupts bounds progress = ⊥

-- after an interrupt entry that a run may have the next step is in the region
abbrev pub Leads : Interrupts → Bounds → BusRecord → Progress → Type 0
Leads NoInterrupts bounds entry progress = Unit {0}
Leads TrustedInterrupts bounds entry progress =
    is_irq entry.kind ≡ true → StaysInside bounds progress

-- a run that has begun and goes on, with its newest record
pub record Inside (allowed : Interrupts) (bounds : Bounds) (history : List BusRecord)
    (progress : Progress) (last : Option ℕ) : Type 0 where
  pub newest : BusRecord
  pub older : List BusRecord
  pub before : List BusRecord
  pub parts : history ≡ (newest ∷ older) ++ before
  pub begins : begins_run bounds (newest ∷ older) ≡ true
  pub runs : list_all (runs_with allowed bounds) (newest ∷ older) ≡ true
  pub code : list_all (keeps_code_with allowed bounds) (newest ∷ older) ≡ true
  pub is_last : last ≡ Some newest.pc
  pub inside : is_inside bounds newest ≡ true
  pub leads : Leads allowed bounds newest progress

-- a whole run, and the last record is outside
pub record Outside (allowed : Interrupts) (bounds : Bounds) (history : List BusRecord)
    (last : Option ℕ) : Type 0 where
  pub whole : RegionRun allowed bounds history
  pub outside : ran_inside last (executable_region bounds) ≡ false

-- in the region, after a whole run, or asleep at the region's first place
pub record RunState (allowed : Interrupts) (bounds : Bounds) (history : List BusRecord)
    (progress : Progress) (last : Option ℕ) : Type 0 where
  pub valid : are_valid bounds ≡ true
  pub run :
      Inside allowed bounds history progress last
      ⊎ (Outside allowed bounds history last
      ⊎ (Rests allowed bounds progress × (ran_inside last (executable_region bounds) ≡ true)))

-- what is known of a record that is not refused and clears no flag
pub record Goes (allowed : Interrupts) (last : Option ℕ) (now : SeenRecord)
    (before after : Progress) : Type 0 where
  pub both : KeepsBoth last now
  pub code : keeps_code_with allowed now.bounds now.entry ≡ true
  pub runs : runs_inside now ≡ true → runs_with allowed now.bounds now.entry ≡ true
  pub leads : runs_inside now ≡ true → Leads allowed now.bounds now.entry after
  pub enters : runs_inside now ≡ true → ran_inside last (executable_region now.bounds) ≡ false
      → (fetches_first now.bounds now.entry ≡ true) ⊎ Rests allowed now.bounds after
  pub ends : (newest : BusRecord) (older : List BusRecord) → Leads allowed now.bounds newest before
      → runs_inside now ≡ false → (newest.pc == now.bounds.er_max) ≡ true
      → ends_run allowed now.bounds (newest ∷ older) ≡ true
  pub rests : Rests allowed now.bounds before
      → (runs_inside now ≡ true) × Rests allowed now.bounds after

-- the state with one record more
abbrev pub StateWith : Interrupts → SeenRecord → List BusRecord → Progress → Type 0
StateWith allowed now history after =
    RunState allowed now.bounds (now.entry ∷ history) after (Some now.entry.pc)

all_left : (bounds : Bounds) (after : List BusRecord)
    → has_left bounds after ≡ true → list_all (λ one. not (is_inside bounds one)) after ≡ true
all_left bounds [] rest = refl
all_left bounds (entry ∷ after) rest = rest

-- with a record more
module _ (allowed : Interrupts) (last : Option ℕ) (now : SeenRecord) (history : List BusRecord)
    (before after : Progress) (goes : Goes allowed last now before after) where
  -- the run begins
  pub run_begins : are_valid now.bounds ≡ true → fetches_first now.bounds now.entry ≡ true
      → StateWith allowed now history after
  run_begins valid first =
      let place = and_parts (is_opcode_fetch now.entry) (now.entry.pc == now.bounds.er_min) first in
      let inside : runs_inside now ≡ true =
      ap (lies_in (executable_region now.bounds)) (eqb-true now.entry.pc now.bounds.er_min place.1)
      ∙ min-inside now.bounds valid in
      record {
        valid = valid;
        run = inl (record {
          newest = now.entry;
          older = [];
          before = history;
          parts = refl;
          begins = first;
          runs = and_from (runs_with allowed now.bounds now.entry) true (goes.runs inside) refl;
          code = and_from (keeps_code_with allowed now.bounds now.entry) true goes.code refl;
          is_last = refl;
          inside = inside;
          leads = goes.leads inside;
        });
      }

  -- it goes on
  run_goes_on : runs_inside now ≡ true → Inside allowed now.bounds history before last
      → Inside allowed now.bounds (now.entry ∷ history) after (Some now.entry.pc)
  run_goes_on inside run =
      record {
        newest = now.entry;
        older = run.newest ∷ run.older;
        before = run.before;
        parts = ap (λ (entries : List BusRecord). now.entry ∷ entries) run.parts;
        begins = run.begins;
        runs = and_from (runs_with allowed now.bounds now.entry) _ (goes.runs inside) run.runs;
        code = and_from (keeps_code_with allowed now.bounds now.entry) _ goes.code run.code;
        is_last = refl;
        inside = inside;
        leads = goes.leads inside;
      }

  -- it is left
  run_ends : are_valid now.bounds ≡ true → runs_inside now ≡ false
      → Inside allowed now.bounds history before last
      → Outside allowed now.bounds (now.entry ∷ history) (Some now.entry.pc)
  run_ends valid outside run =
      let was_inside : ran_inside last (executable_region now.bounds) ≡ true =
      ap (λ pc. ran_inside pc (executable_region now.bounds)) run.is_last ∙ run.inside in
      let at_end : (run.newest.pc == now.bounds.er_max) ≡ true =
      ap (λ (pc : Option ℕ). ran_at pc now.bounds.er_max) (sym run.is_last)
      ∙ leaves_at_end last now goes.both was_inside outside in
      let whole : RegionRun allowed now.bounds (now.entry ∷ history) =
      record {
        valid = valid;
        after = now.entry ∷ [];
        run = run.newest ∷ run.older;
        before = run.before;
        parts = ap (λ (entries : List BusRecord). now.entry ∷ entries) run.parts;
        begins = run.begins;
        ends = goes.ends run.newest run.older run.leads outside at_end;
        runs = run.runs;
        left = and_from (not (is_inside now.bounds now.entry)) true (not_from_false _ outside) refl;
        code = and_from (keeps_code_with allowed now.bounds now.entry) _ goes.code run.code;
        output = and_from (keeps_output now.bounds now.entry) true
            (output-kept last now goes.both outside) refl;
      } in
      record { whole = whole; outside = outside }

  -- more records outside
  stays_outside : runs_inside now ≡ false → Outside allowed now.bounds history last
      → Outside allowed now.bounds (now.entry ∷ history) (Some now.entry.pc)
  stays_outside outside run =
      let whole : RegionRun allowed now.bounds (now.entry ∷ history) =
      record {
        valid = run.whole.valid;
        after = now.entry ∷ run.whole.after;
        run = run.whole.run;
        before = run.whole.before;
        parts = ap (λ (entries : List BusRecord). now.entry ∷ entries) run.whole.parts;
        begins = run.whole.begins;
        ends = run.whole.ends;
        runs = run.whole.runs;
        left =
            and_from (not (is_inside now.bounds now.entry)) _ (not_from_false _ outside)
            (all_left now.bounds run.whole.after run.whole.left);
        code = and_from (keeps_code_with allowed now.bounds now.entry) _ goes.code run.whole.code;
        output = and_from (keeps_output now.bounds now.entry) _
            (output-kept last now goes.both outside) run.whole.output;
      } in
      record { whole = whole; outside = outside }

  from_inside : are_valid now.bounds ≡ true → Inside allowed now.bounds history before last
      → StateWith allowed now history after
  from_inside valid run =
      record {
        valid = valid;
        run =
            elim (cases_Bool (runs_inside now)) [
              | inl inside ↦ inl (run_goes_on inside run)
              | inr outside ↦ inr (inl (run_ends valid outside run))
            ];
      }

  from_outside : are_valid now.bounds ≡ true → Outside allowed now.bounds history last
      → StateWith allowed now history after
  from_outside valid run =
      elim (cases_Bool (runs_inside now)) [
        | inl inside ↦
            elim (goes.enters inside run.outside) [
              | inl first ↦ run_begins valid first
              | inr rests ↦ record { valid = valid; run = inr (inr (rests, inside)) }
            ]
        | inr outside ↦
            record { valid = valid; run = inr (inl (stays_outside outside run)) }
      ]

  pub state_after : RunState allowed now.bounds history before last
      → StateWith allowed now history after
  state_after state =
      elim state.run [
        | inl inside ↦ from_inside state.valid inside
        | inr rest ↦
            elim rest [
              | inl outside ↦ from_outside state.valid outside
              | inr rests ↦
                  let on = goes.rests rests.0 in
                  record { valid = state.valid; run = inr (inr (on.1, on.0)) }
            ]
      ]

-- where the last record is outside, the region has run whole
pub run_outside : (allowed : Interrupts) (bounds : Bounds) (history : List BusRecord)
    (progress : Progress) (last : Option ℕ)
    → RunState allowed bounds history progress last
    → ran_inside last (executable_region bounds) ≡ false → RegionRun allowed bounds history
run_outside allowed bounds history progress last state outside =
    let apart : ran_inside last (executable_region bounds) ≡ true → RegionRun allowed bounds history
    = λ inside. let clash : true ≡ false = sym inside ∙ outside in absurd (cc) in
    elim state.run [
      | inl run ↦
          apart (ap (λ pc. ran_inside pc (executable_region bounds)) run.is_last ∙ run.inside)
      | inr rest ↦ elim rest [ inl run ↦ run.whole | inr rests ↦ apart rests.1 ]
    ]
