-- One statement more in the first pass.
use Rattle.std.proofs.Common.{◌≡◌, ◌∙◌, ap, ℕ, Bool, ◌||◌, List, ◌∷◌, OnOk, Result, Ok, Err}
use Rattle.text_scan.specs.declared.word_fault.WordFault.{WordFault}
use Rattle.asm_text.specs.declared.statement.Statement.{Statement}
use Rattle.msp_asm.specs.{Value.Scope, declared.first_pass.FirstPass.FirstPass, FirstPass.{scope_after, is_placed, next_scope, places_byte}, FirstPassState.occupies, FirstPassStands.{scope_of, FirstPassStandsFor}}
use Rattle.msp_asm.proofs.first_pass.FirstPass.take.Goals as goal

stands_next : (earlier : List Statement) (statement : Statement)
    (old new : FirstPass)
    → FirstPassStandsFor old earlier
    → scope_of new ≡ next_scope (scope_of old) statement
    → ((place : ℕ) → occupies new.occupancy place
    ≡ (places_byte (scope_of old) statement.body place || occupies old.occupancy place))
    → FirstPassStandsFor new (statement ∷ earlier)
unfolding scope_after is_placed
stands_next earlier statement old new at next takes =
    record {
      scope = next ∙ ap (λ (scope : Scope). next_scope scope statement) at.scope;
      taken = λ i. λ place.
          (takes place
          ∙ ap (λ (scope : Scope). places_byte scope statement.body place || occupies old.occupancy
          place) at.scope
          ∙ ap (λ (f : ℕ → Bool). places_byte (scope_after earlier) statement.body place
          || f place) at.taken) i;
    }

stands_more : (earlier : List Statement) (statement : Statement)
    (old new : FirstPass) (result : Result Unit WordFault)
    → FirstPassStandsFor old earlier
    → OnOk result (scope_of new ≡ next_scope (scope_of old) statement)
    → OnOk result ((place : ℕ) → occupies new.occupancy place
    ≡ (places_byte (scope_of old) statement.body place || occupies old.occupancy place))
    → OnOk result (FirstPassStandsFor new (statement ∷ earlier))
stands_more earlier statement old new (Ok u) at next takes =
    stands_next earlier statement old new at next takes
stands_more earlier statement old new (Err fault) at next takes = tt

pub returns-clause-taken : goal.returns-clause-taken
returns-clause-taken c = λ earlier at.
    stands_more earlier c.args.statement.now c.args.self.now c.add.new.self c.add.result at
    c.add.ensures.scope c.add.ensures.taken
