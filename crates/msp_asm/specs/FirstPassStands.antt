-- What a first pass in the midst of a source stands for.
use Rattle.std.specs.Prelude.{◌≡◌, List}
use Rattle.asm_text.specs.declared.statement.Statement.{Statement}
use Rattle.msp_asm.specs.{Value.{Scope, value_in}, declared.first_pass.FirstPass.FirstPass, FirstPass.{scope_after, is_placed}, FirstPassState.occupies}

-- what the next statement is read in
abbrev pub scope_of : FirstPass → Scope
scope_of pass = record { names = value_in pass.names; here = pass.place }

-- the first pass has taken these statements, newest first
pub record FirstPassStandsFor (pass : FirstPass) (earlier : List Statement) : Type 0 where
  pub scope : scope_of pass ≡ scope_after earlier
  pub taken : occupies pass.occupancy ≡ is_placed earlier
