use Rattle.std.proofs.Common.{◌≡◌, ◌<◌, ℕ, None, length, reverse, take, slice_index}
use Rattle.msp_asm.specs.{FirstPass.{scope_after, first_fault, first_pass_fault}, FirstPassStands.FirstPassStandsFor}
use Rattle.msp_asm.proofs.assembly.names_and_places.Given as goal

abbrev pub invariant-loop-statement : goal.invariant-loop-statement
invariant-loop-statement l = record {
  stands : FirstPassStandsFor l.pass (reverse (take l.statement-index l.statements));
  sound : first_fault first_pass_fault (reverse (take l.statement-index l.statements))
      ≡ None;
  count : length l.places.items ≡ l.statement-index;
  places : (i : ℕ) → i < l.statement-index
      → slice_index l.places.items i ≡ (scope_after (reverse (take i l.statements))).here;
}
