-- Files that were read, whose values get names.
use Rattle.std.proofs.Common.{◌≡◌, ℕ, Ok, subst}
use Rattle.input_files.specs.{Row.RowOf, Reading.{Files, Leaves, Reads}}

-- the named values go on as the others did
pub named-read : {S A B Outcome : Type 0} {files : S → Files} {faults misses : S → ℕ}
    {old new : S} {row : RowOf Outcome} {rest : A → RowOf Outcome} (onward : B → RowOf Outcome)
    {values : A} (named : B)
    → Reads files faults misses old new row rest (Ok values)
    → rest values ≡ onward named
    → Reads files faults misses old new row onward (Ok named)
named-read {files = files} {old = old} {row = row} onward named reads same =
    record {
      values = subst (Leaves (files old) row) same reads.values;
      refusal = tt;
      order = tt;
      kept = reads.kept;
    }
