use Rattle.std.proofs.Common.{◌≡◌, ◌<◌, List, ℕ, IfSome, length}
use Rattle.sqlite_wal.specs.Recovery.{page_after}
use Rattle.desk_database.specs.Log.{HasFrames, first_page_by, stored_page}
use Rattle.desk_database.proofs.log_fit.last_first_page.Given as goal

abbrev pub invariant-loop-at : goal.invariant-loop-at
invariant-loop-at l = record {
  within : IfSome l.last (λ n. n < length l.fn.numbers);
  page : (log db : List ℕ) → HasFrames log l.fn.numbers
      → page_after stored_page log db 1 l.at ≡ first_page_by log db l.last;
}
