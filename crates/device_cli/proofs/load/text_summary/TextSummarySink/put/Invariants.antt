use Rattle.std.proofs.Common.{◌≡◌, ◌++◌, ℕ, List, take}
use Rattle.device_cli.specs.TextSummary.{TallyStandsFor}
use Rattle.device_cli.proofs.load.text_summary.TextSummarySink.put.Given as goal

abbrev pub invariant-loop-byte : goal.invariant-loop-byte
invariant-loop-byte l = record {
  tally : (text : List ℕ) → TallyStandsFor l.fn.self.tally text
      → TallyStandsFor l.self.tally (text ++ take l.byte-index l.piece);
  hasher : l.self.hasher ≡ l.fn.self.hasher;
}
