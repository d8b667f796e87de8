use Rattle.std.proofs.Common.{◌<◌, length, rules}
use Rattle.desk_database.proofs.LogLemmas.{page_step, within_step}
use Rattle.desk_database.proofs.log_fit.last_first_page.Goals as goal

pub loop-at-preserved : goal.loop-at-preserved
loop-at-preserved c =
    let low : c.loop-at.at < length c.args.numbers.now = search rules in
    record {
      within = rw c.last_after-last.ensures (within_step _ _ _ _ low c.loop-at.invariant.within);
      page = λ log db has. rw c.last_after-last.ensures
          (page_step log db c.args.numbers.now c.loop-at.at c.loop-at.last has low
          (c.loop-at.invariant.page log db has));
    }
