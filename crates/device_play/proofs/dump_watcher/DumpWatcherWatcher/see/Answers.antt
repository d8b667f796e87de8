use Rattle.device_play.proofs.dump_watcher.DumpWatcherWatcher.see.Goals as goal

pub returns-clause-seen : goal.returns-clause-seen
returns-clause-seen g c = λ start events play shown.
    let seen = c.see.ensures.seen start events play (record {
      device = shown.device;
      number = shown.number;
      counted = tt;
    }) in
    record { counted = seen.counted; puts = seen.puts; memory = seen.memory }
