-- A watcher that was shown a step, and only writes.
use Rattle.std.{proofs.Common.{◌≡◌, ◌∷◌, List, Result, Ok, Err}, specs.Prelude.IsErrAnd}
use Rattle.device_types.specs.{Address.Bytes, declared.event.Event.Event}
use Rattle.outside_edge.specs.Sink.{Takes, TakesPrefix}
use Rattle.device_trace.specs.{Trace.Play, Start.Start}
use Rattle.device_play.specs.{Account.Account, Watching.HasSeen, declared.put_fault.PutFault.{PutFault, TheVariants.Write}}

pub seen-all :
    {S T V : Type 0} {stands : S → Bytes → Type 0} {account : Account T} {old new : S} {tally : T}
    {start : Start} {events : List Event} {play : Play} {value : V}
    → account.tallies start (events ∷ play) tally
    → Takes stands old new (account.step_text start events play)
    → HasSeen stands account old new tally start events play (Ok value)
seen-all counted takes =
    record { counted = counted; puts = record { all = takes; prefix = tt }; memory = tt }

pub seen-failed :
    {S T V : Type 0} {stands : S → Bytes → Type 0} {account : Account T} {old new : S} {tally : T}
    {start : Start} {events : List Event} {play : Play} (result : Result V PutFault)
    → IsErrAnd result (λ fault. fault ≡ Write)
    → TakesPrefix stands old new (account.step_text start events play)
    → HasSeen stands account old new tally start events play result
seen-failed (Ok value) is prefix = absurd is
seen-failed (Err fault) is prefix = record {
  counted = tt;
  puts = record { all = tt; prefix = prefix };
  memory = λ memory. absurd (cc (is, memory));
}
