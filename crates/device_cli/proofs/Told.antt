-- What a command puts of a play before a watcher.
use Rattle.std.{proofs.Common.{◌≡◌, ◌≤◌, ◌⊎◌, [], ℕ, Result, Ok, Err, inl, inr, refl, length, sym, arith, append-nil, append_assoc}, specs.Prelude.IsErrAnd}
use Rattle.device_types.specs.{Address.Bytes, TraceFlag.Flag}
use Rattle.hmac_core.specs.Hash.{Hash}
use Rattle.outside_edge.specs.Sink.{Puts, Takes}
use Rattle.hex_loader.specs.HexText.{hex_text}
use Rattle.device_trace.specs.{Trace.Play, Start.Start, Text.{lines_of, play_text}}
use Rattle.trace_files.specs.TraceText.{trace_text}
use Rattle.device_core.specs.declared.live.Live.{Live}
use Rattle.report_verifier.specs.Judge.{Judge}
use Rattle.device_play.{specs.{Account.{Account, whole_text}, Accounts.{dump_account, end_line_of, line_account, memory_after, trace_account, wave_account}, Cuts.CountsWriteFaults, Limit.most_steps, Watching.IsWatched, declared.put_fault.PutFault.{PutFault, TheVariants.{Write, Memory}}}, proofs.TracedStep.reads_back}
use Rattle.device_cli.specs.{declared.ending.Ending.Ending, Answer.PutsOutcome, Command.{dump_text, ReadsBack, wave_text}, JudgedPlay.judge_account, Play.text_outcome, Round.judged_outcome, RoundText.round_text, Row.{DevicePlay, Outcome, start_in, IsToldBy}}

pub play_text-whole : (start : Start) (play : Play)
    → play_text start play ≡ whole_text line_account start play
unfolding play_text
play_text-whole start play = refl

pub told-lines : (device_play : DevicePlay)
    → IsToldBy line_account (λ outcome. Unit {0}) (text_outcome play_text device_play) device_play
told-lines device_play =
    record {
      same_text = play_text-whole (start_in device_play) device_play.play;
      same_cuts = refl;
      holds = λ tally few is. tt;
    }

pub told-memory : (device_play : DevicePlay)
    → IsToldBy dump_account (λ outcome. Unit {0}) (text_outcome dump_text device_play) device_play
unfolding play_text
told-memory device_play =
    let start : Start = start_in device_play in
    record {
      same_text = append_assoc (lines_of start device_play.play)
          (end_line_of start device_play.play) (hex_text (memory_after start device_play.play));
      same_cuts = refl;
      holds = λ tally few is. tt;
    }

pub told-trace : (device_play : DevicePlay)
    → IsToldBy trace_account ReadsBack (text_outcome trace_text device_play) device_play
told-trace device_play =
    record {
      same_text = sym (append-nil (trace_text (start_in device_play) device_play.play));
      same_cuts = refl;
      holds = λ tally few is. reads_back (start_in device_play) device_play.play few is;
    }

pub told-wave : (device_play : DevicePlay)
    → IsToldBy wave_account (λ outcome. Unit {0}) (text_outcome wave_text device_play) device_play
told-wave device_play =
    record { same_text = refl; same_cuts = refl; holds = λ tally few is. tt }

pub told-round : (judge : Judge) (device_play : DevicePlay)
    → IsToldBy (judge_account judge) (λ outcome. Unit {0}) (judged_outcome judge device_play)
    device_play
unfolding round_text
told-round judge device_play =
    record {
      same_text = refl;
      same_cuts = refl;
      holds = λ tally few is. tt;
    }

-- what was put of the play that it is told of, and what holds of it
pub told-puts : {D G T S : Type 0} {hash : Hash D} {flag : Flag G} {stands : S → Bytes → Type 0}
    {account : Account T} {once_put : Outcome → Type 0} {old new : S} {outcome : Outcome}
    {play : Play} {result : Result (Live D G × T) PutFault} (device_play : DevicePlay)
    → IsToldBy account once_put outcome device_play
    → device_play.play ≡ play
    → IsWatched hash flag stands account old new (start_in device_play) play result
    → Puts stands old new outcome.text result
told-puts device_play told same watched = rw (told.same_text, same) watched.puts

pub told-whole : {D G T S : Type 0} {hash : Hash D} {flag : Flag G} {stands : S → Bytes → Type 0}
    {account : Account T} {once_put : Outcome → Type 0} {old new : S} {outcome : Outcome}
    {play : Play} {end : Live D G × T} (device_play : DevicePlay)
    → IsToldBy account once_put outcome device_play
    → device_play.play ≡ play
    → length play ≤ most_steps
    → IsWatched hash flag stands account old new (start_in device_play) play (Ok end)
    → once_put outcome
told-whole {end = end} device_play told same few watched =
    told.holds end.1 (rw same few) (rw same watched.counted)

-- no memory is taken where there is no text at which to stop for it
pub takes-no_memory : {D G T S : Type 0} {hash : Hash D} {flag : Flag G}
    {stands : S → Bytes → Type 0} {account : Account T} {old new : S} {start : Start} {play : Play}
    {result : Result (Live D G × T) PutFault}
    → account.cuts start play ≡ []
    → result ≡ Err Memory
    → IsWatched hash flag stands account old new start play result
    → ⊥
takes-no_memory none is watched = omega (arith, (rw none at (rw is at watched.memory) refl).1.1)

pub write-rose : {rose : Type 0} → ((Write ≡ Write) × rose) ⊎ (Write ≡ Memory) → rose
write-rose (inl counted) = counted.1
write-rose (inr memory) = absurd (cc memory)

stopped : {D G T S : Type 0} {hash : Hash D} {flag : Flag G} (stands : S → Bytes → Type 0)
    (faults : S → ℕ) (account : Account T) (old new : S) (outcome : Outcome)
    (device_play : DevicePlay) (fault : PutFault)
    → IsToldBy account (λ outcome. Unit {0}) outcome device_play
    → IsWatched {D = D} {G = G} hash flag stands account old new (start_in device_play)
    device_play.play (Err fault)
    → CountsWriteFaults {V = Live D G × T} faults old new (Err fault)
    → PutsOutcome stands faults old new outcome (Err fault)
stopped stands faults account old new outcome device_play Write told watched counts =
    (rw told.same_text watched.puts.prefix, write-rose counts.failed)
stopped stands faults account old new outcome device_play Memory told watched counts =
    rw told.same_cuts (watched.memory refl)

-- where a watcher stopped
pub stopped-puts : {D G T S : Type 0} {hash : Hash D} {flag : Flag G} (stands : S → Bytes → Type 0)
    (faults : S → ℕ) (account : Account T) (old new : S) (outcome : Outcome)
    (device_play : DevicePlay) (fault : PutFault) (result : Result Ending PutFault)
    → IsErrAnd result (λ error. error ≡ fault)
    → IsToldBy account (λ outcome. Unit {0}) outcome device_play
    → IsWatched {D = D} {G = G} hash flag stands account old new (start_in device_play)
    device_play.play (Err fault)
    → CountsWriteFaults {V = Live D G × T} faults old new (Err fault)
    → PutsOutcome stands faults old new outcome result
stopped-puts stands faults account old new outcome device_play fault (Ok ending) is told watched
    counts =
    absurd is
stopped-puts stands faults account old new outcome device_play fault (Err error) is told watched
    counts =
    rw is (stopped stands faults account old new outcome device_play fault told watched counts)

-- and where the play was made to its end
pub made-text : {D G T S : Type 0} {hash : Hash D} {flag : Flag G} (stands : S → Bytes → Type 0)
    (account : Account T) (old new : S) (outcome : Outcome) (device_play : DevicePlay)
    (end : Live D G × T)
    → IsToldBy account (λ outcome. Unit {0}) outcome device_play
    → IsWatched hash flag stands account old new (start_in device_play) device_play.play (Ok end)
    → Takes stands old new outcome.text
made-text stands account old new outcome device_play end told watched =
    rw told.same_text watched.puts.all
