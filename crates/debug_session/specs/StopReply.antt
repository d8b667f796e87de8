-- The stop replies of GDB's remote serial protocol: `T` with a signal's number, and why.
use Rattle.std.specs.Prelude.{ℕ, ◌++◌, List, codes, drop, nat_lt, if◌then◌else◌}
use Rattle.device_types.specs.{declared.rule.Rule.{Rule, TheVariants.{I1, K4, K5, K6}}}
use Rattle.printed_lines.specs.Line.{word_digits}
use Rattle.debug_session.specs.{declared.{stop.Stop.{Stop, TheVariants.{Plain, Stepped, Watched, Refused, Interrupted, End, Begin}}, watch.WatchKind.WatchKind}}
use Rattle.debug_session.specs.declared.watch.WatchKind.TheVariants as watch

-- a word in hexadecimal digits of lower case, without zeros in front of others
abbrev pub zeros_of : ℕ → ℕ
zeros_of word =
    if nat_lt word 0x10 then 3
    else if nat_lt word 0x100 then 2
    else if nat_lt word 0x1000 then 1
    else 0

abbrev pub hexadecimal : ℕ → List ℕ
hexadecimal word = drop (zeros_of word) (word_digits word)

abbrev pub watch_word : WatchKind → List ℕ
watch_word watch.Write = codes "T05watch:"
watch_word watch.Read = codes "T05rwatch:"
watch_word watch.Either = codes "T05awatch:"

-- SIGILL at an illegal instruction, SIGBUS at an access of the DMA, else SIGSEGV
abbrev pub refusal_reply : Rule → List ℕ
refusal_reply I1 = codes "T04"
refusal_reply K4 = codes "T0a"
refusal_reply K5 = codes "T0a"
refusal_reply K6 = codes "T0a"
refusal_reply rule = codes "T0b"

-- SIGINT where an interrupt came, else SIGTRAP: with where a watch was hit, or with where nothing
-- is left to go to
abbrev pub stop_reply : Stop → List ℕ
stop_reply Plain = codes "T05"
stop_reply Stepped = codes "T05"
stop_reply (Watched hit) = watch_word hit.kind ++ hexadecimal hit.place ++ codes ";"
stop_reply (Refused rule) = refusal_reply rule
stop_reply Interrupted = codes "T02"
stop_reply End = codes "T05replaylog:end;"
stop_reply Begin = codes "T05replaylog:begin;"
