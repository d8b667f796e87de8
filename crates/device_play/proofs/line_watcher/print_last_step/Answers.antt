-- The lines of a step, from what a device tells of it.
use Rattle.std.proofs.Common.{◌≡◌, ◌++◌, ◌∷◌, ℕ, List, Result, Option, length, refl}
use Rattle.device_types.specs.{declared.{event.Event.Event, rule.Rule.Rule}, Report.ReportFields}
use Rattle.outside_edge.specs.Sink.{Puts}
use Rattle.device_trace.specs.{Trace.{Play, trace}, Start.Start, Text.{last_byte_sent, last_denial, last_report, some_line, lines_of_step}}
use Rattle.printed_lines.specs.Line.{sent_line, reset_line, report_line, denied_line}
use Rattle.device_core.specs.Silence.{last_rule}
use Rattle.device_play.proofs.WriteCounts.{takes-nothing}
use Rattle.device_play.proofs.line_watcher.print_last_step.Goals as goal

-- those of the last step of a play, which has this number
lines-of :
    (start : Start) (events : List Event) (play : Play) (step : ℕ) (tx : Option ℕ)
    (rule : Option Rule) (report : Option ReportFields) (denied : Option ℕ)
    → step ≡ length play
    → tx ≡ last_byte_sent (trace start (events ∷ play))
    → rule ≡ last_rule (trace start (events ∷ play))
    → report ≡ last_report start (events ∷ play)
    → denied ≡ last_denial start (events ∷ play)
    → lines_of_step start events play
    ≡ some_line (sent_line step) tx ++ some_line (reset_line step) rule
    ++ some_line report_line report ++ some_line (denied_line step) denied
unfolding trace
lines-of start events play step tx rule report denied size byte breaks tells denies =
    rw (byte, breaks, tells, denies, size) refl

puts-lines :
    {S V E : Type 0} {stands : S → List ℕ → Type 0} {old new : S} {result : Result V E}
    (start : Start) (events : List Event) (play : Play) (step : ℕ) (tx : Option ℕ)
    (rule : Option Rule) (report : Option ReportFields) (denied : Option ℕ)
    → step ≡ length play
    → tx ≡ last_byte_sent (trace start (events ∷ play))
    → rule ≡ last_rule (trace start (events ∷ play))
    → report ≡ last_report start (events ∷ play)
    → denied ≡ last_denial start (events ∷ play)
    → Puts stands old new
    (some_line (sent_line step) tx ++ some_line (reset_line step) rule
    ++ some_line report_line report ++ some_line (denied_line step) denied)
    result
    → Puts stands old new (lines_of_step start events play) result
puts-lines start events play step tx rule report denied size byte breaks tells denies puts =
    rw (lines-of start events play step tx rule report denied size byte breaks tells denies) puts

pub returns-in-Some-clause-puts : goal.returns-in-Some-clause-puts
returns-in-Some-clause-puts g c = λ start events play stands same.
    let told = c.line.ensures start (events ∷ play) stands in
    puts-lines start events play c.args.step _ _ _ _ same told.sent told.refused told.report
    told.denied (rw c.in-Some.is c.print_step_line.ensures.puts)

pub returns-in-None-clause-puts : goal.returns-in-None-clause-puts
returns-in-None-clause-puts g c = λ start events play stands same.
    let told = c.line.ensures start (events ∷ play) stands in
    puts-lines start events play c.args.step _ _ _ _ same told.sent told.refused told.report
    told.denied
    (rw c.in-None.is
    (record { all = takes-nothing g.W.Sink.stands c.args.sink.now; prefix = tt }))
