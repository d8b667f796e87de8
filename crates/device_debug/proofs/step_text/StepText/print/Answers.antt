use Rattle.std.proofs.Common.{sym}
use Rattle.debug_session.specs.Place.{step_sight}
use Rattle.device_trace.specs.Trace.{play_of}
use Rattle.device_play.proofs.WatchedPlay.{length-play_of}
use Rattle.device_debug.proofs.ToldTexts.{traced-text}
use Rattle.device_debug.proofs.step_text.StepText.print.Goals as goal

pub returns-in-Lines : goal.returns-in-Lines
unfolding step_sight
returns-in-Lines g c = λ run stands.
    rw c.in-Lines.is
    (c.print_last_step.ensures.puts run.start (run.events_at c.args.step)
    (play_of run.events_at c.args.step) stands (sym (length-play_of run.events_at c.args.step)))

pub returns-in-Trace : goal.returns-in-Trace
returns-in-Trace g c = λ run stands.
    let line = traced-text run c.args.step c.last_trace_line.result
    (c.last_trace_line.ensures.line run.start _ stands) in
    rw (c.in-Trace.is, ← line) c.print_line.ensures.puts
