use Rattle.std.proofs.Common.{◌∙◌, ℕ, ap}
use Rattle.debug_session.specs.Place.{logs_at, play_to, sight_at}
use Rattle.debug_walk.specs.Walk.{place_of}
use Rattle.printed_lines.specs.Line.{end_line}
use Rattle.device_trace.specs.{Logs.exec_of, Progress.next_pc_of}
use Rattle.device_play.proofs.WatchedPlay.{length-play_of}
use Rattle.device_debug.{specs.Telling.GrownText, proofs.Refusals.grown-all}
use Rattle.device_debug.proofs.monitor.end_text.Goals as goal

pub returns-clause-text : goal.returns-clause-text
unfolding logs_at sight_at
returns-clause-text g c = λ run walks.
    let place = place_of c.args.halted.now in
    grown-all _ _ _ _ (ap (λ (one : GrownText). one.bytes) c.new-text.ensures)
    c.in_ok-memory_result.ensures.same
    (c.print_end_of.ensures.puts run.start (play_to run place) (rw c.live.ensures walks.stands))
    ∙ ap (λ (steps : ℕ). end_line steps (next_pc_of (logs_at run place).progress)
    (exec_of (logs_at run place))) (length-play_of run.events_at place)
