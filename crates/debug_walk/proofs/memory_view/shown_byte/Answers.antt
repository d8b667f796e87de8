use Rattle.std.proofs.{Common.{◌≡◌, ◌%◌, ◌∙◌, Some, None, ap, sym}, lemmas.Bool.cond-true}
use Rattle.word_arith.specs.declared.size.Size.TheVariants.{Byte}
use Rattle.device_trace.specs.Signals.{number_read}
use Rattle.debug_session.specs.Place.{is_shown, logs_at, play_to, sight_at}
use Rattle.debug_walk.proofs.memory_view.shown_byte.Goals as goal

pub returns : goal.returns
unfolding logs_at sight_at
returns g c = λ run place stands shown.
    let peeked : c.peek.result ≡ number_read run.start (logs_at run place) c.args.at Byte =
    c.peek.ensures run.start (play_to run place) stands in
    cond-true (is_shown c.args.at)
    (Some (number_read run.start (logs_at run place) c.args.at Byte % 256)) None shown
    ∙ ap (λ number. Some (number % 256)) (sym peeked)
