use Rattle.std.proofs.Common.{◌≤◌, arith}
use Rattle.device_live.{specs.Life.Life, proofs.Answered.{run-cut, run-late, run-told, run-unstanding}}
use Rattle.device_live.proofs.living.Living.run.Goals as goal

pub returns-then-steps-clause-answers : goal.returns-then-steps-clause-answers
returns-then-steps-clause-answers g c = λ start life stands.
    let made = c.steps.ensures start life stands in
    run-late g.D.Digest32.hash g.G.TraceFlag.flag g.W.Sink start life c.args.sink.now
    c.args.self.now c.args.steps (omega (arith, made, c.if-steps.true)) stands

pub returns-in_err-live_on-clause-answers : goal.returns-in_err-live_on-clause-answers
returns-in_err-live_on-clause-answers g c = λ start life stands.
    let made = c.steps.ensures start life stands in
    let on : life.steps ≤ c.args.steps = omega (arith, made, c.if-steps.false) in
    run-cut g.D.Digest32.hash g.G.TraceFlag.flag g.W.Sink start life c.args.sink.now
    c.live_on.new.sink c.live_on.new.sink c.args.steps on c.live_on.new.self
    c.in_err-live_on.field-0.0 c.from_residual.result c.from_residual.ensures.1
    (c.in_err-live_on.ensures.lives start life stands on) c.in_err-live_on.ensures.counts.failed

pub returns-in_err-print_standing-clause-answers :
    goal.returns-in_err-print_standing-clause-answers
returns-in_err-print_standing-clause-answers g c = λ start life stands.
    let made = c.steps.ensures start life stands in
    let on : life.steps ≤ c.args.steps = omega (arith, made, c.if-steps.false) in
    let lives = c.in_ok-live_on.ensures.lives start life stands on in
    let later : Life = record life { steps = c.args.steps } in
    run-unstanding g.D.Digest32.hash g.G.TraceFlag.flag g.W.Sink start life c.args.sink.now
    c.live_on.new.sink c.print_standing.new.sink c.args.steps on c.live_on.new.self
    c.in_err-print_standing.field-0.0 c.from_residual-in_err-print_standing.result
    c.from_residual-in_err-print_standing.ensures.1 lives.1
    (c.in_err-print_standing.ensures.puts start later lives.0).prefix
    (rw c.in_ok-live_on.ensures.counts.quiet at c.in_err-print_standing.ensures.counts.failed)

pub returns-clause-answers : goal.returns-clause-answers
returns-clause-answers g c = λ start life stands.
    let made = c.steps.ensures start life stands in
    let on : life.steps ≤ c.args.steps = omega (arith, made, c.if-steps.false) in
    let lives = c.in_ok-live_on.ensures.lives start life stands on in
    let later : Life = record life { steps = c.args.steps } in
    run-told g.D.Digest32.hash g.G.TraceFlag.flag g.W.Sink start life c.args.sink.now
    c.live_on.new.sink c.print_standing.new.sink c.args.steps on c.live_on.new.self lives.0 lives.1
    (c.in_ok-print_standing.ensures.puts start later lives.0).all
