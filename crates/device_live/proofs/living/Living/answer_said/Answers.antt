use Rattle.play_script.specs.Script.{events_in}
use Rattle.device_live.{specs.Answer.{memory_line, registers_line}, proofs.Answered.{happens-refused, happens-taken, says-cut}}
use Rattle.device_live.proofs.living.Living.answer_said.Goals as goal

pub returns-in_err-expect-in-Happens-clause-answers :
    goal.returns-in_err-expect-in-Happens-clause-answers
returns-in_err-expect-in-Happens-clause-answers g c = λ start life stands.
    rw c.in-Happens.is (happens-refused g.D.Digest32.hash g.G.TraceFlag.flag g.W.Sink start life
    c.args.sink.now
    c.expect.new.self c.in-Happens.step (events_in c.in-Happens.happening)
    c.in_err-expect-in-Happens.field-0.0 c.from_residual.result c.from_residual.ensures.1
    (c.in_err-expect-in-Happens.ensures.takes start life stands))

pub returns-in_ok-expect-in-Happens-clause-answers :
    goal.returns-in_ok-expect-in-Happens-clause-answers
returns-in_ok-expect-in-Happens-clause-answers g c = λ start life stands.
    rw c.in-Happens.is (happens-taken g.D.Digest32.hash g.G.TraceFlag.flag g.W.Sink start life
    c.args.sink.now
    c.expect.new.self c.in-Happens.step (events_in c.in-Happens.happening)
    (c.in_ok-expect-in-Happens.ensures.takes start life stands))

pub returns-in_err-show_registers-in-Registers-clause-answers :
    goal.returns-in_err-show_registers-in-Registers-clause-answers
returns-in_err-show_registers-in-Registers-clause-answers g c = λ start life stands.
    rw c.in-Registers.is (says-cut g.D.Digest32.hash g.G.TraceFlag.flag g.W.Sink start life
    c.args.sink.now
    c.show_registers.new.sink c.args.self.now (registers_line start life)
    c.in_err-show_registers-in-Registers.field-0.0
    c.from_residual-in_err-show_registers-in-Registers.result
    c.from_residual-in_err-show_registers-in-Registers.ensures.1
    (c.in_err-show_registers-in-Registers.ensures.puts start life stands).prefix
    c.in_err-show_registers-in-Registers.ensures.counts.failed)

pub returns-in_err-show_memory-in-Memory-clause-answers :
    goal.returns-in_err-show_memory-in-Memory-clause-answers
returns-in_err-show_memory-in-Memory-clause-answers g c = λ start life stands.
    rw c.in-Memory.is (says-cut g.D.Digest32.hash g.G.TraceFlag.flag g.W.Sink start life
    c.args.sink.now
    c.show_memory.new.sink c.args.self.now
    (memory_line start life c.in-Memory.place c.in-Memory.count)
    c.in_err-show_memory-in-Memory.field-0.0
    c.from_residual-in_err-show_memory-in-Memory.result
    c.from_residual-in_err-show_memory-in-Memory.ensures.1
    (c.in_err-show_memory-in-Memory.ensures.puts start life stands).prefix
    c.in_err-show_memory-in-Memory.ensures.counts.failed)
