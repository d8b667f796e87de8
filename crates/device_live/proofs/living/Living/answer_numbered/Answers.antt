use Rattle.std.specs.Prelude.{option_map}
use Rattle.device_live.{specs.Conversation.answer_to, proofs.Answered.{counted, numbered-cut, numbered-refused, numbered-told}}
use Rattle.device_live.proofs.living.Living.answer_numbered.Goals as goal

pub returns-in-Ok-clause-answers : goal.returns-in-Ok-clause-answers
returns-in-Ok-clause-answers g c = λ start life stands.
    let begun = counted g.D.Digest32.hash g.G.TraceFlag.flag c.args.self.now start life
    c.saturating_add-self.result stands in
    numbered-told g.D.Digest32.hash g.G.TraceFlag.flag g.W.Sink start life c.args.sink.now
    c.answer_short.new.sink c.answer_short.new.self
    (answer_to start life (option_map (λ line. line.now) c.args.line))
    (rw c.in-Ok.is at (c.answer_short.ensures.answers start life begun))

pub returns-in-Err-Kind-clause-answers : goal.returns-in-Err-Kind-clause-answers
returns-in-Err-Kind-clause-answers g c = λ start life stands.
    let begun = counted g.D.Digest32.hash g.G.TraceFlag.flag c.args.self.now start life
    c.saturating_add-self.result stands in
    rw c.halt_on_fault.ensures
    (numbered-refused g.D.Digest32.hash g.G.TraceFlag.flag g.W.Sink start life c.args.sink.now
    c.answer_short.new.sink c.print_refusal.new.sink c.answer_short.new.self c.in-Err-Kind.kind
    (answer_to start life (option_map (λ line. line.now) c.args.line))
    c.print_refusal.result
    (rw (c.in-Err-Kind.is, c.in-Err-Kind.field-0-is) at
    (c.answer_short.ensures.answers start life begun))
    (rw c.answer_short.ensures.lines c.print_refusal.ensures.puts)
    c.print_refusal.ensures.counts)

pub returns-in-Err-Memory-clause-answers : goal.returns-in-Err-Memory-clause-answers
returns-in-Err-Memory-clause-answers g c = λ start life stands.
    let begun = counted g.D.Digest32.hash g.G.TraceFlag.flag c.args.self.now start life
    c.saturating_add-self.result stands in
    rw (c.in-Err-Memory.is, c.in-Err-Memory.field-0-is) at
    (c.answer_short.ensures.answers start life begun)

pub returns-in-Err-Write-clause-answers : goal.returns-in-Err-Write-clause-answers
returns-in-Err-Write-clause-answers g c = λ start life stands.
    let begun = counted g.D.Digest32.hash g.G.TraceFlag.flag c.args.self.now start life
    c.saturating_add-self.result stands in
    numbered-cut g.D.Digest32.hash g.G.TraceFlag.flag g.W.Sink start life c.args.sink.now
    c.answer_short.new.sink c.answer_short.new.self _
    (answer_to start life (option_map (λ line. line.now) c.args.line))
    (rw (c.in-Err-Write.is, c.in-Err-Write.field-0-is) at
    (c.answer_short.ensures.answers start life begun))
