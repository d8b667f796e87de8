use Rattle.std.proofs.Common.{sym}
use Rattle.hex_loader.proofs.ReadLines.{line_read, fault_read, no_end, no_fault, bytes_read}
use Rattle.hex_loader.proofs.reader.read_into.Goals as goal

pub returns-in-Err-clause-fault : goal.returns-in-Err-clause-fault
returns-in-Err-clause-fault c =
    let loop = c.loop-number in
    let at = loop.invariant.2 in
    sym (fault_read c.args.text.now loop.number-iterator c.next.new.self loop.count
    c.in-Some.number c.in-Some.line.now loop.reader
    c.in-Err.kind at c.in-Some.ensures.steps (c.in-Err.ensures.fault at.earlier at.stands))

pub loop-number-preserved : goal.loop-number-preserved
loop-number-preserved c =
    let loop = c.loop-number in
    let at = loop.invariant.2 in (
      tt,
      tt,
      line_read c.args.text.now loop.number-iterator c.next.new.self loop.count c.in-Some.number
          c.in-Some.line.now loop.reader c.read_line.new.self
          at c.in-Some.ensures.steps (c.in_default.ensures.fault at.earlier at.stands)
          (c.in_default.ensures.taken at.earlier at.stands),
    )

pub returns-then-not-reader-clause-fault : goal.returns-then-not-reader-clause-fault
returns-then-not-reader-clause-fault c =
    let loop = c.loop-number in
    sym (no_end c.args.text.now loop.number-iterator loop.count loop.reader loop.invariant.2
    c.in-None.ensures.steps.0 c.if-not-reader.true)

pub returns-clause-bytes : goal.returns-clause-bytes
returns-clause-bytes c =
    let loop = c.loop-number in
    bytes_read c.args.text.now loop.number-iterator loop.count loop.reader loop.invariant.2
    c.in-None.ensures.steps.0

pub returns-clause-fault : goal.returns-clause-fault
returns-clause-fault c =
    let loop = c.loop-number in
    sym (no_fault c.args.text.now loop.number-iterator loop.count loop.reader loop.invariant.2
    c.in-None.ensures.steps.0 c.if-not-reader.false)
