use Rattle.std.proofs.Common.{◌≡◌, ◌∙◌, Some, None, sym, subst}
use Rattle.device_trace.specs.{Logs.vector_of, Progress.{Held, last_registers}, Signals.step_kind, Step.record_of}
use Rattle.device_core.{specs.Bus.{TurnStandsFor, answer_in}, proofs.{Decisions.refused-decision, Calls.ended, Levels.level-step, NextProgress.progress-refused, Turns.registers-within}}
use Rattle.device_core.proofs.machine.Machine.make_turn.Goals as goal

pub returns-in-Some-clause-stands : goal.returns-in-Some-clause-stands
returns-in-Some-clause-stands g c = λ start logs here dma.
    let regs : c.registers-regs.result.now ≡ last_registers logs.progress =
    c.registers-regs.ensures _ here.same_progress.same_processor
    ∙ registers-within logs.progress (step_kind logs) (vector_of logs) in
    let same = subst (λ regs. TurnStandsFor regs c.args.turn.now start logs) (sym regs)
    here.same_turn in
    let answer : answer_in (record_of start logs c.args.script_reset) ≡ Some c.in-Some.value =
    sym (c.act.ensures.answer start logs here.same_bus same dma) ∙ c.in-Some.is in
    let ends = c.take.ensures.progress start logs c.args.script_reset here.same_word here.same_turn
    here.same_progress here.same_level answer in
    ended c.take.ensures.bus ends here.same_word
    (c.act.ensures.stands start logs here.same_bus same dma)

pub returns-in-None-clause-stands : goal.returns-in-None-clause-stands
returns-in-None-clause-stands g c = λ start logs here dma.
    let regs : c.registers-regs.result.now ≡ last_registers logs.progress =
    c.registers-regs.ensures _ here.same_progress.same_processor
    ∙ registers-within logs.progress (step_kind logs) (vector_of logs) in
    let same = subst (λ regs. TurnStandsFor regs c.args.turn.now start logs) (sym regs)
    here.same_turn in
    let answer : answer_in (record_of start logs c.args.script_reset) ≡ None =
    sym (c.act.ensures.answer start logs here.same_bus same dma) ∙ c.in-None.is in
    let ends = c.hold.ensures.ends _ (progress-refused start logs c.args.script_reset answer)
    (refused-decision start logs c.args.script_reset answer)
    (level-step start logs c.args.script_reset Held
    (progress-refused start logs c.args.script_reset answer)) in
    ended c.hold.ensures.bus ends here.same_word
    (c.act.ensures.stands start logs here.same_bus same dma)
