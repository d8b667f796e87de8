use Rattle.std.proofs.Common.{◌∙◌, None, false, sym, ap}
use Rattle.part_definitions.specs.CpuState.{cpu_after}
use Rattle.device_trace.specs.Progress.{last_registers}
use Rattle.device_core.{specs.Machine.cpu_of, proofs.{CalmRegion.{calm-answer, turn-access}, CalmRuns.{calm-kind, goes-calmly, middle-legal, middle-opcode, within-open}, Levels.level-middle, Turns.{middle-within, runs-middle, takes-value}}}
use Rattle.device_core.proofs.machine.Machine.try_calm_access.Goals as goal

pub returns-in-Some-clause-made : goal.returns-in-Some-clause-made
returns-in-Some-clause-made g c = λ made start logs stands middle region.
    let hash = g.D.Digest32.hash in
    let flag = g.G.TraceFlag.flag in
    let code = c.args.code in
    let value = c.in-Some.value in
    let quiet = g.Q.Quiet.quiet c.args.quiet.now in
    let regs = last_registers logs.progress in
    let state = cpu_of logs.progress in
    let turn = c.turn_in_the_middle-turn.ensures start logs stands middle in
    let reads = c.in-Some.ensures start logs regs turn.same_bus turn.same_turn region in
    let kind = calm-kind start logs reads in
    let legal = middle-legal start logs kind middle in
    let within = middle-within logs state (runs-middle logs.progress middle) middle in
    let answer = calm-answer flag code start logs value region reads legal in
    let processor = rw within at turn.same_progress.same_processor in
    let taken =
    c.try_take.ensures.taken state processor
    ∙ takes-value start logs false state value within (middle-opcode logs kind middle) answer in
    goes-calmly hash flag quiet _ code start logs value state region reads legal within
    c.end_calm_step.ensures.last
    (c.end_calm_step.ensures.stands start logs regs code value turn.same_bus turn.same_turn region
    reads legal)
    stands.same_word
    (c.try_take.ensures.stands state processor taken)
    (rw within at turn.same_progress.same_call)
    (c.try_take.ensures.level taken
    ∙ rw (processor.same_boundary ∙ middle) stands.same_level
    ∙ sym (level-middle logs.progress (cpu_after state value) logs.level middle))
    (ap (λ access. quiet access None) (sym (turn-access start logs regs _ turn.same_turn))
    ∙ sym c.is_quiet.ensures
    ∙ c.if-not-is_quiet.false)
    (within-open quiet logs middle)
