use Rattle.std.proofs.Common.{◌≡◌, ◌∙◌, ℕ, None, false, refl, sym, ap}
use Rattle.device_types.specs.{declared.kind.Kind.TheVariants.Cpu, Address.even}
use Rattle.part_definitions.specs.{CpuRegister.pc_of, CpuState.{Boundary, cpu_after}, NextAccess.is_illegal}
use Rattle.msp_exec.specs.Course.{level_begun}
use Rattle.device_trace.specs.Progress.{level_after, Progress, Runs, last_registers}
use borrow.Author.Tests.{not-true}
use Rattle.device_core.proofs.{CalmRegion.turn-access, CalmRuns.{fetch-open, fetched-legal, goes-calmly, opcode-fetched}, Levels.level-begun, Turns.{boundary-access, boundary-step, turn-within}}
use Rattle.device_core.proofs.machine.Machine.try_calm_fetch.Goals as goal

pub returns-then-begin_here-clause-made : goal.returns-then-begin_here-clause-made
returns-then-begin_here-clause-made g c = λ made start logs stands fetches region.
    let quiet = g.Q.Quiet.quiet c.args.quiet.now in
    let value = c.in-Some.word in
    let here = fetches.at_boundary in
    let regs = last_registers logs.progress in
    let kind = sym fetches.fetches ∙ boundary-step logs regs here in
    let within = turn-within logs regs Cpu None here (sym fetches.uninterrupted) kind refl in
    let turn = c.turn_of_fetch-turn.ensures start logs stands fetches in
    let reads = c.in-Some.ensures start logs regs turn.same_bus turn.same_turn region in
    let illegal : is_illegal value ≡ false =
    not-true (is_illegal value) (sym c.begin_here.ensures.taken ∙ c.if-begin_here.true) in
    let access =
    boundary-access start logs regs (opcode-fetched logs regs here fetches.fetches) within in
    let legal = fetched-legal start logs value (even (pc_of regs)) access reads.reads illegal in
    let parts = rw within at turn.same_progress in
    let quietly =
    ap (λ access. quiet access None) (sym (turn-access start logs regs _ turn.same_turn))
    ∙ sym c.is_quiet.ensures
    ∙ c.if-not-is_quiet.false in
    goes-calmly g.D.Digest32.hash g.G.TraceFlag.flag quiet _ c.args.code start logs value
    (Boundary regs) region reads legal within c.end_calm_step.ensures.last
    (c.end_calm_step.ensures.stands start logs regs c.args.code value turn.same_bus turn.same_turn
    region reads legal)
    stands.same_word
    (c.begin_here.ensures.stands regs parts.same_processor c.if-begin_here.true)
    parts.same_call
    (c.begin_here.ensures.level c.if-begin_here.true
    ∙ ap (λ (level : ℕ). level_begun level value) stands.same_level
    ∙ level-begun regs value logs.level
    ∙ ap (λ (before : Progress). level_after before (Runs (cpu_after (Boundary regs) value))
    logs.level) (sym here))
    quietly
    (fetch-open quiet start logs here access quietly)
