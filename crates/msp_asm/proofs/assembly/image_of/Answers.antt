use Rattle.std.{proofs.Common.{◌∙◌, ap, sym, subst, Err, reverse, take}, specs.Result.result_err}
use Rattle.mem_map.specs.Image.{byte_in}
use Rattle.msp_asm.{specs.{Value.{Scope, scope_in}, Statement.bytes_of, SecondPass.{byte_placed, second_pass_fault}, FirstPassState.AnswersFault}, proofs.{LinesSoFar.{earlier_more, sound_more, fault_of_all}, SecondPassMore.{layout-scope, placed_more}}}
use Rattle.msp_asm.proofs.assembly.image_of.Goals as goal

pub returns-in-Err-place_statement-clause-fault : goal.returns-in-Err-place_statement-clause-fault
returns-in-Err-place_statement-clause-fault c =
    let i = c.loop-i.i in
    let statements = c.args.statements.now in
    let statement = c.index-statements-i.result in
    let scope = layout-scope c.args.layout.now statements i (scope_in c.scope-scope.result)
    c.requires c.loop-i-test.true c.scope-scope.ensures in
    rw c.in_line.ensures
    (fault_of_all (second_pass_fault (reverse statements)) statements i _ statement
    c.in-Err-place_statement.fault c.loop-i-test.true c.index-statements-i.is
    c.loop-i.invariant.sound
    (subst (λ (it : Scope). AnswersFault (Err c.in-Err-place_statement.fault)
    (result_err (bytes_of it statement.body))) scope c.in-Err-place_statement.ensures.fault))

pub loop-i-preserved : goal.loop-i-preserved
loop-i-preserved c =
    let i = c.loop-i.i in
    let statements = c.args.statements.now in
    let all = reverse statements in
    let statement = c.index-statements-i.result in
    let scope = layout-scope c.args.layout.now statements i (scope_in c.scope-scope.result)
    c.requires c.loop-i-test.true c.scope-scope.ensures in
    let more = earlier_more statements i _ statement c.loop-i-test.true c.index-statements-i.is in
    record {
      sound = sound_more (second_pass_fault all) statements i _ statement
          c.in_default.field-0 c.loop-i-test.true c.index-statements-i.is c.loop-i.invariant.sound
          (ap (λ (it : Scope). result_err (bytes_of it statement.body)) (sym scope)
          ∙ c.in_default.ensures.fault);
      bytes = λ place is.
          placed_more all (reverse (take i statements)) statement
          (scope_in c.scope-scope.result) (byte_in c.loop-i.image)
          (byte_in c.place_statement.new.image) place scope
          (c.loop-i.invariant.bytes place is) (c.in_default.ensures.bytes place is)
          ∙ ap (λ lines. byte_placed all lines place) (sym more);
    }
