use Rattle.std.proofs.Common.{◌∙◌, ◌+◌, ap, sym, subst, ℕ, reverse, take}
use Rattle.msp_asm.{specs.{Value.Scope, FirstPass.{scope_after, first_pass_fault}, FirstPassStands.FirstPassStandsFor}, proofs.LinesSoFar.{earlier_more, sound_more, fault_of_all, places_more}}
use Rattle.msp_asm.proofs.assembly.names_and_places.Goals as goal

pub returns-in-Err-take-clause-fault : goal.returns-in-Err-take-clause-fault
returns-in-Err-take-clause-fault c =
    let at = c.loop-statement in
    let statements = c.args.statements.now in
    let earlier = reverse (take at.statement-index statements) in
    rw c.in_line.ensures
    (fault_of_all first_pass_fault statements at.statement-index _ c.statement-item.result
    c.in-Err-take.fault c.loop-statement-test.true c.statement-item.is at.invariant.sound
    (c.in-Err-take.ensures.fault earlier at.invariant.stands))

pub loop-statement-preserved : goal.loop-statement-preserved
loop-statement-preserved c =
    let at = c.loop-statement in
    let statements = c.args.statements.now in
    let earlier = reverse (take at.statement-index statements) in
    let took = c.in_default-take.ensures in
    let below = c.loop-statement-test.true in
    let more = earlier_more statements at.statement-index _ c.statement-item.result below
    c.statement-item.is in
    record {
      stands = subst (FirstPassStandsFor c.take.new.self) (sym more)
          (took.taken earlier at.invariant.stands);
      sound = sound_more first_pass_fault statements at.statement-index _
          c.statement-item.result c.in_default-take.field-0 below c.statement-item.is
          at.invariant.sound (took.fault earlier at.invariant.stands);
      count = c.in_default.ensures.count ∙ ap (λ (n : ℕ). n + 1) at.invariant.count;
      places = places_more (λ j. (scope_after (reverse (take j statements))).here)
          at.places.items c.push_place.new.places.items c.place.result at.statement-index
          at.invariant.count c.in_default.ensures.ok
          (c.place.ensures ∙ ap (λ (scope : Scope). scope.here) at.invariant.stands.scope)
          at.invariant.places;
    }
