use Rattle.std.proofs.{Common.{rules, get_or, pos}, lemmas.Int.to_z-of_z}
use mir.Syntax.{w128}
use mir.Val.{SFits, to_z, of_z}
use Rattle.msp_asm.{specs.Statement.all_bytes, proofs.Lists.{value_added, value_refused}}
use Rattle.msp_asm.proofs.statement_bytes.push_values.Goals as goal

pub returns-in-Err : goal.returns-in-Err
returns-in-Err c =
    let at = c.loop-value in
    let values = c.args.values.now in
    let item = get_or values at.value-index (pos 0) in
    let fits : SFits w128 (get_or c.args.values.now at.value-index (pos 0)) = search rules in
    value_refused c.args.size (all_bytes c.args.size values) values at.value-index (pos 0)
    (to_z w128 (of_z w128 item)) c.args.bytes.now.items at.bytes.items c.push_value.new.bytes.items
    c.push_value.new.bytes.items at.invariant.prefix c.in-Err.fault (to_z-of_z w128 item fits)
    c.loop-value-test.true at.invariant.so_far c.in-Err.ensures

pub loop-value-preserved : goal.loop-value-preserved
loop-value-preserved c =
    let at = c.loop-value in
    let values = c.args.values.now in
    let item = get_or values at.value-index (pos 0) in
    let fits : SFits w128 (get_or c.args.values.now at.value-index (pos 0)) = search rules in
    let more = value_added c.args.size (all_bytes c.args.size values) values at.value-index (pos 0)
    (to_z w128 (of_z w128 item)) c.args.bytes.now.items at.bytes.items c.push_value.new.bytes.items
    at.invariant.prefix c.in_default.field-0 (to_z-of_z w128 item fits) c.loop-value-test.true
    at.invariant.added at.invariant.so_far c.in_default.ensures in
    record { prefix = more.0; added = more.1; so_far = more.2 }
