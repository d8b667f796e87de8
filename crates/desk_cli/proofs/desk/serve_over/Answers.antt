use Rattle.std.proofs.Common.{◌≡◌, ◌<◌, Some, None, inr, length, rules}
use Rattle.mem_map.specs.Image.{byte_in}
use Rattle.verifier_desk.specs.{Desk.desk_with, DeviceKey.first_gone}
use Rattle.desk_cli.proofs.DeskComplete.{found-as, gone-below}
use Rattle.desk_cli.proofs.desk.serve_over.Goals as goal

pub overflow_add-result-in-Some : goal.overflow_add-result-in-Some
overflow_add-result-in-Some g c =
    let below : c.in-Some.place < length c.args.values.devices =
    gone-below c.entries-entries.result.now c.args.values.devices c.in-Some.place
    (found-as c.first_gone.result (first_gone c.entries-entries.result.now 0 c.args.values.devices)
    (Some c.in-Some.place) c.first_gone.ensures c.in-Some.is) in
    search (rules, below)

pub returns-clause-meets : goal.returns-clause-meets
returns-clause-meets g c =
    let values = c.args.values in
    let entries = c.entries-entries.result.now in
    let here : first_gone entries 0 values.devices ≡ None =
    found-as c.first_gone.result (first_gone entries 0 values.devices) None c.first_gone.ensures
    c.in_default.is in (
      entries,
      c.entries-entries.ensures,
      λ keeps. inr (
        rw c.in-Ok-None.field-0-is at c.in-Ok-None.ensures,
        here,
        c.serve_from.ensures.served
            (desk_with values.devices (byte_in values.image) values.policy entries)
            c.new-desk.ensures keeps,
      ),
    )
