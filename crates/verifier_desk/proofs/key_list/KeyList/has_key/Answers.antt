use Rattle.std.{proofs.Common.{◌∙◌, arith, ap, sym}, specs.Str.bytes_eq}
use Rattle.verifier_desk.{specs.DeviceKey.{has_key, place_in}, proofs.PlacedWords.{keyed_there, missed, missed_behind, unkeyed}}
use Rattle.verifier_desk.proofs.key_list.KeyList.has_key.Goals as goal

pub returns-then-place-len : goal.returns-then-place-len
returns-then-place-len c =
    keyed_there c.args.key.now c.self.inside.devices.items (place_in c.self.inside.keys)
    c.in-Some.place c.index.result.now c.eq.result c.self.invariant.2
    (sym c.get.ensures ∙ c.in-Some.is) c.index.ensures
    (ap (λ one. bytes_eq one c.args.key.now) (sym c.key.ensures) ∙ sym c.eq.ensures)
    (grind (arith, c.if-place-len.true, c.len.ensures, c.self.inside.devices.ok))
    ∙ ap (has_key c.args.key.now) c.self.view_is

pub returns-else-place-len : goal.returns-else-place-len
returns-else-place-len c =
    grind (arith, c.if-place-len.false)
    ∙ sym (unkeyed c.args.key.now c.self.inside.devices.items
    (missed_behind (λ device. device.key) c.self.inside.devices.items
    (place_in c.self.inside.keys) c.args.key.now c.in-Some.place c.self.invariant.2
    (sym c.get.ensures ∙ c.in-Some.is)
    (grind (arith, c.if-place-len.false, c.len.ensures, c.self.inside.devices.ok))))
    ∙ ap (has_key c.args.key.now) c.self.view_is

pub returns-in-None : goal.returns-in-None
returns-in-None c =
    sym (unkeyed c.args.key.now c.self.inside.devices.items
    (missed (λ device. device.key) c.self.inside.devices.items (place_in c.self.inside.keys)
    c.args.key.now c.self.invariant.2 (sym c.get.ensures ∙ c.in-None.is)))
    ∙ ap (has_key c.args.key.now) c.self.view_is
