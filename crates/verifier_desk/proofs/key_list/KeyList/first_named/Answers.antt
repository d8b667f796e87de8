use Rattle.std.{proofs.Common.{◌∙◌, arith, ap, sym}, specs.Str.bytes_eq}
use Rattle.verifier_desk.{specs.DeviceKey.place_in, proofs.{KeyPlaces.place_named, PlacedWords.{missed, missed_behind, missed_there, placed_there, unplaced}}}
use Rattle.verifier_desk.proofs.key_list.KeyList.first_named.Goals as goal

pub returns-in_err-place : goal.returns-in_err-place
returns-in_err-place c =
    c.from_residual.ensures
    ∙ unplaced c.args.name.now c.self.inside.devices.items
    (missed (λ device. device.name) c.self.inside.devices.items (place_in c.self.inside.names)
    c.args.name.now c.self.invariant.1 (sym c.get.ensures ∙ c.in_err-place.was))
    ∙ ap (place_named c.args.name.now) c.self.view_is

pub returns-then-place-len : goal.returns-then-place-len
returns-then-place-len c =
    unplaced c.args.name.now c.self.inside.devices.items
    (missed_behind (λ device. device.name) c.self.inside.devices.items
    (place_in c.self.inside.names) c.args.name.now c.in_ok-place.place c.self.invariant.1
    (sym c.get.ensures ∙ c.in_ok-place.was)
    (grind (arith, c.if-place-len.true, c.len.ensures, c.self.inside.devices.ok)))
    ∙ ap (place_named c.args.name.now) c.self.view_is

pub returns-then-eq : goal.returns-then-eq
returns-then-eq c =
    placed_there c.args.name.now c.self.inside.devices.items c.in_ok-place.place
    c.index.result.now c.self.invariant.0 c.index.ensures
    (ap (λ one. bytes_eq one c.args.name.now) (sym c.name.ensures.bytes) ∙ sym c.eq.ensures
    ∙ c.if-eq.true)
    (grind (arith, c.if-place-len.false, c.len.ensures, c.self.inside.devices.ok))
    ∙ ap (place_named c.args.name.now) c.self.view_is

pub returns-else-eq : goal.returns-else-eq
returns-else-eq c =
    unplaced c.args.name.now c.self.inside.devices.items
    (missed_there (λ device. device.name) c.self.inside.devices.items
    (place_in c.self.inside.names) c.args.name.now c.in_ok-place.place c.index.result.now
    c.self.invariant.1 (sym c.get.ensures ∙ c.in_ok-place.was) c.index.ensures
    (ap (λ one. bytes_eq one c.args.name.now) (sym c.name.ensures.bytes) ∙ sym c.eq.ensures
    ∙ c.if-eq.false)
    (grind (arith, c.if-place-len.false, c.len.ensures, c.self.inside.devices.ok)))
    ∙ ap (place_named c.args.name.now) c.self.view_is
