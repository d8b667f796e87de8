use Rattle.std.proofs.Common.{◌∙◌, ap, subst, sym}
use Rattle.verifier_desk.{specs.DeviceKey.{key_named, has_key, ArePlaced}, proofs.{KeyPlaces.distinct_with, PlacedWords.{kept_places, places_with, new_name, new_key}}}
use Rattle.verifier_desk.proofs.key_list.KeyList.push.Goals as goal

pub invariant_of-self : goal.invariant_of-self
invariant_of-self c = (
  c.self.invariant.0,
  subst (ArePlaced (λ device. device.name) c.self.inside.devices.items)
      (sym c.in_err-insert.ensures.kept) c.self.invariant.1,
  c.self.invariant.2,
)

pub invariant_of-self-in_err-insert-2 : goal.invariant_of-self-in_err-insert-2
invariant_of-self-in_err-insert-2 c = (
  c.self.invariant.0,
  kept_places (λ device. device.name) c.self.inside.devices.items _ _ c.args.device _ _
      c.name.ensures.bytes
      (new_name c.args.device.name c.self.inside.devices.items
      (ap (key_named c.args.device.name) c.self.view_is ∙ c.requires.name))
      c.in_ok-insert.ensures.placed c.self.invariant.1,
  subst (ArePlaced (λ device. device.key) c.self.inside.devices.items)
      (sym c.in_err-insert-2.ensures.kept) c.self.invariant.2,
)

pub invariant_of-self-in_err-push : goal.invariant_of-self-in_err-push
invariant_of-self-in_err-push c = rw c.in_err-push.ensures.items (
  c.self.invariant.0,
  kept_places (λ device. device.name) c.self.inside.devices.items _ _ c.args.device _ _
      c.name.ensures.bytes
      (new_name c.args.device.name c.self.inside.devices.items
      (ap (key_named c.args.device.name) c.self.view_is ∙ c.requires.name))
      c.in_ok-insert.ensures.placed c.self.invariant.1,
  kept_places (λ device. device.key) c.self.inside.devices.items _ _ c.args.device _ _
      c.key.ensures
      (new_key c.args.device.key c.self.inside.devices.items
      (ap (has_key c.args.device.key) c.self.view_is ∙ c.requires.key))
      c.in_ok-insert-2.ensures.placed c.self.invariant.2,
)

pub invariant_of-self-2 : goal.invariant_of-self-2
invariant_of-self-2 c = rw c.in_ok-push.ensures.items (
  distinct_with c.self.inside.devices.items c.args.device
      (ap (key_named c.args.device.name) c.self.view_is ∙ c.requires.name) c.self.invariant.0,
  places_with (λ device. device.name) c.self.inside.devices.items _ _ c.args.device _ _
      c.name.ensures.bytes
      (new_name c.args.device.name c.self.inside.devices.items
      (ap (key_named c.args.device.name) c.self.view_is ∙ c.requires.name))
      c.in_ok-insert.ensures.placed (c.len-place.ensures ∙ c.self.inside.devices.ok.0)
      c.self.invariant.1,
  places_with (λ device. device.key) c.self.inside.devices.items _ _ c.args.device _ _
      c.key.ensures
      (new_key c.args.device.key c.self.inside.devices.items
      (ap (has_key c.args.device.key) c.self.view_is ∙ c.requires.key))
      c.in_ok-insert-2.ensures.placed (c.len-place.ensures ∙ c.self.inside.devices.ok.0)
      c.self.invariant.2,
)
