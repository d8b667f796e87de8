use Rattle.std.proofs.Common.{◌≡◌, sym, subst, ℕ, Option, List}
use Rattle.verifier_desk.{specs.DeviceKey.DeviceKey, proofs.KeyPlaces.{IsPlaceOf, place_named, placed, place_within, place_found, place_key, place_none}}
use Rattle.verifier_desk.proofs.key_list.KeyList.place_of.Goals as goal

is_place : (name : List ℕ) (devices : List DeviceKey) (place : Option ℕ)
    → place ≡ place_named name devices → IsPlaceOf name devices place
is_place name devices place is = subst (IsPlaceOf name devices) (sym is) (placed name devices)

pub returns-clause-within : goal.returns-clause-within
returns-clause-within c =
    place_within c.args.name.now c.args.self.now c.first_named.result
    (is_place c.args.name.now c.args.self.now c.first_named.result c.first_named.ensures)

pub returns-clause-found : goal.returns-clause-found
returns-clause-found c =
    place_found c.args.name.now c.args.self.now c.first_named.result
    (is_place c.args.name.now c.args.self.now c.first_named.result c.first_named.ensures)

pub returns-clause-key : goal.returns-clause-key
returns-clause-key c =
    place_key c.args.name.now c.args.self.now c.first_named.result
    (is_place c.args.name.now c.args.self.now c.first_named.result c.first_named.ensures)

pub returns-clause-none : goal.returns-clause-none
returns-clause-none c =
    place_none c.args.name.now c.args.self.now c.first_named.result
    (is_place c.args.name.now c.args.self.now c.first_named.result c.first_named.ensures)
