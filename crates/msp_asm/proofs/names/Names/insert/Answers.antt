-- A map of names as a function.
use Rattle.std.{proofs.{Common.{◌≡◌, ℕ, ℤ, List, Option, ◌∙◌, ap, Some, w32, to_z, of_z}, lemmas.{Map.Text.btree_map_updates_str, Int.to_z-of_z}}, specs.{BTreeMap.BTreeMap, Cmp.Lexicographic.slice_cmp, Map.update, Ordering.nat_cmp, Str.bytes_eq}}
use Rattle.std.specs.BTreeMap as tree
use denote.Ref.{Bor}
use Rattle.msp_asm.proofs.names.Names.insert.Goals as goal

abbrev value_of : BTreeMap (Bor (List ℕ)) ℤ → List ℕ → Option ℤ
value_of map name = tree.get_by (λ k. slice_cmp nat_cmp name k.now) map

value_of-update : (name : List ℕ) (old new : BTreeMap (Bor (List ℕ)) ℤ) (value : Option ℤ)
    → tree.UpdatesBy (λ x y. slice_cmp nat_cmp x.now y.now) (λ k. slice_cmp nat_cmp name k.now)
    old new value
    → value_of new ≡ update bytes_eq (value_of old) name value
value_of-update name old new value updates =
    λ i. λ other. btree_map_updates_str name old new value updates other i

pub returns : goal.returns
returns c =
    let name = c.args.name.now in
    value_of-update name c.args.self.now.values c.insert.new.self
    (Some (to_z w32 (of_z w32 c.args.value))) c.in_ok-insert.ensures.updates
    ∙ ap (λ (value : ℤ). update bytes_eq (value_of c.args.self.now.values) name (Some value))
    (to_z-of_z w32 c.args.value c.ranges.value)
