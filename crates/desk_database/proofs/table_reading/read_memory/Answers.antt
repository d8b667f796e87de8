-- Why a store is refused, from one step to the next.
use Rattle.std.{proofs.{Common.{◌≡◌, List, [], ◌∷◌, None, Some, IsTrue, refl, arith, ap, length, rules, eq-eqb, sym, ◌∙◌, true≢false, subst}, lemmas.Result.err_from_is_err_and}, specs.Vec.vec_len}
use Rattle.sqlite_value.specs.Order.{Row}
use Rattle.sqlite_trees.specs.{Tree.Trees, View.{View, IsClean}}
use Rattle.desk_memory.specs.Entry.{Entry}
use Rattle.desk_database.specs.{declared.open_fault.OpenFault.{OpenFault, TheVariants.{Memory, Failed, Foreign, Unfounded, Founded}}, TableOpening.{HasNoDesk, HasNoEntries, HasReason, IsForeign}, Rows.rows_from}
use Rattle.desk_database.proofs.table_reading.read_memory.Goals as goal

reason_on : (a b : View) (A B F G U V X Y : Type 0) (fault : OpenFault)
    → (IsTrue a.is_open → IsTrue b.is_open) → (B → A) → (G → F) → (V → U) → (Y → X)
    → HasReason b B G V Y fault → HasReason a A F U X fault
reason_on a b A B F G U V X Y Memory open_ faulted foreign unfounded founded reason = tt
reason_on a b A B F G U V X Y Failed open_ faulted foreign unfounded founded reason =
    λ is. faulted (reason (open_ is))
reason_on a b A B F G U V X Y Foreign open_ faulted foreign unfounded founded reason =
    foreign reason
reason_on a b A B F G U V X Y Unfounded open_ faulted foreign unfounded founded reason =
    unfounded reason
reason_on a b A B F G U V X Y Founded open_ faulted foreign unfounded founded reason =
    founded reason

no_entries : (trees : Trees) → HasNoEntries (trees 0) → IsForeign trees
no_entries trees none = (
  λ founded. none founded.1 founded.2 founded.3.0,
  λ unfounded. none [] refl unfounded.0,
)

no_desk : (trees : Trees) → HasNoDesk (trees 1) → IsForeign trees
no_desk trees none = (
  λ founded. none (Some founded.0) founded.3.1,
  λ unfounded. none None unfounded.1,
)

no_rows : (rows : List Row) (entries : List Entry) → rows ≡ rows_from 0 entries → rows ≡ []
    → entries ≡ []
no_rows rows [] is none = refl
no_rows rows (entry ∷ entries) is none = absurd cc

-- entries of no desk
no_owner : (trees : Trees) (entries : List Entry) → trees 0 ≡ rows_from 0 entries
    → trees 1 ≡ [] → (entries ≡ [] → ⊥) → IsForeign trees
no_owner trees entries rows none some = (
  λ founded. let is = founded.3.1 in absurd cc,
  λ unfounded. some (no_rows (trees 0) entries rows unfounded.0),
)

pub returns-in_err-entries-clause-reason : goal.returns-in_err-entries-clause-reason
returns-in_err-entries-clause-reason g c clean =
    let p = err_from_is_err_and c.from_residual.result c.from_residual.ensures.1 in
    let old = g.S.Store.view c.args.store.now in
    rw (p.1, p.2) (reason_on old old _ _ _ _ _ _ _ _ c.in_err-entries.field-0.0 (λ is. is)
    (λ more. more) (no_entries old.trees) (λ n. n) (λ n. n) (c.in_err-entries.ensures.reason clean))

pub returns-in_err-desk-clause-reason : goal.returns-in_err-desk-clause-reason
returns-in_err-desk-clause-reason g c clean =
    let old = g.S.Store.view c.args.store.now in
    let mid = g.S.Store.view c.read_entries.new.store in
    let early : IsClean mid = omega (arith, clean, c.read_desk.ensures.quiet.clean) in
    let same = (c.in_ok-entries.ensures.same early).0 in
    let p = err_from_is_err_and c.from_residual-in_err-desk.result
    c.from_residual-in_err-desk.ensures.1 in
    rw (p.1, p.2) (reason_on old mid _ _ _ _ _ _ _ _ c.in_err-desk.field-0.0
    (λ is. ap (λ (v : View). v.is_open) same ∙ is)
    (λ more. omega (arith, more, c.read_entries.ensures.quiet.counts))
    (λ none. subst IsForeign (ap (λ (v : View). v.trees) same) (no_desk mid.trees none))
    (λ n. n) (λ n. n) (c.in_err-desk.ensures.reason clean))

pub returns-clause-reason : goal.returns-clause-reason
returns-clause-reason g c clean =
    let old = g.S.Store.view c.args.store.now in
    let mid = g.S.Store.view c.read_entries.new.store in
    let early : IsClean mid = omega (arith, clean, c.read_desk.ensures.quiet.clean) in
    let same = (c.in_ok-entries.ensures.same early).0 in
    let none : mid.trees 1 ≡ [] = rw c.in-None-2.is at (c.in_ok-desk.ensures.read clean) in
    no_owner old.trees c.in_ok-entries.entries.items (c.in_ok-entries.ensures.read early)
    (sym (ap (λ (v : View). v.trees 1) same) ∙ none)
    (λ empty.
    let len : length c.in_ok-entries.entries.items ≡ 0 = ap length empty in
    let zero : vec_len c.in_ok-entries.entries ≡ 0 = search rules in
    true≢false
    (sym (eq-eqb (vec_len c.in_ok-entries.entries) 0 zero) ∙ sym c.is_empty.ensures
    ∙ c.if-is_empty.false))
