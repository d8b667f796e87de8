-- Reading the table from its first row.
use Rattle.std.proofs.Common.{inl, inr, ◌≡◌, ◌+◌, ℕ, suc, List, [], ◌∷◌, ◌++◌, length, Bool, true, false, Some, sym, ap, ◌∙◌, refl, arith}
use Rattle.sqlite_value.specs.{Order.Row, declared.keys.Order.Order}
use Rattle.sqlite_trees.specs.{Tree.{Trees, from_key, sought}, declared.store.Direction.TheVariants.Forward, View.{View, Advances, IsQuiet, with_cursor}}
use Rattle.desk_memory.specs.Entry.{Entry}
use Rattle.desk_database.specs.{TableOpening.Reads, Rows.{row_of, rows_from}}

from_no_key : (o : Order) (es : List Row) → from_key o [] es ≡ es
from_no_key o [] = refl
from_no_key o (e ∷ es) = refl

moved : (old new : View) (rows : List Row)
    → new ≡ with_cursor old 0 rows → new ≡ record old { cursors = new.cursors }
moved old new rows is = is ∙ sym (ap (λ (v : View). record old { cursors = v.cursors }) is)

pub begun : (old new : View) (key : Row) (o : Order) (rows : List Row) → key ≡ []
    → old.is_broken ≡ false → new ≡ with_cursor old 0 (sought o Forward key rows)
    → Reads old new rows
begun old new key o rows none sound is = record {
  same = (moved old new _ is, sound);
  left = ap (λ (v : View). v.cursors 0) is
      ∙ ap (λ rows. Some rows)
      ((λ i. from_key o (none i) rows) ∙ from_no_key o rows);
}

rows_push : (p : ℕ) (entries : List Entry) (entry : Entry) (left : List Row)
    → rows_from p (entries ++ entry ∷ []) ++ left
    ≡ rows_from p entries ++ row_of (p + length entries) entry ∷ left
rows_push p [] entry left = ap (λ n. row_of n entry ∷ left) (omega arith)
rows_push p (e ∷ es) entry left =
    let more = rows_push (p + 1) es entry left in
    let place : p + 1 + length es ≡ p + suc (length es) = omega arith in
    ap (λ rows. row_of p e ∷ rows)
    (more ∙ ap (λ n. rows_from (p + 1) es ++ row_of n entry ∷ left) place)

rows_last : (entries : List Entry) (entry : Entry) (left : List Row)
    → rows_from 0 (entries ++ entry ∷ []) ++ left
    ≡ rows_from 0 entries ++ row_of (length entries) entry ∷ left
rows_last entries entry left =
    let place : 0 + length entries ≡ length entries = omega arith in
    rows_push 0 entries entry left
    ∙ ap (λ n. rows_from 0 entries ++ row_of n entry ∷ left) place

-- the cursor gave this row: it stands behind those of the entries that were read
pub row_next : (first old new : View) (row : Row) (left : List Row) (entries : List Entry)
    (given : Bool) → given ≡ true → Reads first old left
    → first.trees 0 ≡ rows_from 0 entries ++ left → Advances old new 0 row given
    → (rest : List Row) × Reads first new rest
    × (first.trees 0 ≡ rows_from 0 entries ++ row ∷ rest)
row_next first old new row left entries true is reads all next =
    let rest = next.0 in
    let both : Some left ≡ Some (row ∷ rest) = sym reads.left ∙ next.1 in
    let split : left ≡ row ∷ rest = cc in (
      rest,
      record {
        same = (
          moved old new rest next.2
              ∙ ap (λ (v : View). record v { cursors = new.cursors }) reads.same.0,
          reads.same.1,
        );
        left = ap (λ (v : View). v.cursors 0) next.2;
      },
      all ∙ ap (λ rows. rows_from 0 entries ++ rows) split,
    )
row_next first old new row left entries false is reads all next = absurd cc

-- and the entry of this row is read
pub entry_next : (rows rest : List Row) (row : Row) (entries : List Entry) (entry : Entry)
    (place : ℕ) → length entries ≡ place → rows ≡ rows_from 0 entries ++ row ∷ rest
    → row ≡ row_of place entry → rows ≡ rows_from 0 (entries ++ entry ∷ []) ++ rest
entry_next rows rest row entries entry place here all is =
    let put : row ≡ row_of (length entries) entry = is ∙ ap (λ n. row_of n entry) (sym here) in
    all ∙ ap (λ r. rows_from 0 entries ++ r ∷ rest) put ∙ sym (rows_last entries entry rest)

module _ {S : Type 0} (view : S → View) (faults : S → ℕ) (recovers : S → Trees → Type 0)
    (Shielded : S → Type 0) where
  pub quiet_then : (a b c : S) → IsQuiet view faults recovers Shielded a b
      → IsQuiet view faults recovers Shielded b c → IsQuiet view faults recovers Shielded a c
  quiet_then a b c p q = record {
    shield = λ was. q.shield (p.shield was);
    clean = omega (arith, p.clean, q.clean);
    counts = omega (arith, p.counts, q.counts);
    closes = λ clean open_. elim (p.closes (omega (arith, q.clean)) open_) [
      | inl still ↦ elim (q.closes clean still) [
        | inl yet ↦ inl yet
        | inr more ↦ inr (omega (arith, more, p.counts))
      ]
      | inr more ↦ inr (omega (arith, more, q.counts))
    ];
    outcomes = λ db after. p.outcomes db (q.outcomes db after);
  }
