-- The two tables can be listed and made.
use Rattle.std.{proofs.{Common.{◌≡◌, ℕ, true, refl, arith, ap, ◌∙◌, inl}, lemmas.{List.Elements.All-from_recursion, Nat.Bits.bit_at-zero, Grind.not_there}, Math.Logic.∥∥₁_map}, specs.Float.NotNan}
use Rattle.sqlite_value.specs.{declared.value.Value.Value, Order.{number, value_cmp}}
use Rattle.sqlite_trees.specs.{View.IsStorable, Sound.{fits_kind, begins, is_free_name, same_name, may_follow}}
use Rattle.sqlite_store.specs.{declared.catalog.Wanted.Wanted, Catalog.{describes, is_plain}, Build.{CanBuild, listing, are_listable}, Unopened.image}
use Rattle.desk_database.{specs.MemoryTables.{desk_table, device_table, memory_schema}, proofs.{FailLemmas.wanted_more, HeldLemmas.{nothing_of, unstarted_of, memory_is_something, creates_keeps}}}
use lib.Ieee as Ieee
use Rattle.desk_database.proofs.memory_store.create_tables.Goals as goal

listable : are_listable memory_schema ≡ true
unfolding describes fits_kind begins is_free_name same_name may_follow value_cmp Ieee.is_nan Ieee.lt
listable = refl

device_short : (root : ℕ) → IsStorable 0 (listing device_table root)
unfolding Ieee.is_nan
device_short root = record {
  typed = λ c set. absurd (omega (arith, bit_at-zero c));
  columns = (omega arith, omega arith);
  numbers =
      All-from_recursion (λ (v : Value). NotNan (number v)) (listing device_table root)
      (tt, (tt, (tt, (tt, (tt, tt)))));
  short = omega arith;
}

desk_short : (root : ℕ) → IsStorable 0 (listing desk_table root)
unfolding Ieee.is_nan
desk_short root = record {
  typed = λ c set. absurd (omega (arith, bit_at-zero c));
  columns = (omega arith, omega arith);
  numbers =
      All-from_recursion (λ (v : Value). NotNan (number v)) (listing desk_table root)
      (tt, (tt, (tt, (tt, (tt, tt)))));
  short = omega arith;
}

memory_can_be_made : CanBuild memory_schema
memory_can_be_made = record {
  distinct = listable;
  shaped = All-from_recursion (λ (w : Wanted). is_plain w.shape ≡ true) memory_schema
      (refl, (refl, tt));
  short = All-from_recursion (λ (w : Wanted). (root : ℕ) → IsStorable 0 (listing w root))
      memory_schema (device_short, (desk_short, tt));
}

pub returns-in-Ok-clause-given : goal.returns-in-Ok-clause-given
returns-in-Ok-clause-given g c =
    let made = c.in-Ok.ensures in
    record {
      ready = made.ready;
      schema = made.schema ∙ c.requires.schema;
      honest = made.honest;
      guarded = made.guarded;
      counts = λ clean. (made.kept clean).counts;
      found = λ clean.
          let size = c.requires.size (made.honest clean) in
          let started = ∥∥₁_map (made.started clean) (nothing_of c.args.files size) in
          record {
            holds = λ db held. absurd
                (not_there started (memory_is_something (image c.args.files) db held));
            nothing = λ _. (
              ap (λ d. d 0) made.ready.clean ∙ made.empty clean 0 (omega arith),
              ap (λ d. d 1) made.ready.clean ∙ made.empty clean 1 (omega arith),
            );
            opened = ∥∥₁_map started inl;
          };
    }

pub returns-in-Err-clause-refused : goal.returns-in-Err-clause-refused
returns-in-Err-clause-refused g c =
    let failed = c.in-Err.ensures in
    record {
      honest = failed.falls;
      cause = λ clean.
          wanted_more _ _ _ _ _ c.in-Err.error (λ nothing. record {
            few = rw c.requires.schema (omega arith);
            schema = rw c.requires.schema memory_can_be_made;
            files = unstarted_of c.args.files (c.requires.size (failed.falls clean)) nothing;
          }) (failed.cause clean);
      spared = λ clean.
          let kept = failed.unharmed clean in
          record {
            counts = kept.counts;
            crash = creates_keeps c.args.files (c.requires.size (failed.falls clean)) _
                c.requires.schema kept;
          };
    }
