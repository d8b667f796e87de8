-- A commit with a version of its own.
use Rattle.std.proofs.Common.{◌≡◌, ◌∙◌, ◌⊎◌, ℕ, IsTrue, ap, inl, inr, arith}
use Rattle.sqlite_trees.specs.{Objects.{version_rows, version_tree, with_version}, Tree.Trees, View.{Commits, SetsTree, View, IsClean}}
use Rattle.desk_database.specs.TableOpening.{IsCommitted}
use Rattle.sqlite_store.specs.FileStore.{view}
use Rattle.desk_database.proofs.logged.FileStoreLogged.commit_as.Goals as goal

abbrev SetsVersion : View → View → ℕ → Type 0
SetsVersion old new version = SetsTree old new version_tree (λ _. version_rows version)

commits_as : (old mid done new : View) (version : ℕ) → SetsVersion old mid version
    → Commits mid done → new ≡ done → IsTrue new.is_open
    → IsCommitted (with_version old.trees version) old new
commits_as old mid done new version sets commits same is_open =
    let is = same ∙ commits.is in
    record {
      trees_are = ap (λ (v : View). v.trees) is ∙ ap (λ (v : View). v.trees) sets.is;
      committed = ap (λ (v : View). v.committed) is ∙ ap (λ (v : View). v.trees) sets.is;
      shape = ap (λ (v : View). v.shape) is ∙ ap (λ (v : View). v.shape) sets.is;
      sound = ap (λ (v : View). v.is_broken) is ∙ ap (λ (v : View). v.is_broken) sets.is
          ∙ sets.sound;
      is_open = is_open;
    }

-- what a crash leaves once the version was set, and a commit begun
crash_as : (Before Set Broken : Type 0) (db : Trees) (old mid : View) (version : ℕ)
    → SetsVersion old mid version → (Set → Before) → (Broken × (db ≡ mid.trees)) ⊎ Set
    → Before ⊎ (db ≡ with_version old.trees version)
crash_as Before Set Broken db old mid version sets before (inl new) =
    inr (new.1 ∙ ap (λ (v : View). v.trees) sets.is)
crash_as Before Set Broken db old mid version sets before (inr set) = inl (before set)

pub returns-in_err-set_version-clause-crash : goal.returns-in_err-set_version-clause-crash
returns-in_err-set_version-clause-crash g c clean db after =
    inl (c.set_version.ensures.quiet.outcomes db after)

pub returns-in_err-commit-clause-crash : goal.returns-in_err-commit-clause-crash
returns-in_err-commit-clause-crash g c clean db after =
    let early : IsClean (view c.set_version.new.self) = omega (arith, clean, c.commit.ensures.clean)
    in
    crash_as _ _ _ db _ _ _ (c.in_ok-set_version.ensures.ok early)
    (c.set_version.ensures.quiet.outcomes db) (c.commit.ensures.crash db after)

pub returns-in_err-checkpoint-clause-shield : goal.returns-in_err-checkpoint-clause-shield
returns-in_err-checkpoint-clause-shield g c was =
    c.checkpoint.ensures.quiet.shield
    (c.commit.ensures.shield (c.set_version.ensures.quiet.shield was))

pub returns-in_err-checkpoint-clause-crash : goal.returns-in_err-checkpoint-clause-crash
returns-in_err-checkpoint-clause-crash g c clean db after =
    let early : IsClean (view c.set_version.new.self) =
    omega (arith, clean, c.commit.ensures.clean, c.checkpoint.ensures.quiet.clean) in
    crash_as _ _ _ db _ _ _ (c.in_ok-set_version.ensures.ok early)
    (c.set_version.ensures.quiet.outcomes db)
    (c.commit.ensures.crash db (c.checkpoint.ensures.quiet.outcomes db after))

pub returns-clause-committed : goal.returns-clause-committed
returns-clause-committed g c clean =
    let mid : IsClean (view c.commit.new.self) =
    omega (arith, clean, c.checkpoint.ensures.quiet.clean) in
    let early : IsClean (view c.set_version.new.self) = omega (arith, mid, c.commit.ensures.clean)
    in
    let is_open = c.in_ok-checkpoint.ensures.open clean in
    commits_as _ _ _ _ _ (c.in_ok-set_version.ensures.ok early) (c.in_ok-commit.ensures.ok mid)
    (c.checkpoint.ensures.same is_open) is_open

pub returns-clause-copied : goal.returns-clause-copied
returns-clause-copied g c = c.in_ok-checkpoint.ensures.moved c.in_ok-commit.ensures.logged

pub returns-clause-shield : goal.returns-clause-shield
returns-clause-shield g c was =
    c.checkpoint.ensures.quiet.shield
    (c.commit.ensures.shield (c.set_version.ensures.quiet.shield was))

pub returns-clause-crash : goal.returns-clause-crash
returns-clause-crash g c clean db after =
    let early : IsClean (view c.set_version.new.self) =
    omega (arith, clean, c.commit.ensures.clean, c.checkpoint.ensures.quiet.clean) in
    crash_as _ _ _ db _ _ _ (c.in_ok-set_version.ensures.ok early)
    (c.set_version.ensures.quiet.outcomes db)
    (c.commit.ensures.crash db (c.checkpoint.ensures.quiet.outcomes db after))
