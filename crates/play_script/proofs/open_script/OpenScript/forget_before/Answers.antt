use Rattle.std.{proofs.{Common.◌≤◌, lemmas.List.Elements.All-filter}, specs.Prelude.nat_le}
use Rattle.play_script.proofs.open_script.OpenScript.forget_before.Goals as goal

pub invariant_of-self : goal.invariant_of-self
invariant_of-self c =
    rw c.forget_before.ensures
    (All-filter (λ entry. nat_le c.args.step entry.0) (λ entry. entry.0 ≤ c.self.inside.greatest)
    c.self.inside.script c.self.invariant)
