use Rattle.std.proofs.{Common.{rules, ◌+◌, ℕ, List, refl, sym, subst, Contains}, lemmas.Bool.false≢true}
use Rattle.sha2.specs.Sha256.{sha256}
use Rattle.verifier_desk.proofs.KeyMarks.{AreMarks, IsAt, apart_before, is_at, is_taken, next_marks, stands_apart}
use Rattle.verifier_desk.proofs.key_owner.first_taken.Goals as goal

pub returns-then-not-is_apart : goal.returns-then-not-is_apart
returns-then-not-is_apart c =
    let at : IsAt sha256 c.args.keys.now c.loop-place.place c.name.result.now
    c.mark_of-mark.result =
    is_at sha256 c.args.keys.now c.loop-place.place c.device_at-device.result.now c.name.result.now
    c.key.result.now c.mark_of-mark.result c.device_at-device.ensures c.name.ensures.bytes
    c.key.ensures c.mark_of-mark.ensures in (
      search rules,
      c.loop-place.invariant.1,
      is_taken sha256 c.args.keys.now c.args.entries.now c.loop-place.marks.items
          c.loop-place.place c.name.result.now c.mark_of-mark.result at c.loop-place.invariant.0
          (λ apart. false≢true (c.if-not-is_apart.ensures.1 (
            apart.0,
            subst (λ (marks : List (List ℕ)). Contains marks c.mark_of-mark.result → ⊥)
                (sym c.as_slice.ensures.value) apart.1,
          ))),
    )

pub loop-place-preserved : goal.loop-place-preserved
loop-place-preserved c =
    let at : IsAt sha256 c.args.keys.now c.loop-place.place c.name.result.now
    c.mark_of-mark.result =
    is_at sha256 c.args.keys.now c.loop-place.place c.device_at-device.result.now c.name.result.now
    c.key.result.now c.mark_of-mark.result c.device_at-device.ensures c.name.ensures.bytes
    c.key.ensures c.mark_of-mark.ensures in
    let apart = c.if-not-is_apart.ensures.0 refl in (
      subst (λ (marks : List (List ℕ)).
          AreMarks sha256 c.args.keys.now marks (c.loop-place.place + 1))
          (sym c.in_ok-push.ensures.items)
          (next_marks sha256 c.args.keys.now c.loop-place.marks.items c.loop-place.place
          c.name.result.now c.mark_of-mark.result at c.loop-place.invariant.0),
      apart_before sha256 c.args.keys.now c.args.entries.now c.loop-place.place
          c.loop-place.invariant.1
          (stands_apart sha256 c.args.keys.now c.args.entries.now c.loop-place.marks.items
          c.loop-place.place c.name.result.now c.mark_of-mark.result at c.loop-place.invariant.0 (
            apart.0,
            subst (λ (marks : List (List ℕ)). Contains marks c.mark_of-mark.result → ⊥)
                c.as_slice.ensures.value apart.1,
          )),
    )
