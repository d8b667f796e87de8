use Rattle.sha2.specs.Sha256.{sha256}
use Rattle.verifier_desk.{specs.KeyOwner.StandApartBefore, proofs.KeyMarks.AreMarks}
use Rattle.verifier_desk.proofs.key_owner.first_taken.Given as goal

abbrev pub invariant-loop-place : goal.invariant-loop-place
invariant-loop-place l =
    AreMarks sha256 l.keys l.marks.items l.place × StandApartBefore sha256 l.keys l.entries l.place
