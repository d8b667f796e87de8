use Rattle.std.proofs.Common.{◌≡◌, ◌∙◌, ℕ, List, length, sym, arith}
use Rattle.desk_memory.{specs.Entry.Entry, proofs.{Places.{place_from-next, place_from-start, place_past, place_past-within}, entry_place.place_for.Goals.{then-eq+then-eq-2, then-eq+else-eq-2, else-eq}}}
use Rattle.desk_memory.proofs.entry_place.place_for.Goals as goal

pub loop-index-init : goal.loop-index-init
loop-index-init c = record {
  place = place_from-start c.args.entries.now c.args.new.now;
  within = omega arith;
}

pub loop-index-preserved : goal.loop-index-preserved
loop-index-preserved c =
    let entries : List Entry = c.args.entries.now in
    let place : ℕ = c.loop-index.place in
    let index : ℕ = c.loop-index.index in
    let entry : Entry = c.index-entries-index.result in
    let new : Entry = c.args.new.now in
    let names = rw (c.name.ensures, c.name-in-loop-index.ensures) at c.eq.ensures in
    let past : c.if-eq.place ≡ place_past place index (length entries) entry new =
    elim c.if-eq.branch [
      | then-eq+then-eq-2 w ↦
          let marks = rw (w.mark.ensures, w.mark-then-eq.ensures) at w.eq-then-eq.ensures in
          rw (sym names ∙ w.if-eq.true, sym marks ∙ w.if-eq-2.true) w.place-is
      | then-eq+else-eq-2 w ↦
          let marks = rw (w.mark.ensures, w.mark-then-eq.ensures) at w.eq-then-eq.ensures in
          rw (sym names ∙ w.if-eq.true, sym marks ∙ w.if-eq-2.false) w.place-is
      | else-eq w ↦ rw (sym names ∙ w.if-eq.false) w.place-is
    ] in
    record {
      place = c.loop-index.invariant.place
          ∙ place_from-next entries place index c.if-eq.place entry new c.loop-index-test.true
          c.index-entries-index.is past;
      within = rw past (place_past-within place index (length entries) entry new
          c.loop-index.invariant.within c.loop-index-test.true);
    }
