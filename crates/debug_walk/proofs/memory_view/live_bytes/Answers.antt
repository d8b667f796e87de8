use Rattle.std.proofs.{Common.{◌≡◌, ◌≤◌, ◌<◌, ◌+◌, ◌-◌, ◌∙◌, ◌⊎◌, inl, inr, ⊎_elim, ap, refl, sym, arith}, lemmas.Bool.cases_lt}
use Rattle.debug_session.specs.{Place.sight_at, Shown.bytes_shown}
use Rattle.debug_walk.proofs.ShownBytes.{all-shown, none-there, shown-end, shown-more}
use Rattle.debug_walk.proofs.memory_view.live_bytes.Goals as goal

pub loop-at-init : goal.loop-at-init
loop-at-init g c = record {
  size = rw c.new-bytes.ensures (omega arith);
  bytes = λ run place stands.
      let all : c.min-count.result - (c.args.first - c.args.first) ≡ c.min-count.result =
      omega arith in
      rw (c.new-bytes.ensures, all) refl;
}

pub loop-at-preserved : goal.loop-at-preserved
loop-at-preserved g c =
    let at = c.loop-at.at in
    let first = c.args.first in
    let count = c.min-count.result in
    let some : 0 < count - (at - first) =
    omega (arith, c.loop-at-test.true, c.saturating_add-at-end.ensures, c.loop-at.auto.at) in
    let less : count - (at + 1 - first) ≡ count - (at - first) - 1 =
    omega (arith, c.loop-at.auto.at) in
    record {
      size = omega (arith, c.push.ensures.len, c.loop-at.invariant.size, c.loop-at.auto.at);
      bytes = λ run place stands.
          let here = sight_at run place in
          rw (c.push.ensures.items, less)
          (shown-more here c.loop-at.bytes.items (bytes_shown here first count) at
          (count - (at - first)) c.shown_byte.result some
          (c.shown_byte.ensures run place stands (sym c.if-not-is_shown.ensures))
          (c.loop-at.invariant.bytes run place stands));
    }

pub returns-then-not-is_shown : goal.returns-then-not-is_shown
returns-then-not-is_shown g c = λ run place stands.
    let here = sight_at run place in
    let at = c.loop-at.at in
    let first = c.args.first in
    let count = c.min-count.result in
    shown-end here c.loop-at.bytes.items (bytes_shown here first count) at
    (count - (at - first)) (inl (none-there run place at (sym c.if-not-is_shown.ensures)))
    (c.loop-at.invariant.bytes run place stands)
    ∙ ap (bytes_shown here first) c.min-count.ensures

pub returns : goal.returns
returns g c = λ run place stands.
    let here = sight_at run place in
    let at = c.loop-at.at in
    let first = c.args.first in
    let count = c.min-count.result in
    let ends : (65536 ≤ at) ⊎ (first + count ≤ at) =
    ⊎_elim
    (λ less. inr (omega (arith, less, c.loop-at-test.false, c.saturating_add-at-end.ensures)))
    (λ past. inl past) (cases_lt at 65536) in
    shown-end here c.loop-at.bytes.items (bytes_shown here first count) at
    (count - (at - first)) (all-shown run place first count at c.loop-at.auto.at ends)
    (c.loop-at.invariant.bytes run place stands)
    ∙ ap (bytes_shown here first) c.min-count.ensures
