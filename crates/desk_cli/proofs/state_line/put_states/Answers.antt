use Rattle.std.proofs.{Common.{◌≡◌, ◌∙◌, ◌+◌, ◌++◌, ℕ, length, take, drop, refl, ap, arith, subst, sym, append-nil}, Math.Seq.take-length}
use Rattle.outside_edge.{specs.Sink.{Takes, TakesPrefix}, proofs.SinkLemmas.{prefix_after, prefix_of_more, puts-failed, takes_both}}
use Rattle.desk_cli.{specs.StateText.{state_line, states_text}, proofs.StatesPut.{states-begin, states-next}}
use Rattle.desk_cli.proofs.state_line.put_states.Goals as goal

pub loop-entry-init : goal.loop-entry-init
loop-entry-init g c = record { taken = λ earlier holds. rw append-nil holds; quiet = refl }

pub returns-in_err-put_state-clause-puts : goal.returns-in_err-put_state-clause-puts
returns-in_err-put_state-clause-puts g c =
    let at = c.loop-entry in
    let entries = c.args.entries.now in
    let before = states_text (take at.entry-index entries) in
    let begin = states-begin entries at.entry-index _ c.entry-item.result c.loop-entry-test.true
    c.entry-item.is in
    puts-failed g.W.Sink.stands _ _ _ c.from_residual.result c.from_residual.ensures.0
    (subst (TakesPrefix g.W.Sink.stands c.args.sink.now c.put_state.new.sink) (sym begin)
    (prefix_of_more g.W.Sink.stands _ _ (before ++ state_line c.entry-item.result)
    (states_text (drop (at.entry-index + 1) entries))
    (prefix_after g.W.Sink.stands _ _ _ before (state_line c.entry-item.result)
    at.invariant.taken c.in_err-put_state.ensures.puts.prefix)))

pub loop-entry-preserved : goal.loop-entry-preserved
loop-entry-preserved g c =
    let at = c.loop-entry in
    let entries = c.args.entries.now in
    let next = states-next entries at.entry-index _ c.entry-item.result c.loop-entry-test.true
    c.entry-item.is in
    record {
      taken = subst (Takes g.W.Sink.stands c.args.sink.now c.put_state.new.sink) (sym next)
          (takes_both g.W.Sink.stands _ _ _ (states_text (take at.entry-index entries))
          (state_line c.entry-item.result) at.invariant.taken
          c.in_ok-put_state.ensures.puts.all);
      quiet = c.in_ok-put_state.ensures.counts.quiet ∙ at.invariant.quiet;
    }

pub returns-clause-puts : goal.returns-clause-puts
returns-clause-puts g c =
    let at = c.loop-entry in
    let entries = c.args.entries.now in
    let all : at.entry-index ≡ length entries =
    omega (arith, c.loop-entry-test.false, at.auto.entry-index-end) in
    let whole : take at.entry-index entries ≡ entries =
    ap (λ (n : ℕ). take n entries) all ∙ take-length entries in
    record {
      all = subst (Takes g.W.Sink.stands c.args.sink.now at.sink) (ap states_text whole)
          at.invariant.taken;
      prefix = tt;
    }
