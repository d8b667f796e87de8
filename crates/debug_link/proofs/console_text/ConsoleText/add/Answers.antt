use Rattle.std.proofs.{Common.{◌∙◌, List, [], ℕ, arith, drop, refl, subst, sym, take}, lemmas.List.{take-append-drop, take_all}}
use Rattle.debug_link.{specs.Console.HasAdded, proofs.{AddedText.{added_byte, added_none, adds_failed_in, prefix_less}, Faults.counts_failed}}
use Rattle.debug_link.proofs.console_text.ConsoleText.add.Goals as goal

pub loop-byte-init : goal.loop-byte-init
loop-byte-init g c =
    record {
      added = subst
          (λ (rest : List ℕ). HasAdded g.W.Sink c.args.packets.now c.args.packets.now rest []
          c.self.inside.rest.items)
          c.self.view_is (added_none g.W.Sink c.args.packets.now c.self.inside.rest.items);
      quiet = refl;
    }

pub returns-in_err-put_full-clause-adds : goal.returns-in_err-put_full-clause-adds
returns-in_err-put_full-clause-adds g c =
    let text : List ℕ = c.args.text.now in
    let at : ℕ = c.loop-byte.byte-index in
    adds_failed_in g.W.Sink c.args.packets.now c.loop-byte.packets c.put_full.new.packets _
    c.loop-byte.self-inside.rest.items _ (take at text) (drop at text) text _
    c.from_residual.ensures.0 (sym (take-append-drop at text)) c.loop-byte.invariant.added
    (prefix_less g.W.Sink c.loop-byte.packets c.put_full.new.packets
    c.loop-byte.self-inside.rest.items [] (drop at text)
    c.in_err-put_full.ensures.adds.prefix)

pub returns-in_err-put_full-clause-counts : goal.returns-in_err-put_full-clause-counts
returns-in_err-put_full-clause-counts g c =
    counts_failed g.W.Sink.faults _ c.loop-byte.packets.sink _ _ c.from_residual.ensures.0
    c.loop-byte.invariant.quiet c.in_err-put_full.ensures.counts.failed
    c.in_err-put_full.ensures.counts.counted

pub loop-byte-preserved : goal.loop-byte-preserved
loop-byte-preserved g c =
    record {
      added = rw c.push.ensures.items
          (added_byte g.W.Sink _ _ _ _ _ _ c.args.text.now c.loop-byte.byte-index _
          c.loop-byte-test.true refl c.loop-byte.invariant.added
          c.in_ok-put_full.ensures.adds.all);
      quiet = c.in_ok-put_full.ensures.counts.quiet ∙ c.loop-byte.invariant.quiet;
    }

pub returns-clause-adds : goal.returns-clause-adds
returns-clause-adds g c =
    record {
      all = rw (take_all c.loop-byte.byte-index c.args.text.now
          (omega (arith, c.loop-byte-test.false))) at c.loop-byte.invariant.added;
      prefix = tt;
    }
