-- A list of texts that is put text by text.
use Rattle.std.{proofs.{Common.{zero, suc, ◌≡◌, ◌∙◌, ℕ, ◌+◌, ◌<◌, List, [], ◌∷◌, ◌++◌, append_assoc, append-nil, flat_map, get_or, length, take, drop, refl, sym, ap, arith, subst}, lemmas.List.take_all}, specs.Prelude.option_copied}
use Rattle.outside_edge.{specs.Sink.{Takes, TakesPrefix}, proofs.SinkLemmas.{prefix_after, prefix_of_more, puts-failed, takes_both}}
use Rattle.trace_files.specs.{declared.wire.Wire.{Wire, TheVariants.Pc}, WaveText.{change_of, wires_text}}
use Rattle.trace_files.proofs.change.print_wires.Goals as goal

-- the texts before one, this one, and those after it
flat_map_cut : {X : Type 0} (text_of : X → List ℕ) (xs : List X) (at : ℕ) (other : X)
    → at < length xs
    → flat_map text_of xs
    ≡ (flat_map text_of (take at xs) ++ text_of (get_or xs at other))
    ++ flat_map text_of (drop (suc at) xs)
flat_map_cut text_of [] at other below = absurd (omega (arith, below))
flat_map_cut text_of (x ∷ xs) zero other below = refl
flat_map_cut text_of (x ∷ xs) (suc at) other below =
    ap (λ (rest : List ℕ). text_of x ++ rest)
    (flat_map_cut text_of xs at other (omega (arith, below))
    ∙ append_assoc (flat_map text_of (take at xs)) (text_of (get_or xs at other))
    (flat_map text_of (drop (suc at) xs)))
    ∙ sym (append_assoc (text_of x) (flat_map text_of (take at xs))
    (text_of (get_or xs at other) ++ flat_map text_of (drop (suc at) xs)))
    ∙ sym (append_assoc (text_of x ++ flat_map text_of (take at xs))
    (text_of (get_or xs at other)) (flat_map text_of (drop (suc at) xs)))

flat_map-more : {X : Type 0} (text_of : X → List ℕ) (xs : List X) (at : ℕ) (other : X)
    → at < length xs
    → flat_map text_of (take (suc at) xs)
    ≡ flat_map text_of (take at xs) ++ text_of (get_or xs at other)
flat_map-more text_of [] at other below = absurd (omega (arith, below))
flat_map-more text_of (x ∷ xs) zero other below = append-nil (text_of x)
flat_map-more text_of (x ∷ xs) (suc at) other below =
    ap (λ (rest : List ℕ). text_of x ++ rest)
    (flat_map-more text_of xs at other (omega (arith, below)))
    ∙ sym (append_assoc (text_of x) (flat_map text_of (take at xs)) (text_of (get_or xs at other)))

-- one more of them
flat_map_next : {X : Type 0} (text_of : X → List ℕ) (xs : List X) (at : ℕ) (other : X)
    → at < length xs
    → flat_map text_of (take (at + 1) xs)
    ≡ flat_map text_of (take at xs) ++ text_of (get_or xs at other)
flat_map_next text_of xs at other below =
    let one_more : at + 1 ≡ suc at = omega arith in
    ap (λ (count : ℕ). flat_map text_of (take count xs)) one_more
    ∙ flat_map-more text_of xs at other below

pub loop-wire-preserved : goal.loop-wire-preserved
unfolding wires_text
loop-wire-preserved g c =
    let text = change_of (option_copied c.args.last) c.args.now.now in
    let wires = c.args.wires.now in
    let at = c.loop-wire.wire-index in
    record {
      taken = subst (λ (all : List ℕ). Takes g.W.Sink.stands c.args.sink.now
          c.print_if_told.new.sink all)
          (sym (flat_map_next text wires at Pc (omega (arith, c.loop-wire-test.true))))
          (takes_both g.W.Sink.stands _ _ _ (flat_map text (take at wires))
          (text (get_or wires at Pc)) c.loop-wire.invariant.taken
          c.in_ok-print_if_told.ensures.puts.all);
      quiet = c.in_ok-print_if_told.ensures.counts.quiet ∙ c.loop-wire.invariant.quiet;
    }

pub returns-in_err-print_if_told-clause-puts : goal.returns-in_err-print_if_told-clause-puts
unfolding wires_text
returns-in_err-print_if_told-clause-puts g c =
    let text = change_of (option_copied c.args.last) c.args.now.now in
    let wires = c.args.wires.now in
    let at = c.loop-wire.wire-index in
    let later = flat_map text (drop (suc at) wires) in
    puts-failed g.W.Sink.stands _ _ _ c.from_residual.result c.from_residual.ensures.0
    (subst (λ (all : List ℕ). TakesPrefix g.W.Sink.stands c.args.sink.now
    c.print_if_told.new.sink all)
    (sym (flat_map_cut text wires at Pc (omega (arith, c.loop-wire-test.true))))
    (prefix_of_more g.W.Sink.stands _ _
    (flat_map text (take at wires) ++ text (get_or wires at Pc)) later
    (prefix_after g.W.Sink.stands _ _ _ (flat_map text (take at wires))
    (text (get_or wires at Pc)) c.loop-wire.invariant.taken
    c.in_err-print_if_told.ensures.puts.prefix)))

pub returns-clause-puts : goal.returns-clause-puts
returns-clause-puts g c =
    let wires = c.args.wires.now in
    record {
      all = subst (λ (told : List Wire). Takes g.W.Sink.stands c.args.sink.now c.loop-wire.sink
          (wires_text (option_copied c.args.last) c.args.now.now told))
          (take_all c.loop-wire.wire-index wires (omega (arith, c.loop-wire-test.false)))
          c.loop-wire.invariant.taken;
      prefix = tt;
    }
