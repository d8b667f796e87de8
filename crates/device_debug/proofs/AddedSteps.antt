-- The texts of steps that are added to a text for the console, one after the other.
use Rattle.std.proofs.{Common.{◌≡◌, ◌≤◌, ◌<◌, ◌+◌, ◌-◌, ◌∙◌, ◌++◌, ℕ, zero, suc, List, Result, IsErr, ap, sym, arith, append_assoc}, lemmas.List.append-nil}
use Rattle.debug_link.{specs.{Console.{AddsText, HasAdded}, Writing.PacketSink}, proofs.AddedText.{PutsPrefix, added_both, adds_failed_in, prefix_less}}
use Rattle.debug_session.specs.{Monitor.texts_from, Sight.{StepSight, View}}
use Rattle.outside_edge.specs.declared.sink.Sink.{Ghosts as SinkGhosts}

module _ (view : View) (text_of : StepSight → List ℕ) where
  -- the texts of a way that is cut in two
  texts-both : (from one two all mid : ℕ) → all ≡ one + two → mid ≡ one + from
      → texts_from view text_of from all
      ≡ texts_from view text_of from one ++ texts_from view text_of mid two
  texts-both from zero two all mid sum at =
      let same : all ≡ two = omega (arith, sum) in
      let here : from ≡ mid = omega (arith, at) in
      λ i. texts_from view text_of (here i) (same i)
  texts-both from (suc one) two zero mid sum at = absurd (omega (arith, sum))
  texts-both from (suc one) two (suc all) mid sum at =
      ap (λ (rest : List ℕ). text_of (view from).next ++ rest)
      (texts-both (suc from) one two all mid (omega (arith, sum)) (omega (arith, at)))
      ∙ sym (append_assoc (text_of (view from).next) (texts_from view text_of (suc from) one)
      (texts_from view text_of mid two))

module _ {W : Type 0} (w : SinkGhosts W) (view : View) (text_of : StepSight → List ℕ) where
  -- the texts of the steps from one place to another were added, on the way to a third one
  pub record IsAddedTo (old now : PacketSink W) (rest rest_now : List ℕ) (from until place : ℕ)
      : Type 0 where
    pub passed : from ≤ place
    pub within : place ≤ until
    pub added : HasAdded w old now rest (texts_from view text_of from (place - from)) rest_now

  pub one_step_added : {old mid new : PacketSink W} {rest rest_mid rest_new text : List ℕ}
      {from until place next : ℕ}
      → place < until → next ≡ suc place → text ≡ text_of (view place).next
      → IsAddedTo old mid rest rest_mid from until place → HasAdded w mid new rest_mid text rest_new
      → IsAddedTo old new rest rest_new from until next
  one_step_added {from = from} {place = place} {next = next} below after is first step =
      record {
        passed = omega (arith, first.passed, after);
        within = omega (arith, below, after);
        added = rw
            (texts-both view text_of from (place - from) 1 (next - from) place
            (omega (arith, first.passed, after)) (omega (arith, first.passed))
            ∙ ap (λ (one : List ℕ). texts_from view text_of from (place - from) ++ one)
            (append-nil _ ∙ sym is))
            (added_both _ _ _ _ _ _ _ _ _ first.added step);
      }

  -- a call failed at the step of a place
  pub step_failed : {V E : Type 0} {old mid new : PacketSink W} {rest rest_mid rest_new : List ℕ}
      {from until place : ℕ} {result : Result V E}
      → IsErr result → place < until → IsAddedTo old mid rest rest_mid from until place
      → ((more : List ℕ) → PutsPrefix w mid new (rest_mid ++ text_of (view place).next ++ more))
      → AddsText w old new rest (texts_from view text_of from (until - from)) rest_new result
  step_failed {mid = mid} {new = new} {rest_mid = rest_mid} {from = from} {until = until}
      {place = place} is below first prefix =
      adds_failed_in _ _ _ _ _ _ _ _ _ _ _ is
      (texts-both view text_of from (place - from) (suc (until - suc place)) (until - from) place
      (omega (arith, first.passed, below)) (omega (arith, first.passed)))
      first.added
      (prefix_less w mid new rest_mid (text_of (view place).next)
      (texts_from view text_of (suc place) (until - suc place)) prefix)
