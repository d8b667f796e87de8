use Rattle.std.proofs.{Common.{◌≡◌, ◌∙◌, ℕ, true, not, sym, ap}, lemmas.Bool.false≢true}
use Rattle.msp_decode.specs.Head.{head_of}
use Rattle.part_definitions.specs.NextAccess.{is_illegal}
use Rattle.msp_exec.proofs.cpu.Cpu.begin_apart.Goals as goal
use Rattle.msp_exec.proofs.cpu.Cpu.begin_apart.Goals.{then-word-eq-RETI, else-word-eq-RETI}

-- a RETI is legal
reti-taken : (word : ℕ) → word ≡ 0x1300 → not (is_illegal word) ≡ true
unfolding head_of
reti-taken word is = ap (λ (word : ℕ). not (is_illegal word)) is

pub returns-clause-refused : goal.returns-clause-refused
returns-clause-refused c = λ refused.
    elim c.if-word-eq-RETI.branch [
      | then-word-eq-RETI w ↦
          absurd
          (false≢true
          (sym refused
          ∙ c.begin_spelt.ensures.taken
          ∙ reti-taken c.args.word w.if-word-eq-RETI.true))
      | else-word-eq-RETI w ↦ c.begin_spelt.ensures.refused refused ∙ w.self-is
    ]
