-- Lines without words say nothing, and no others.
use Rattle.std.{proofs.Common.{◌≡◌, ℕ, List, [], ◌∷◌, Result, Ok, Err, refl, sym, subst}, specs.Prelude.{◌↔◌, IfOk}}
use Rattle.verifier_desk.specs.{declared.desk_line.SaidLine.SaidLine, DeskLine.{desk_line_of_words, said_at, DeskLine}, Answering.Answers, Reply.reply_in}
use Rattle.text_scan.specs.Word.{words_of}
use Rattle.verifier_desk.specs.declared.desk_line.SaidLine.TheVariants as said
use Rattle.verifier_desk.proofs.desk.Desk.answer.Goals as goal

silent_is : (one : SaidLine) (words : List (List ℕ))
    → desk_line_of_words [] words ≡ said_at [] one
    → (one ≡ said.Silent) ↔ (words ≡ [])
silent_is said.Silent [] same = (λ is. refl, λ is. refl)
silent_is said.Foreign [] same = absurd (cc same)
silent_is (said.Own own) [] same = absurd (cc same)
silent_is said.Silent (verb ∷ []) same = absurd (cc same)
silent_is said.Silent (verb ∷ name ∷ []) same = absurd (cc same)
silent_is said.Silent (verb ∷ name ∷ number ∷ words) same = absurd (cc same)
silent_is said.Foreign (verb ∷ words) same = (λ is. absurd (cc is), λ is. absurd (cc is))
silent_is (said.Own own) (verb ∷ words) same = (λ is. absurd (cc is), λ is. absurd (cc is))

same_reply : {V E : Type 0} (P : V → Type 0) {A B : Type 0} (result : Result V E) → A ↔ B
    → IfOk result (λ value. P value ↔ A) → IfOk result (λ value. P value ↔ B)
same_reply P (Ok value) same so = (λ is. same.0 (so.0 is), λ is. so.1 (same.1 is))
same_reply P (Err error) same so = tt

pub returns-clause-answers : goal.returns-clause-answers
returns-clause-answers g c = λ fields lines so.
    subst (λ (said : DeskLine). Answers g.M.Memory c.args.memory.now c.answer_said.new.memory
    c.answer_said.new.self fields lines said (reply_in c.answer_said.result))
    (sym (c.read_desk_line.ensures fields.devices)) (c.answer_said.ensures.answers fields lines so)

pub returns-clause-silent : goal.returns-clause-silent
returns-clause-silent g c =
    same_reply _ c.answer_said.result
    (silent_is c.read_desk_line.result (words_of c.args.line.now) (c.read_desk_line.ensures []))
    c.answer_said.ensures.silent
