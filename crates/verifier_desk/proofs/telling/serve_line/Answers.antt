use Rattle.std.{proofs.Common.{◌∙◌, ◌∷◌, ap, arith, refl, sym, subst, ℕ, false, [], Err, List, Bor}, specs.Prelude.{codes, option_map}}
use Rattle.text_scan.specs.Word.{words_of}
use Rattle.verifier_desk.{specs.{declared.answer_fault.AnswerFault.{AnswerFault, TheVariants.Memory}, Answering.Answers, Reply.reply_or_none, DeskLine.{TooLong, desk_line_of_words}, Replies.{gives_report, lines_said}}, proofs.{HeldReplies.{marked_still, nothing_more, reply_told, says_long, says_short, unkept_at_line}, MoreLines.fails_more}}
use Rattle.verifier_desk.proofs.telling.serve_line.Goals as goal

pub returns-in-Err-clause-stops : goal.returns-in-Err-clause-stops
returns-in-Err-clause-stops g c = λ fields earlier bytes first tells line.
    fails_more g.M.Memory g.W.Sink first _ fields (bytes ∷ []) earlier c.in-Err.halt
    (c.in-Err.ensures.fails fields earlier first tells.told)

pub returns-in_default-clause-goes_on : goal.returns-in_default-clause-goes_on
returns-in_default-clause-goes_on g c = λ fields earlier bytes first tells line.
    reply_told g.M.Memory g.W.Sink first fields
    (record { memory = c.make_room.new.memory; sink = c.make_room.new.sink })
    c.make_room.new.memory c.make_room.new.withheld c.push.new.self earlier bytes
    c.args.desk.now TooLong (record { text = codes "too-long\n"; is_noted = false })
    (says_long fields.devices bytes
    (sym (ap (option_map (λ (one : Bor (List ℕ)). one.now)) c.in_default.is) ∙ line))
    (c.in-Ok.ensures.goes_on fields earlier first tells.told)
    (record { honest = λ so. so; crash = λ found so. so; counted = omega arith })
    (refl, tells.stands, λ entries so. so, λ none. (refl, refl))
    (c.push.ensures ∙ marked_still c.make_room.new.withheld _)

pub returns-in-Ok-None-clause-goes_on : goal.returns-in-Ok-None-clause-goes_on
returns-in-Ok-None-clause-goes_on g c = λ fields earlier bytes first tells line.
    reply_told g.M.Memory g.W.Sink first fields
    (record { memory = c.make_room.new.memory; sink = c.make_room.new.sink })
    c.answer.new.memory c.make_room.new.withheld c.make_room.new.withheld earlier bytes
    c.answer.new.self (desk_line_of_words fields.devices (words_of c.in-Some.line.now))
    (reply_or_none c.in-Ok-None.field-0)
    (says_short fields.devices bytes c.in-Some.line.now
    (sym (ap (option_map (λ (one : Bor (List ℕ)). one.now)) c.in-Some.is) ∙ line))
    (c.in-Ok.ensures.goes_on fields earlier first tells.told) c.answer.ensures.only
    (c.in-Ok-None.ensures.answers fields (lines_said fields earlier) tells.stands)
    (rw c.in-Ok-None.field-0-is (nothing_more c.make_room.new.withheld))

pub returns-in-Ok-Some-clause-goes_on : goal.returns-in-Ok-Some-clause-goes_on
returns-in-Ok-Some-clause-goes_on g c = λ fields earlier bytes first tells line.
    reply_told g.M.Memory g.W.Sink first fields
    (record { memory = c.make_room.new.memory; sink = c.make_room.new.sink })
    c.answer.new.memory c.make_room.new.withheld c.hold_back.new.withheld earlier bytes
    c.answer.new.self (desk_line_of_words fields.devices (words_of c.in-Some.line.now))
    (reply_or_none c.in-Ok-Some.field-0)
    (says_short fields.devices bytes c.in-Some.line.now
    (sym (ap (option_map (λ (one : Bor (List ℕ)). one.now)) c.in-Some.is) ∙ line))
    (c.in-Ok.ensures.goes_on fields earlier first tells.told) c.answer.ensures.only
    (c.in-Ok-Some.ensures.answers fields (lines_said fields earlier) tells.stands)
    (rw c.in-Ok-Some.field-0-is c.hold_back.ensures)

pub returns-in-Err-Memory-clause-stops : goal.returns-in-Err-Memory-clause-stops
returns-in-Err-Memory-clause-stops g c = λ fields earlier bytes first tells line.
    let refused : Answers g.M.Memory c.make_room.new.memory c.answer.new.memory c.answer.new.self
    fields (lines_said fields earlier)
    (desk_line_of_words fields.devices (words_of c.in-Some.line.now)) (Err Memory) =
    subst (λ (fault : AnswerFault). Answers g.M.Memory c.make_room.new.memory c.answer.new.memory
    c.answer.new.self fields (lines_said fields earlier)
    (desk_line_of_words fields.devices (words_of c.in-Some.line.now)) (Err fault))
    c.in-Err-Memory.field-0-is
    (c.in-Err-Memory.ensures.answers fields (lines_said fields earlier) tells.stands) in
    let says = says_short fields.devices bytes c.in-Some.line.now
    (sym (ap (option_map (λ (one : Bor (List ℕ)). one.now)) c.in-Some.is) ∙ line) in
    c.stop_before_report.ensures.stops fields earlier bytes first
    (rw refused.0 (c.in-Ok.ensures.goes_on fields earlier first tells.told))
    (ap (gives_report fields (lines_said fields earlier)) says ∙ refused.1)

pub returns-in-Err-Unkept-clause-stops : goal.returns-in-Err-Unkept-clause-stops
returns-in-Err-Unkept-clause-stops g c = λ fields earlier bytes first tells line.
    unkept_at_line g.M.Memory g.W.Sink first fields
    (record { memory = c.make_room.new.memory; sink = c.make_room.new.sink })
    c.answer.new.memory c.make_room.new.withheld earlier bytes c.in-Err-Unkept.fault
    (c.in-Ok.ensures.goes_on fields earlier first tells.told) c.answer.ensures.only
    (subst (λ (fault : AnswerFault). Answers g.M.Memory c.make_room.new.memory
    c.answer.new.memory c.answer.new.self fields (lines_said fields earlier)
    (desk_line_of_words fields.devices (words_of c.in-Some.line.now)) (Err fault))
    c.in-Err-Unkept.field-0-is
    (c.in-Err-Unkept.ensures.answers fields (lines_said fields earlier) tells.stands))
