-- A reply, and what comes of a line that may have one.
use Rattle.std.specs.Prelude.{ℕ, Bool, false, List, [], Option, Some, None, Result, Ok, Err}
use Rattle.verifier_desk.specs.declared.answer_fault.AnswerFault.{AnswerFault}

pub record ReplyFields : Type 0 where
  pub text : List ℕ
  pub is_noted : Bool

-- without a reply nothing is put, and nothing was noted
abbrev pub reply_or_none : Option ReplyFields → ReplyFields
reply_or_none None = record { text = []; is_noted = false }
reply_or_none (Some reply) = reply

abbrev pub reply_in : Result (Option ReplyFields) AnswerFault → Result ReplyFields AnswerFault
reply_in (Ok reply) = Ok (reply_or_none reply)
reply_in (Err fault) = Err fault
