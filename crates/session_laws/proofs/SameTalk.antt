-- So a debugger tells the same of both, and of a device the same as without its key.
use Rattle.std.{proofs.Common.{◌≡◌, ◌≤◌, ◌++◌, ℕ, zero, suc, Bool, true, false, List, [], ◌∷◌, Option, length, max, nat_lt, refl, ap, sym, subst, ◌∙◌, arith}, specs.Prelude.{if◌then◌else◌, take}}
use Rattle.device_types.specs.declared.event.Event.{Event}
use Rattle.device_trace.specs.{Start.Start, Trace.{play_of, released_words}}
use Rattle.key_isolation.{specs.Keyless.{ReleaseAlike, SameButKey, keyless}, proofs.TwoKeys.one_keyless}
use Rattle.debug_link.specs.{Conversation.{Answer, Input, LONGEST_BODY, Talk, answer_to, talk_after_message, first_talk, with_mark, talk_with_byte, talk_with_inputs, with_answer}, Link.{Message, Silence, Again, Damage, Whole, message_of}, declared.connection.Connection.TheVariants.Open}
use Rattle.debug_session.specs.{Place.{Run, view_of}, Session.{Session, first_session, reply}, Sight.View}
use Rattle.session_laws.{specs.DebuggerSecrecy.{furthest, gone_to, next_boundary, steps_gone, TellsTheSame, run_of}, proofs.{Boundaries.{boundary-behind, boundary-later}, SameAnswer.reply-same, SameSights.{IsSameTo, joined, turned}, WithoutKey.view-same}}

furthest-from : (view : View) (talk : Talk Session) (inputs : List (Input ℕ))
    → talk.session.place ≤ furthest view talk inputs
furthest-from view talk [] = omega arith
furthest-from view talk (input ∷ inputs) = omega arith

module _ (last : ℕ) (left right : View) (same : IsSameTo last left right) where
  abbrev IsBefore : Session → Type 0
  IsBefore session = next_boundary left session.place ≤ last

  answer-either : (test : Bool) (other one two : Answer Session)
      → IsBefore (if test then other else one).session → (IsBefore one.session → one ≡ two)
      → (if test then other else one) ≡ (if test then other else two)
  answer-either true other one two before same_answer = refl
  answer-either false other one two before same_answer = same_answer before

  talk-either : (test : Bool) (other one two : Talk Session)
      → IsBefore (if test then other else one).session → (IsBefore one.session → one ≡ two)
      → (if test then other else one) ≡ (if test then other else two)
  talk-either true other one two before same_talk = refl
  talk-either false other one two before same_talk = same_talk before

  module _ (interrupt : Option ℕ) where
    answer_to-same : (session : Session) (body : List ℕ) → session.place ≤ last
        → IsBefore (answer_to (reply left interrupt) session body).session
        → answer_to (reply left interrupt) session body
        ≡ answer_to (reply right interrupt) session body
    answer_to-same session body here before =
        answer-either (nat_lt LONGEST_BODY (length body))
        (record { session = session; packets = [] ∷ []; connection = Open })
        (reply left interrupt session body) (reply right interrupt session body) before
        (reply-same last left right same session here interrupt body)

    answered-same : (talk : Talk Session) (message : Message) → talk.session.place ≤ last
        → IsBefore (talk_after_message (reply left interrupt) talk message).session
        → talk_after_message (reply left interrupt) talk message
        ≡ talk_after_message (reply right interrupt) talk message
    answered-same talk Silence here before = refl
    answered-same talk Again here before = refl
    answered-same talk Damage here before = refl
    answered-same talk (Whole body) here before =
        ap (with_answer talk) (answer_to-same talk.session body here before)

    byte-same : (talk : Talk Session) (byte : ℕ) → talk.session.place ≤ last
        → IsBefore (talk_with_byte (reply left interrupt) talk byte).session
        → talk_with_byte (reply left interrupt) talk byte
        ≡ talk_with_byte (reply right interrupt) talk byte
    unfolding talk_with_byte
    byte-same talk byte here before =
        talk-either talk.is_over talk
        (talk_after_message (reply left interrupt) (with_mark talk byte)
        (message_of talk.link byte))
        (talk_after_message (reply right interrupt) (with_mark talk byte)
        (message_of talk.link byte)) before
        (answered-same (with_mark talk byte) (message_of talk.link byte) here)

  talk-same : (inputs : List (Input ℕ)) (talk : Talk Session) (so_many : ℕ)
      → next_boundary left (furthest left talk inputs) ≤ last
      → talk_with_inputs (reply left) talk (take so_many inputs)
      ≡ talk_with_inputs (reply right) talk (take so_many inputs)
  talk-same [] talk zero within = refl
  talk-same [] talk (suc so_many) within = refl
  talk-same (input ∷ inputs) talk zero within = refl
  talk-same (input ∷ inputs) talk (suc so_many) within =
      let next : Talk Session = talk_with_byte (reply left input.interrupt) talk input.byte in
      let rest : ℕ = furthest left next inputs in
      let later : next_boundary left rest ≤ last =
      omega (arith, boundary-later left rest (max talk.session.place rest) (omega arith), within) in
      let here : talk.session.place ≤ last =
      omega (arith, boundary-behind left (max talk.session.place rest), within) in
      let there : IsBefore next.session =
      omega (
        arith,
        boundary-later left next.session.place rest (furthest-from left next inputs),
        later,
      ) in
      talk-same inputs next so_many later
      ∙ ap (λ (one : Talk Session). talk_with_inputs (reply right) one (take so_many inputs))
      (byte-same input.interrupt talk input.byte here there)

tells-same : (left right : Run) (inputs : List (Input ℕ))
    → IsSameTo (gone_to (view_of left) inputs) (view_of left) (view_of right)
    → TellsTheSame left right inputs
tells-same left right inputs same so_many =
    talk-same (gone_to (view_of left) inputs) (view_of left) (view_of right) same inputs
    (first_talk first_session) so_many (omega arith)

-- up to any place a view is the same without the key
keyless-same : (start : Start) (events_at : ℕ → List Event) (last : ℕ) (more : List ℕ)
    → IsSameTo last (view_of (run_of start events_at))
    (view_of (run_of (keyless start (play_of events_at last) more) events_at))
keyless-same start events_at last more =
    view-same (released_words start (play_of events_at last) ++ more) (run_of start events_at) last
    (more, refl)

pub talk-keyless : (start : Start) (events_at : ℕ → List Event) (inputs : List (Input ℕ))
    (more : List ℕ)
    → TellsTheSame (run_of start events_at)
    (run_of (keyless start (steps_gone (run_of start events_at) inputs) more) events_at) inputs
talk-keyless start events_at inputs more =
    let run : Run = run_of start events_at in
    tells-same run (run_of (keyless start (steps_gone run inputs) more) events_at) inputs
    (keyless-same start events_at (gone_to (view_of run) inputs) more)

pub same_talk : (left right : Start) (events_at : ℕ → List Event) (inputs : List (Input ℕ))
    → SameButKey left right
    → ReleaseAlike left right (steps_gone (run_of left events_at) inputs)
    → TellsTheSame (run_of left events_at) (run_of right events_at) inputs
same_talk left right events_at inputs same agree =
    let last : ℕ = gone_to (view_of (run_of left events_at)) inputs in
    let one = one_keyless left right (play_of events_at last) same agree in
    tells-same (run_of left events_at) (run_of right events_at) inputs
    (joined (keyless-same left events_at last one.after_left)
    (subst
    (λ (start : Start).
    IsSameTo last (view_of (run_of start events_at)) (view_of (run_of right events_at)))
    (sym one.same)
    (turned (keyless-same right events_at last one.after_right))))
