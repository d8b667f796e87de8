-- What comes, and what more of it adds to a conversation.
use Rattle.std.proofs.{Common.{◌≡◌, ◌∙◌, ◌++◌, ℕ, true, false, List, [], ◌∷◌, None, Option, map, refl, ap, sym, append_assoc, ⊎_elim}, lemmas.{Bool.cases_Bool, List.{append-nil, map-append}}}
use Rattle.debug_link.specs.{Conversation.{Answer, Input, Talk, answer_to, talk_after_message, input_bytes, mark_of, with_mark, talk_with_byte, talk_with_inputs}, Link.{Message, Silence, Again, Damage, Whole, message_of}, Packet.packets_of}

module _ {Session : Type 0} (reply : Session → List ℕ → Answer Session) where
  -- a byte while the conversation is open
  pub open_byte : (talk : Talk Session) (byte : ℕ) → talk.is_over ≡ false
      → talk_with_byte reply talk byte
      ≡ talk_after_message reply (with_mark talk byte) (message_of talk.link byte)
  unfolding talk_with_byte
  open_byte talk byte is = rw is refl

  pub closed_byte : (talk : Talk Session) (byte : ℕ) → talk.is_over ≡ true
      → talk_with_byte reply talk byte ≡ talk
  unfolding talk_with_byte
  closed_byte talk byte is = rw is refl

  -- what is put only grows
  pub answered_more : (talk : Talk Session) (message : Message)
      → (more : List ℕ) × ((talk_after_message reply talk message).put ≡ talk.put ++ more)
  answered_more talk Silence = ([], sym (append-nil talk.put))
  answered_more talk Again = ([], sym (append-nil talk.put))
  answered_more talk Damage = ([], sym (append-nil talk.put))
  answered_more talk (Whole body) =
      (packets_of (answer_to reply talk.session body).packets, refl)

  pub byte_more : (talk : Talk Session) (byte : ℕ)
      → (more : List ℕ) × ((talk_with_byte reply talk byte).put ≡ talk.put ++ more)
  byte_more talk byte =
      ⊎_elim
      (λ is. (
        [],
        ap (λ (one : Talk Session). one.put) (closed_byte talk byte is)
            ∙ sym (append-nil talk.put),
      ))
      (λ is.
      let message : Message = message_of talk.link byte in
      let rest = answered_more (with_mark talk byte) message in
      let mark : List ℕ = mark_of talk.last message in (
        mark ++ rest.0,
        ap (λ (one : Talk Session). one.put) (open_byte talk byte is) ∙ rest.1
            ∙ append_assoc talk.put mark rest.0,
      ))
      (cases_Bool talk.is_over)

module _ {Session Interrupt : Type 0}
    (reply : Option Interrupt → Session → List ℕ → Answer Session) where
  pub closed_inputs : (talk : Talk Session) (inputs : List (Input Interrupt))
      → talk.is_over ≡ true
      → talk_with_inputs reply talk inputs ≡ talk
  closed_inputs talk [] is = refl
  closed_inputs talk (input ∷ inputs) is =
      ap (λ (one : Talk Session). talk_with_inputs reply one inputs)
      (closed_byte (reply input.interrupt) talk input.byte is)
      ∙ closed_inputs talk inputs is

  pub inputs_more : (talk : Talk Session) (inputs : List (Input Interrupt))
      → (more : List ℕ) × ((talk_with_inputs reply talk inputs).put ≡ talk.put ++ more)
  inputs_more talk [] = ([], sym (append-nil talk.put))
  inputs_more talk (input ∷ inputs) =
      let first = byte_more (reply input.interrupt) talk input.byte in
      let rest = inputs_more (talk_with_byte (reply input.interrupt) talk input.byte) inputs in (
        first.0 ++ rest.0,
        rest.1 ∙ ap (λ (front : List ℕ). front ++ rest.0) first.1
            ∙ append_assoc talk.put first.0 rest.0,
      )

  -- where what comes is cut changes nothing
  pub inputs_both : (talk : Talk Session) (one two : List (Input Interrupt))
      → talk_with_inputs reply talk (one ++ two)
      ≡ talk_with_inputs reply (talk_with_inputs reply talk one) two
  inputs_both talk [] two = refl
  inputs_both talk (input ∷ one) two =
      inputs_both (talk_with_byte (reply input.interrupt) talk input.byte) one two

module _ {Interrupt : Type 0} where
  -- the bytes of two parts of what comes
  pub bytes_both : (one two : List (Input Interrupt)) (first second : List ℕ)
      → input_bytes one ≡ first → input_bytes two ≡ second
      → input_bytes (one ++ two) ≡ first ++ second
  bytes_both one two first second is later =
      map-append (λ (input : Input Interrupt). input.byte) one two
      ∙ ap (λ (front : List ℕ). front ++ input_bytes two) is
      ∙ ap (λ (end : List ℕ). first ++ end) later

-- bytes that nothing interrupts
abbrev pub quiet : {Interrupt : Type 0} → List ℕ → List (Input Interrupt)
quiet bytes = map (λ byte. record { byte = byte; interrupt = None }) bytes

pub quiet_bytes : (Interrupt : Type 0) (bytes : List ℕ)
    → input_bytes (quiet {Interrupt = Interrupt} bytes) ≡ bytes
quiet_bytes Interrupt [] = refl
quiet_bytes Interrupt (byte ∷ bytes) =
    ap (λ (rest : List ℕ). byte ∷ rest) (quiet_bytes Interrupt bytes)
