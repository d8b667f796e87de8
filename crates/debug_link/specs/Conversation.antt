-- A conversation: what is put for the bytes that come, whoever answers the packets.
use Rattle.std.specs.Prelude.{◌≡◌, ◌≤◌, ℕ, ◌+◌, ◌++◌, List, [], ◌∷◌, Option, Some, None, IfSome, Bool, false, true, codes, length, map, nat_lt, option_map, if◌then◌else◌}
use Rattle.debug_link.specs.{Link.{Link, Between, Message, Silence, Again, Damage, Whole, link_after, message_of}, Packet.{packet_of, packets_of}, declared.connection.Connection.{Connection, TheVariants.{Open, Closed}}}

-- What is answered to a body: where the session stands then, the bodies of the packets that are
-- put, the last of which is the reply, and whether the connection is closed behind them.
pub record Answer (Session : Type 0) : Type 0 where
  pub session : Session
  pub packets : List (List ℕ)
  pub connection : Connection

-- a body is at most so long, here as there
abbrev pub LONGEST_BODY : ℕ
LONGEST_BODY = 4096

-- a longer one has the empty reply, as a packet that isn't known
abbrev pub answer_to :
    {Session : Type 0} → (Session → List ℕ → Answer Session) → Session → List ℕ → Answer Session
answer_to reply session body =
    if nat_lt LONGEST_BODY (length body)
    then record { session = session; packets = [] ∷ []; connection = Open }
    else reply session body

-- the last of these packets, or the one before them
abbrev pub last_packet : List ℕ → List (List ℕ) → List ℕ
last_packet before [] = before
last_packet before (body ∷ bodies) = last_packet (packet_of body) bodies

abbrev pub is_closed : Connection → Bool
is_closed Open = false
is_closed Closed = true

-- A conversation so far: where link and session stand, the last packet and all that was put, and
-- whether it is over.
pub record Talk (Session : Type 0) : Type 0 where
  pub link : Link
  pub session : Session
  pub last : List ℕ
  pub put : List ℕ
  pub is_over : Bool

-- before the first byte
abbrev pub first_talk : {Session : Type 0} → Session → Talk Session
first_talk session =
    record { link = Between; session = session; last = []; put = []; is_over = false }

-- what is put at once: the last packet again, `-` behind a damaged packet and `+` behind a whole
-- one
abbrev pub mark_of : List ℕ → Message → List ℕ
mark_of last Silence = []
mark_of last Again = last
mark_of last Damage = codes "-"
mark_of last (Whole body) = codes "+"

-- and then the packets of an answer
abbrev pub with_answer : {Session : Type 0} → Talk Session → Answer Session → Talk Session
with_answer talk answer =
    record talk {
      session = answer.session;
      last = last_packet talk.last answer.packets;
      put = talk.put ++ packets_of answer.packets;
      is_over = is_closed answer.connection;
    }

abbrev pub talk_after_message : {Session : Type 0} → (Session → List ℕ → Answer Session)
    → Talk Session → Message → Talk Session
talk_after_message reply talk Silence = talk
talk_after_message reply talk Again = talk
talk_after_message reply talk Damage = talk
talk_after_message reply talk (Whole body) = with_answer talk (answer_to reply talk.session body)

-- the talk with what is put of a byte at once
abbrev pub with_mark : {Session : Type 0} → Talk Session → ℕ → Talk Session
with_mark talk byte =
    record talk {
      link = link_after talk.link byte;
      put = talk.put ++ mark_of talk.last (message_of talk.link byte);
    }

-- one byte more; behind the session's end none is looked at
unfoldable pub talk_with_byte : {Session : Type 0} → (Session → List ℕ → Answer Session)
    → Talk Session → ℕ → Talk Session
talk_with_byte reply talk byte =
    if talk.is_over then talk
    else talk_after_message reply (with_mark talk byte) (message_of talk.link byte)

-- What comes: a byte, and what interrupts the answer to the packet that it ends, if anything does.
pub record Input (Interrupt : Type 0) : Type 0 where
  pub byte : ℕ
  pub interrupt : Option Interrupt

abbrev pub input_bytes : {Interrupt : Type 0} → List (Input Interrupt) → List ℕ
input_bytes inputs = map (λ input. input.byte) inputs

-- none or one
abbrev pub count_of : {Interrupt : Type 0} → Option Interrupt → ℕ
count_of None = 0
count_of (Some interrupt) = 1

-- how many interrupts came
abbrev pub interrupts_of : {Interrupt : Type 0} → List (Input Interrupt) → ℕ
interrupts_of [] = 0
interrupts_of (input ∷ inputs) = count_of input.interrupt + interrupts_of inputs

-- so many interrupts have come, or more: as many fewer come yet, where it is told how many do
pub record HaveCome (count : ℕ) (before after : Option ℕ) : Type 0 where
  pub came : ℕ
  pub enough : count ≤ came
  pub fewer : before ≡ option_map (λ yet. came + yet) after

-- so many may come, where it is told how many do
abbrev pub MayCome : Option ℕ → ℕ → Type 0
MayCome left count = IfSome left (λ most. count ≤ most)

abbrev pub talk_with_inputs : {Session Interrupt : Type 0}
    → (Option Interrupt → Session → List ℕ → Answer Session)
    → Talk Session → List (Input Interrupt) → Talk Session
talk_with_inputs reply talk [] = talk
talk_with_inputs reply talk (input ∷ inputs) =
    talk_with_inputs reply (talk_with_byte (reply input.interrupt) talk input.byte) inputs

-- the conversation of what comes, from a session's beginning
abbrev pub conversation : {Session Interrupt : Type 0}
    → (Option Interrupt → Session → List ℕ → Answer Session)
    → Session → List (Input Interrupt) → Talk Session
conversation reply session inputs = talk_with_inputs reply (first_talk session) inputs

-- these bytes came, and so many interrupts as may, and this holds of their conversation
abbrev pub OfSomeTalk : {Session Interrupt : Type 0}
    → (Option Interrupt → Session → List ℕ → Answer Session)
    → Session → (ℕ → Type 0) → List ℕ → (Talk Session → Type 0) → Type 0
OfSomeTalk {Interrupt = Interrupt} reply session may_come bytes holds =
    (inputs : List (Input Interrupt)) × (input_bytes inputs ≡ bytes)
    × may_come (interrupts_of inputs)
    × holds (conversation reply session inputs)
