-- The body of a packet as it comes: its bytes, where it is not too long, and their sum.
use Rattle.std.specs.Prelude.{ℕ, List, length, nat_lt, if◌then◌else◌, Option, Some, None}
use Rattle.debug_link.specs.{Conversation.LONGEST_BODY, Packet.packet_sum}

pub record HeldBody : Type 0 where
  pub bytes : Option (List ℕ)
  pub sum : ℕ

-- a body of at most the longest length
abbrev pub short_body : List ℕ → Option (List ℕ)
short_body body = if nat_lt LONGEST_BODY (length body) then None else Some body

abbrev pub held_of : List ℕ → HeldBody
held_of body = record { bytes = short_body body; sum = packet_sum body }
