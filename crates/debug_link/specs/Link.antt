-- How far a packet has come, and what a byte says.
use Rattle.std.specs.Prelude.{ℕ, ◌==◌, ◌++◌, List, [], ◌∷◌, if◌then◌else◌}
use Rattle.debug_link.specs.Packet.{are_check_digits}

-- Between packets; or behind a `$`: within a body, behind its `#`, or behind its first check digit.
pub data Link : Type 0 where
  Between : Link
  Within : List ℕ → Link
  Ended : List ℕ → Link
  HalfChecked : List ℕ → ℕ → Link

-- `$` (36) begins a packet wherever it comes, and `#` (35) ends the body
abbrev pub link_after_other : Link → ℕ → Link
link_after_other Between byte = Between
link_after_other (Within body) byte = if byte == 35 then Ended body else Within (body ++ byte ∷ [])
link_after_other (Ended body) byte = HalfChecked body byte
link_after_other (HalfChecked body first) byte = Between

abbrev pub link_after : Link → ℕ → Link
link_after link byte = if byte == 36 then Within [] else link_after_other link byte

-- What a byte says: nothing yet, that the last packet is wanted again, or that a packet is whole,
-- which is damaged where its check digits aren't those of its body.
pub data Message : Type 0 where
  Silence : Message
  Again : Message
  Damage : Message
  Whole : List ℕ → Message

-- between packets `-` (45) asks for the last packet
abbrev pub message_of_other : Link → ℕ → Message
message_of_other Between byte = if byte == 45 then Again else Silence
message_of_other (Within body) byte = Silence
message_of_other (Ended body) byte = Silence
message_of_other (HalfChecked body first) byte =
    if are_check_digits body first byte then Whole body else Damage

abbrev pub message_of : Link → ℕ → Message
message_of link byte = if byte == 36 then Silence else message_of_other link byte
