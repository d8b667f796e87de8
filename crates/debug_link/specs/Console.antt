-- Text for a debugger's console: packets of `O` and a piece of the text in hexadecimal digits.
use Rattle.std.specs.Prelude.{◌≡◌, ◌++◌, ℕ, zero, suc, List, [], ◌∷◌, Result, OnErr, OnOk, codes, drop, length, take}
use Rattle.hex.specs.Hex.{encode_lower}
use Rattle.outside_edge.specs.{Sink.TakesPrefix, declared.sink.Sink.Ghosts as SinkGhosts}
use Rattle.debug_link.specs.{Packet.packets_of, Writing.{HasPut, PacketSink}}

-- at most so many bytes of text go into one packet
abbrev pub MOST_TEXT : ℕ
MOST_TEXT = 1024

abbrev pub text_body : List ℕ → List ℕ
text_body piece = codes "O" ++ encode_lower piece

abbrev pub console_bodies : ℕ → List ℕ → List (List ℕ)
console_bodies zero text = []
console_bodies (suc most) [] = []
console_bodies (suc most) (byte ∷ text) =
    text_body (take MOST_TEXT (byte ∷ text)) ∷ console_bodies most (drop MOST_TEXT (byte ∷ text))

-- the packets of a whole text
abbrev pub console : List ℕ → List (List ℕ)
console text = console_bodies (length text) text

-- behind a rest of text came more, and some packets were put: with the new rest they say the same,
-- whatever comes behind
pub record HasAdded {W : Type 0} (w : SinkGhosts W) (old new : PacketSink W)
    (rest text rest_new : List ℕ) : Type 0 where
  pub bodies : List (List ℕ)
  pub put : HasPut w old new bodies
  pub whole : (more : List ℕ)
      → console (rest ++ text ++ more) ≡ bodies ++ console (rest_new ++ more)

-- they were, or a prefix of the text's packets
pub record AddsText {W V E : Type 0} (w : SinkGhosts W) (old new : PacketSink W)
    (rest text rest_new : List ℕ) (result : Result V E) : Type 0 where
  pub all : OnOk result (HasAdded w old new rest text rest_new)
  pub prefix : OnErr result ((more : List ℕ)
      → TakesPrefix w.stands old.sink new.sink (packets_of (console (rest ++ text ++ more))))
