-- What is seen of a play without its key.
use Rattle.std.specs.Prelude.{◌≡◌, ◌++◌, List, ◌<◌, ℕ, length, slice_index}
use Rattle.word_arith.specs.Number.{Word16}
use Rattle.device_trace.specs.{Blank.{SameOutside, blank}, Trace.{Play, byte_after, released_words, trace}, Start.{Start, without_key}, Text.play_text}

-- a start without its key, whose calls release the words that they release in this play, then these
abbrev pub keyless : Start → Play → List Word16 → Start
keyless start play more =
    without_key start.second_flag (released_words start play ++ more) start.power.image

-- a play from two starts has the same text, and but for secrets the same history and memory
pub record LooksAlike (start other : Start) (play : Play) : Type 0 where
  pub same_text : play_text start play ≡ play_text other play
  pub same_history : blank (trace start play) ≡ blank (trace other play)
  pub same_memory : SameOutside (byte_after start play) (byte_after other play)

-- the key acts through the released words alone: a play looks as it does without the key
abbrev pub LooksKeyless : Start → Play → Type 0
LooksKeyless start play = (more : List Word16) → LooksAlike start (keyless start play more) play

-- Devices that differ in the key, and released words that agree.

-- two starts with one image and one second flag
abbrev pub SameButKey : Start → Start → Type 0
SameButKey left right =
    (left.power.image ≡ right.power.image) × (left.second_flag ≡ right.second_flag)

-- two lists of words are equal at each place that both have
abbrev pub Agree : List Word16 → List Word16 → Type 0
Agree left right =
    (i : ℕ) → i < length left → i < length right → slice_index left i ≡ slice_index right i

-- of a play on two devices the calls release words that agree
abbrev pub ReleaseAlike : Start → Start → Play → Type 0
ReleaseAlike left right play = Agree (released_words left play) (released_words right play)
