-- The extension words as a list.
use Rattle.std.specs.Prelude.{◌≡◌, List, [], ◌∷◌, refl}
use Rattle.word_arith.specs.Number.{Word16}
use Rattle.msp_decode.specs.{declared.following_words.FollowingWords.{FollowingWords, TheVariants.{Nothing, One, Two}}}

-- the extension words in order
abbrev pub following_words : FollowingWords → List Word16
following_words Nothing = []
following_words (One first) = first ∷ []
following_words (Two first second) = first ∷ second ∷ []

-- the extension words of a list of at most two
abbrev pub following_words_in : List Word16 → FollowingWords
following_words_in [] = Nothing
following_words_in (first ∷ []) = One first
following_words_in (first ∷ second ∷ rest) = Two first second

-- the list gives them back
pub following_words_in-following_words : (words : FollowingWords)
    → following_words_in (following_words words) ≡ words
following_words_in-following_words Nothing = refl
following_words_in-following_words (One first) = refl
following_words_in-following_words (Two first second) = refl
