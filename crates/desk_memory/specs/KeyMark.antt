-- What tells a key from others without telling the key.
use Rattle.std.specs.Prelude.{ℕ, List, [], ◌∷◌, take}
use Rattle.part_definitions.specs.Hmac.{hmac}

-- its message: 3 sets it apart from those of tokens and challenges, which begin with 1 and 2
abbrev pub mark_message : List ℕ
mark_message = 3 ∷ []

-- the mark of a key: the first 16 bytes of an HMAC under it
abbrev pub key_mark : (List ℕ → List ℕ) → List ℕ → List ℕ
key_mark digest key = take 16 (hmac digest key mark_message)
