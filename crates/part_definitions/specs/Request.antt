-- A request for an attestation: its token, and what the ROM decides on it.
use Rattle.std.specs.{Prelude.{◌++◌, ℕ, ◌∷◌, not, nat_le, if◌then◌else◌}, Str.bytes_eq}
use Rattle.device_types.specs.Address.{Bytes}
use Rattle.part_definitions.specs.{Hmac.{Digest, hmac}, Metadata.{challenge_in, counter_in, token_in, little_endian}}

-- the token of a challenge and of a counter's four bytes, the lowest first
abbrev pub request_token : Digest → Bytes → Bytes → Bytes → Bytes
request_token digest key challenge counter = hmac digest key (1 ∷ challenge ++ counter)

-- the token that the metadata should carry
abbrev pub right_token : Digest → Bytes → Bytes → Bytes
right_token digest key metadata =
    request_token digest key (challenge_in metadata) (counter_in metadata)

-- what a call decides, which is also the word that it writes
abbrev pub ATTESTS : ℕ
ATTESTS = 1

abbrev pub COUNTER_IS_OLD : ℕ
COUNTER_IS_OLD = 2

abbrev pub TOKEN_DIFFERS : ℕ
TOKEN_DIFFERS = 3

-- on a request with these metadata, where these bytes of a counter are kept
abbrev pub request_decision : Digest → Bytes → Bytes → Bytes → ℕ
request_decision digest key metadata kept =
    if not (bytes_eq (token_in metadata) (right_token digest key metadata)) then TOKEN_DIFFERS
    else if nat_le (little_endian (counter_in metadata)) (little_endian kept) then COUNTER_IS_OLD
    else ATTESTS
