-- A play that attests under SHA-256. Its numbers were computed by another program (HMAC of Python's
-- library).
use Rattle.std.specs.Prelude.{◌++◌, List, [], ◌∷◌, codes}
use Rattle.word_arith.specs.Number.{Word16}
use Rattle.sha2.specs.Sha256.{sha256}
use Rattle.device_types.specs.{Address.{Bytes, Contents}, Map.COUNTER}
use Rattle.part_definitions.specs.TrustedFlag.{aux}
use Rattle.device_trace.specs.{Example.attestation_of, Start.{Start, with_key}}

-- the token, under the key 00 to 3F, of the challenge of 32 bytes 00 and the counter 1
abbrev pub token_words : List Word16
token_words =
    0xC9BD ∷ 0x28E6 ∷ 0x03DF ∷ 0x964A ∷ 0xB922 ∷ 0x0490 ∷ 0xBF0E ∷ 0x50EF ∷
    0xC49C ∷ 0x2A20 ∷ 0xFB94 ∷ 0xDBEF ∷ 0x664C ∷ 0xC95E ∷ 0xCA13 ∷ 0xE9A5 ∷ []

-- a program that attests on this request
abbrev pub requested_image : Contents
requested_image = attestation_of ((COUNTER, 1 ∷ 0 ∷ token_words) ∷ [])

-- a device with this key and this program
abbrev pub attesting_start : Bytes → Start
attesting_start key = with_key aux sha256 key requested_image

-- the decision to attest, and the words of the MAC
abbrev pub attested_words : List Word16
attested_words =
    1 ∷
    0x7E98 ∷ 0x97C8 ∷ 0xDD5B ∷ 0xC6D1 ∷ 0x1F5D ∷ 0xA811 ∷ 0x7F04 ∷ 0xF6D0 ∷
    0x637E ∷ 0xDA97 ∷ 0xF7D1 ∷ 0x0BE1 ∷ 0xFDEC ∷ 0x0EBB ∷ 0x4FA6 ∷ 0x666A ∷ []

-- what the play prints: the report with that MAC
abbrev pub attested_text : Bytes
attested_text =
    codes "report2 139 exec 0 aux 0 count 1 chal "
    ++ codes "0000000000000000000000000000000000000000000000000000000000000000"
    ++ codes " er c000 c00a or 0300 0300 data 0000 mac "
    ++ codes "987ec8975bddd1c65d1f11a8047fd0f67e6397dad1f7e10becfdbb0ea64f6a66"
    ++ codes "\nend 141 pc c00a exec 0\n"
