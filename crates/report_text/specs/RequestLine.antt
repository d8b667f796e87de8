-- The line of a request for an attestation.
use Rattle.std.specs.{Prelude.{ℕ, List, [], ◌∷◌, codes}, Fmt.decimal}
use Rattle.hex.specs.Hex.{encode_lower}
use Rattle.device_types.specs.Address.{Bytes}
use Rattle.printed_lines.specs.Line.{line_of}

-- `H64 n token H64`: its challenge, its counter and its token
abbrev pub request_pieces : Bytes → ℕ → Bytes → List Bytes
request_pieces chal count token =
    encode_lower chal ∷ decimal count ∷ codes "token" ∷ encode_lower token ∷ []

abbrev pub request_line : Bytes → ℕ → Bytes → Bytes
request_line chal count token = line_of (codes "request") (request_pieces chal count token)
