-- The command `request`: a request for an attestation, with its token.
use Rattle.std.specs.{Prelude.{ℕ, List, [], ◌∷◌, Option, Some, None, Result, Ok}, Result.result_ok}
use Rattle.sha2.specs.Sha256.{sha256}
use Rattle.text_scan.specs.{declared.fault_kind.FaultKind.FaultKind, Decimal.decimal_of, Hexadecimal.hex_bytes_of, Reader.◌>>=◌}
use Rattle.part_definitions.specs.Request.{request_token}
use Rattle.report_text.specs.RequestLine.{request_line}
use Rattle.report_verifier.specs.Expectation.{count_bytes}
use Rattle.input_files.specs.{FileKind.key_kind, Row.read_file}
use Rattle.device_cli.specs.{FileKind.most_count, Row.{Row, plain, put}}

-- the token is that of the device's key
abbrev pub request_text : List ℕ → ℕ → List ℕ → List ℕ
request_text chal count key =
    request_line chal count (request_token sha256 key chal (count_bytes count))

-- `request KEY CHAL COUNTER`
abbrev pub request_row : List ℕ → List ℕ → ℕ → Row
request_row key chal count =
    read_file key_kind key (λ key. put (plain (request_text chal count key)))

-- a challenge of 64 hexadecimal digits, and a counter in 1..4,294,967,295
abbrev pub request_of : List ℕ → List ℕ → Result (List ℕ × ℕ) FaultKind
request_of chal count = do
  bytes ← hex_bytes_of 32 chal
  number ← decimal_of 1 most_count count
  Ok (bytes, number)

abbrev pub row_with : List ℕ → Option (List ℕ × ℕ) → Option Row
row_with key (Some request) = Some (request_row key request.0 request.1)
row_with key None = None

-- the row that the arguments after `request` spell
abbrev pub request_row_of : List (List ℕ) → Option Row
request_row_of (key ∷ chal ∷ count ∷ []) = row_with key (result_ok (request_of chal count))
request_row_of arguments = None
