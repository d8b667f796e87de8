-- What a verifier expects a report's MAC to be of.
use Rattle.std.specs.{Prelude.{◌++◌, ℕ, Bool, List, [], ◌∷◌, Option, Some, None}, Int.{w32, to_le_bytes}}
use Rattle.word_arith.specs.Number.{bit_of}
use Rattle.device_types.specs.{declared.{bounds.Bounds.Bounds, version.Version.{Version, TheVariants.{One, Two}}}, Report.ReportFields}
use Rattle.part_definitions.specs.{Attestation.{bytes_of_words, attestation_tag}, Region.bytes_between, Request.request_token}
use Rattle.mem_map.specs.Image.{image_byte}
use Rattle.report_verifier.specs.declared.expect.Expect.{Expect}

-- the four bytes of a counter, the lowest first
abbrev pub count_bytes : ℕ → List ℕ
count_bytes count = to_le_bytes w32 count

-- the token that the expected request carries
abbrev pub expected_token : (List ℕ → List ℕ) → List ℕ → Expect → List ℕ
expected_token digest key expect = request_token digest key expect.chal (count_bytes expect.count)

-- the expected challenge and bounds, and the EXEC word, which both versions have
abbrev pub common_metadata : Expect → Bool → List ℕ
common_metadata expect exec =
    expect.chal
    ++ bytes_of_words
    (expect.bounds.er_min ∷ expect.bounds.er_max ∷ expect.bounds.or_min ∷ expect.bounds.or_max
    ∷ bit_of exec ∷ [])

-- what version 2 has behind them: the AUX word, the expected counter, and its token
abbrev pub request_metadata : Version → (List ℕ → List ℕ) → List ℕ → Expect → Bool → List ℕ
request_metadata One digest key expect aux = []
request_metadata Two digest key expect aux =
    bytes_of_words (bit_of aux ∷ [])
    ++ (count_bytes expect.count ++ expected_token digest key expect)

-- both, with the flags as the report tells them
abbrev pub expected_metadata : (List ℕ → List ℕ) → List ℕ → Expect → ReportFields → List ℕ
expected_metadata digest key expect report =
    common_metadata expect report.exec
    ++ request_metadata expect.version digest key expect report.aux

-- the image's code, 0 where it has no byte
abbrev pub image_code : (ℕ → Option ℕ) → Bounds → List ℕ
image_code image bounds = bytes_between (image_byte image) bounds.er_min bounds.er_max

-- no output counts as an output of no bytes
abbrev pub report_output : Option (List ℕ) → List ℕ
report_output None = []
report_output (Some bytes) = bytes

-- the code, and the output that the report tells
abbrev pub expected_rest : (ℕ → Option ℕ) → Expect → Option (List ℕ) → List ℕ
expected_rest image expect output = image_code image expect.bounds ++ report_output output

abbrev pub expected_mac :
    (List ℕ → List ℕ) → List ℕ → (ℕ → Option ℕ) → Expect → ReportFields → List ℕ
expected_mac digest key image expect report =
    attestation_tag digest key (expected_metadata digest key expect report)
    (expected_rest image expect report.output)
