-- The commands of a user behind GDB's `monitor`, which come in hexadecimal digits.
use Rattle.std.specs.{Prelude.{ℕ, List, Option, Some, None, Result, Ok, Err, codes, if◌then◌else◌}, Str.bytes_eq}
use Rattle.hex.specs.{Hex.decode_of, declared.error.FromHexError.FromHexError}
use Rattle.text_scan.specs.{Decimal.decimal_of, Word.{end_of, next_word, words_of}, declared.fault_kind.FaultKind.FaultKind}
use Rattle.debug_session.specs.{declared.request.Request.{Request, TheVariants.{Steps, Flags, Play, Trace, Until, Help, Other}}}

-- the most steps of a play
abbrev pub most_steps : ℕ
most_steps = 10000000

-- at most so many lines of a trace are told at once
abbrev pub most_lines : ℕ
most_lines = 1000

abbrev pub plain_request : List ℕ → Request
plain_request name =
    if bytes_eq name (codes "steps") then Steps
    else if bytes_eq name (codes "flags") then Flags
    else if bytes_eq name (codes "play") then Play
    else if bytes_eq name (codes "help") then Help
    else Other

abbrev pub number_or : (ℕ → Request) → Result ℕ FaultKind → Request
number_or request (Ok number) = request number
number_or request (Err fault) = Other

abbrev pub number_request : List ℕ → List ℕ → Request
number_request name number =
    if bytes_eq name (codes "trace") then number_or Trace (decimal_of 1 most_lines number)
    else if bytes_eq name (codes "until") then number_or Until (decimal_of 0 most_steps number)
    else Other

-- one word is a request, and so are two, of which the second is a number
abbrev pub with_end : Request → Result Unit FaultKind → Request
with_end request (Ok end) = request
with_end request (Err fault) = Other

abbrev pub with_name : List ℕ → Result (List ℕ × List (List ℕ)) FaultKind → Request
with_name name (Ok number) = with_end (number_request name number.0) (end_of number.1)
with_name name (Err fault) = plain_request name

abbrev pub with_first : Result (List ℕ × List (List ℕ)) FaultKind → Request
with_first (Ok name) = with_name name.0 (next_word name.1)
with_first (Err fault) = Other

abbrev pub request_of : List (List ℕ) → Request
request_of words = with_first (next_word words)

abbrev pub request_where : Result (List ℕ) FromHexError → Option Request
request_where (Ok text) = Some (request_of (words_of text))
request_where (Err error) = None

-- of a text in hexadecimal digits, where it is one
abbrev pub request_in : List ℕ → Option Request
request_in digits = request_where (decode_of digits)
