-- The digests of one call under SHA-256, computed once and looked up from then on.
use Rattle.std.{proofs.{Common.{◌≡◌, ◌∙◌, ℕ, zero, suc, ◌/◌, ◌%◌, Bool, true, false, List, [], ◌∷◌, ◌++◌, map, replicate, refl, ap, ◌+◌, ◌*◌, length, take, drop, append-nil}, lemmas.Slice.Eq.bytes_eq-Decides}, specs.{Prelude.if◌then◌else◌, Str.bytes_eq, Fmt.digits}}
use Rattle.sha2.specs.Sha256.{digest_bytes, first_words, rounds, sha256, add_state, compress, hash_after, initial_hash_256, next_word, padded_message, schedule}
use Rattle.device_types.specs.{Address.Bytes, ExecFlag.exec}
use Rattle.part_definitions.specs.{Attestation.{bytes_of_words, call_items}, Hmac.{Digest, block_of, with_mask}, FirstRule.first_rule, NextAccess.{next_access, entry_access}, MonitorRule.{key_rule, atomicity_rule}, TrustedFlag.aux}
use Rattle.device_trace.specs.{Example.upwards, Logs.{with_events, with_record}, Signals.signals_at, Start.{with_key, without_key}, Step.{record_of, next_record}, Text.{lines_of, play_text}, Trace.{logs_after, released_words}}
use Rattle.key_isolation.{specs.{AttestedPlay.{token_words, attested_text, attested_words, attesting_start, requested_image}, Example.whole_call}, proofs.TwoKeys.looks_keyless}
use Rattle.hex.specs.Hex.{encode_with}
use Rattle.word_arith.specs.{Op2.alu_result, Op1.shift_result}
use Rattle.msp_decode.specs.Head.{head_of}
use Rattle.key_isolation.proofs.example.attested_play_looks_keyless.Goals as goal

-- SHA-256 so that it can be computed: the words of a block are made once from those before them.

abbrev extended : List ℕ → ℕ → List ℕ
extended words t = words ++ next_word words t ∷ []

unfoldable words_of : List ℕ → ℕ → List ℕ
words_of block zero = first_words block 16
words_of block (suc n) = extended (words_of block n) (n + 16)

schedule-words : (block : List ℕ) (n : ℕ) → schedule block n ≡ words_of block n
unfolding schedule words_of
schedule-words block zero = refl
schedule-words block (suc n) =
    ap (λ (words : List ℕ). words ++ next_word words (n + 16) ∷ []) (schedule-words block n)

unfoldable state_after : List ℕ → List ℕ → ℕ → List ℕ
state_after state bytes zero = state
state_after state bytes (suc n) =
    let before : List ℕ = state_after state bytes n in
    add_state before (rounds before (words_of (take 64 (drop (n * 64) bytes)) 48) 64)

hash-state : (state bytes : List ℕ) (n : ℕ)
    → hash_after state bytes n ≡ state_after state bytes n
unfolding hash_after compress state_after
hash-state state bytes zero = refl
hash-state state bytes (suc n) =
    λ i. add_state (hash-state state bytes n i)
    (rounds (hash-state state bytes n i) (schedule-words (take 64 (drop (n * 64) bytes)) 48 i) 64)

unfoldable computed : List ℕ → List ℕ
computed message =
    digest_bytes
    (state_after initial_hash_256 (padded_message message) (length (padded_message message) / 64))
    8

sha256-computed : (message : List ℕ) → sha256 message ≡ computed message
unfolding sha256 computed
sha256-computed message =
    ap (λ (state : List ℕ). digest_bytes state 8)
    (hash-state initial_hash_256 (padded_message message) (length (padded_message message) / 64))

-- a number's bytes, so many, the highest first, before these
abbrev bytes_before : ℕ → ℕ → Bytes → Bytes
bytes_before zero number bytes = bytes
bytes_before (suc count) number bytes =
    bytes_before count (number / 256) (number % 256 ∷ bytes)

abbrev digest_of : ℕ → Bytes
digest_of number = bytes_before 32 number []

-- a message, and its digest
abbrev Row : Type 0
Row = Bytes × Bytes

-- the digest of a message by these rows, and of any other by SHA-256
unfoldable looked_up : List Row → Digest
looked_up [] message = sha256 message
looked_up (row ∷ rows) message =
    if bytes_eq message row.0 then row.1 else looked_up rows message

abbrev AreDigests : List Row → Type 0
AreDigests rows = map (λ (row : Row). computed row.0) rows ≡ map (λ (row : Row). row.1) rows

first_same : (first second : Bytes) (left right : List Bytes)
    → first ∷ left ≡ second ∷ right → first ≡ second
first_same first second left right same = cc same

rest_same : (first second : Bytes) (left right : List Bytes)
    → first ∷ left ≡ second ∷ right → left ≡ right
rest_same first second left right same = cc same

by_row : (test : Bool) (message : Bytes) (row : Row) (other : Bytes)
    → (test ≡ true → message ≡ row.0) → sha256 row.0 ≡ row.1 → sha256 message ≡ other
    → sha256 message ≡ (if test then row.1 else other)
by_row true message row other same is rest = ap sha256 (same refl) ∙ is
by_row false message row other same is rest = rest

sha256-looked_up : (rows : List Row) → AreDigests rows → (message : Bytes)
    → sha256 message ≡ looked_up rows message
unfolding looked_up
sha256-looked_up [] are message = refl
sha256-looked_up (row ∷ rows) are message =
    let digests : List Bytes = map (λ (row : Row). computed row.0) rows in
    let others : List Bytes = map (λ (row : Row). row.1) rows in
    by_row (bytes_eq message row.0) message row (looked_up rows message)
    (bytes_eq-Decides message row.0).0
    (sha256-computed row.0 ∙ first_same (computed row.0) row.1 digests others are)
    (sha256-looked_up rows (rest_same (computed row.0) row.1 digests others are) message)

-- of the token, of the key of the challenge and of the MAC, and of the token under another key: the
-- inner input and the outer one
abbrev key : Bytes
key = upwards 0 64

abbrev other_key : Bytes
other_key = upwards 1 64

abbrev challenge : Bytes
challenge = replicate 32 0

abbrev inner_token : Bytes
inner_token = digest_of 0x10e0ec079eed97d102bdbbd8abd7e2b8b8b185b0c78392b292a82db4b76ce920

abbrev token : Bytes
token = digest_of 0xbdc9e628df034a9622b990040ebfef509cc4202a94fbefdb4c665ec913caa5e9

abbrev inner_key : Bytes
inner_key = digest_of 0x8a6d68bdb22601a88b6f4d219e16c2f37ae1107e5838edf0a2b5ee3d2125d3f6

abbrev challenge_key : Bytes
challenge_key = digest_of 0x491f583b05e23a721d116dc108a03f303798368a494c211d56a52af36828b769

abbrev inner_mac : Bytes
inner_mac = digest_of 0xf5f5193a5605c20d9c3531328cac0139b42d44ac0fdde616fa152ffe6b81650a

abbrev mac : Bytes
mac = digest_of 0x987ec8975bddd1c65d1f11a8047fd0f67e6397dad1f7e10becfdbb0ea64f6a66

abbrev inner_other : Bytes
inner_other = digest_of 0xe45961d1b00e2cdff88036e79e9ed41f306294075047a409cf2cebcae24bd2af

abbrev other_token : Bytes
other_token = digest_of 0x47e914071e750fc3f2c00aa0f76a9a66594afced894cdca90bcad8a65f38100d

-- of the token
abbrev request : Bytes
request = 1 ∷ challenge ++ 1 ∷ 0 ∷ 0 ∷ 0 ∷ []

-- metadata, code and output
abbrev message : Bytes
message =
    challenge
    ++ bytes_of_words (0xC000 ∷ 0xC00A ∷ 0x0300 ∷ 0x0300 ∷ 0 ∷ 0 ∷ 1 ∷ 0 ∷ token_words)
    ++ bytes_of_words (0x4031 ∷ 0x2200 ∷ 0xC232 ∷ 0x12B0 ∷ 0xA000 ∷ 0x3FFF ∷ 0 ∷ [])

abbrev call_rows : List Row
call_rows =
    (with_mask 0x36 key ++ request, inner_token)
    ∷ (with_mask 0x5C key ++ inner_token, token)
    ∷ (with_mask 0x36 key ++ challenge, inner_key)
    ∷ (with_mask 0x5C key ++ inner_key, challenge_key)
    ∷ (with_mask 0x36 (block_of challenge_key) ++ message, inner_mac)
    ∷ (with_mask 0x5C (block_of challenge_key) ++ inner_mac, mac)
    ∷ (with_mask 0x36 other_key ++ request, inner_other)
    ∷ (with_mask 0x5C other_key ++ inner_other, other_token)
    ∷ []

are_digests : AreDigests call_rows
unfolding computed digest_bytes first_words rounds state_after words_of
are_digests = refl

sha256-by_rows : sha256 ≡ looked_up call_rows
sha256-by_rows = λ i message. sha256-looked_up call_rows are_digests message i

-- what the calls release with this key
releases_with : Bytes → List ℕ
releases_with key = released_words (attesting_start key) whole_call

by_rows : (key : Bytes)
    → releases_with key
    ≡ released_words (with_key aux (looked_up call_rows) key requested_image) whole_call
unfolding releases_with
by_rows key =
    ap (λ (digest : Digest). released_words (with_key aux digest key requested_image) whole_call)
    sha256-by_rows

releases : releases_with (upwards 0 64) ≡ attested_words
unfolding alu_result shift_result head_of call_items next_access entry_access key_rule
    atomicity_rule exec with_events with_record signals_at first_rule record_of next_record
    logs_after aux looked_up
releases = by_rows (upwards 0 64) ∙ refl

denies : releases_with (upwards 1 64) ≡ 3 ∷ []
unfolding alu_result shift_result head_of call_items next_access entry_access key_rule
    atomicity_rule exec with_events with_record signals_at first_rule record_of next_record
    logs_after aux looked_up
denies = by_rows (upwards 1 64) ∙ refl

prints : play_text (without_key aux attested_words requested_image) whole_call ≡ attested_text
unfolding digits encode_with alu_result shift_result head_of call_items next_access entry_access
    key_rule atomicity_rule exec with_events with_record signals_at first_rule record_of next_record
    logs_after aux lines_of play_text
prints = refl

pub returns-clause-released : goal.returns-clause-released
unfolding releases_with
returns-clause-released c = releases

pub returns-clause-printed : goal.returns-clause-printed
unfolding releases_with
returns-clause-printed c =
    (looks_keyless (attesting_start (upwards 0 64)) whole_call []).same_text
    ∙ ap (λ (words : List ℕ). play_text (without_key aux words requested_image) whole_call)
    (append-nil (released_words (attesting_start (upwards 0 64)) whole_call) ∙ releases)
    ∙ prints

pub returns-clause-other : goal.returns-clause-other
unfolding releases_with
returns-clause-other c = denies

pub returns-clause-keyless : goal.returns-clause-keyless
returns-clause-keyless c = prints
