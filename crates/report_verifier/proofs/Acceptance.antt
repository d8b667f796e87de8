-- An accepted report is of the bytes that were expected, or there are two lists with one digest.
use Rattle.std.{proofs.{Common.{◌≡◌, ◌∙◌, ◌<◌, ◌+◌, ◌-◌, ◌++◌, ◌&&◌, ◌⊎◌, ap, sym, ℕ, List, Bool, true, false, Option, Some, inl, inr, refl, length, length-append, take, drop, arith, ◌∷◌, [], ◌*◌, ◌/◌, ◌%◌, zero, suc}, Math.Seq.{take-append_seam, drop-append_seam}, lemmas.{Bool.{and_parts, cases_Bool, cond-true, eqb-true, false≢true}, Slice.Eq.bytes_eq-Decides, List.Elements.{All-append, All-cons, All-from_get_or, All-nil}}}, specs.{Prelude.{◌==◌, not, if◌then◌else◌, IsTrue, slice_index}, Str.bytes_eq, Int.{w32, to_le_bytes}}}
use Rattle.device_types.specs.{declared.{bounds.Bounds.Bounds, version.Version.{Version, TheVariants.{One, Two}}}, Bounds.{are_valid, bounds_with}, Report.ReportFields}
use Rattle.part_definitions.{specs.{Hmac.{hmac, inner_digest, outer_input}, Metadata.bounds_in, Region.{metadata_bytes, bounded_bytes, rest_bytes, bytes_between, challenge_bytes, output_bytes}, Attestation.bytes_of_words, Memory.bytes_from}, proofs.BytesFrom.length-bytes_from}
use Rattle.report_verifier.{specs.{declared.{verdict.Verdict.TheVariants.{Accept, VersionDiffers, ChalDiffers, CountDiffers, BoundsDiffer, ExecZero, AuxZero, MacDiffers}, expect.Expect.Expect, flag_kind.FlagKind.{FlagKind, TheVariants.{Exec, Aux, Plain}}}, Acceptance.{HasFlag, IsAccepted, StandsAsExpected}, Collision.{AreBytes, Collides, GivesBytes, colliding_pair}, Comparison.{expected_key, expected_bytes, own_bytes}, Expectation.{expected_mac, expected_metadata, expected_rest, image_code, report_output, common_metadata, count_bytes, expected_token, request_metadata}, Verdict.{same_version, same_bounds, lacks_exec, lacks_aux, verdict}}, proofs.{Pairs.one_mac-collides, Pushes.take-first, PairBytes.IsByte}}
use Rattle.mem_map.specs.Image.{image_byte}
use Rattle.word_arith.specs.Number.{bit_of}

-- What an accepted report is expected to be of, and the device's own, are bytes.

-- of a memory
pub from-bytes : (bytes : ℕ → ℕ) (place count : ℕ) → ((place : ℕ) → bytes place < 256)
    → AreBytes (bytes_from bytes place count)
from-bytes bytes place zero small = All-nil IsByte
from-bytes bytes place (suc count) small =
    All-cons IsByte (bytes place) (bytes_from bytes (place + 1) count) (small place)
    (from-bytes bytes (place + 1) count small)

pub own-bytes : (bytes : ℕ → ℕ) → ((place : ℕ) → bytes place < 256) → AreBytes (own_bytes bytes)
own-bytes bytes small =
    All-append IsByte (metadata_bytes bytes) (rest_bytes bytes) (from-bytes bytes _ 80 small)
    (by_validity (are_valid (bounds_in bytes)))
  where
    by_validity : (is_valid : Bool) → AreBytes (if is_valid
        then bytes_between bytes (bounds_in bytes).er_min (bounds_in bytes).er_max
        ++ output_bytes bytes (bounds_in bytes)
        else [])
    by_validity true =
        All-append IsByte (bytes_between bytes (bounds_in bytes).er_min (bounds_in bytes).er_max)
        (output_bytes bytes (bounds_in bytes))
        (from-bytes bytes (bounds_in bytes).er_min _ small)
        (from-bytes bytes (bounds_in bytes).or_min _ small)
    by_validity false = All-nil IsByte

-- words below 2^16
pub record AreWords (bounds : Bounds) : Type 0 where
  pub er_min : bounds.er_min < 65536
  pub er_max : bounds.er_max < 65536
  pub or_min : bounds.or_min < 65536
  pub or_max : bounds.or_max < 65536

pub memory-words : (bytes : ℕ → ℕ) → ((place : ℕ) → bytes place < 256)
    → AreWords (bounds_in bytes)
memory-words bytes small =
    record {
      er_min = word (small _) (small _);
      er_max = word (small _) (small _);
      or_min = word (small _) (small _);
      or_max = word (small _) (small _);
    }
  where
    word : {low high : ℕ} → low < 256 → high < 256 → low + 256 * high < 65536
    word low_fits high_fits = omega (arith, low_fits, high_fits)

more-words : (word : ℕ) (words : List ℕ) → word < 65536 → AreBytes (bytes_of_words words)
    → AreBytes (bytes_of_words (word ∷ words))
more-words word words fits are =
    let low : word % 256 < 256 = omega arith in
    let high : word / 256 < 256 = omega (arith, fits) in
    All-cons IsByte (word % 256) (word / 256 ∷ bytes_of_words words) low
    (All-cons IsByte (word / 256) (bytes_of_words words) high are)

flag-fits : (flag : Bool) → bit_of flag < 65536
flag-fits true = omega arith
flag-fits false = omega arith

-- four bytes
count-bytes : (count : ℕ) → AreBytes (count_bytes count)
count-bytes count = All-from_get_or IsByte (count_bytes count) 0 byte
  where
    byte : (i : ℕ) → i < 4 → slice_index (to_le_bytes w32 count) i < 256
    byte zero within = omega arith
    byte (suc zero) within = omega arith
    byte (suc (suc zero)) within = omega arith
    byte (suc (suc (suc zero))) within = omega arith
    byte (suc (suc (suc (suc i)))) within = absurd (omega (arith, within))

token-bytes : (digest : List ℕ → List ℕ) (key : List ℕ) (expect : Expect)
    → GivesBytes digest → AreBytes (expected_token digest key expect)
token-bytes digest key expect gives =
    let message : List ℕ = 1 ∷ expect.chal ++ count_bytes expect.count in
    gives (outer_input digest key (inner_digest digest key message))

request-bytes : (version : Version) (digest : List ℕ → List ℕ) (key : List ℕ) (expect : Expect)
    (aux : Bool)
    → GivesBytes digest → AreBytes (request_metadata version digest key expect aux)
request-bytes One digest key expect aux gives = All-nil IsByte
request-bytes Two digest key expect aux gives =
    let token : List ℕ = expected_token digest key expect in
    All-append IsByte (bytes_of_words (bit_of aux ∷ [])) (count_bytes expect.count ++ token)
    (more-words (bit_of aux) [] (flag-fits aux) (All-nil IsByte))
    (All-append IsByte (count_bytes expect.count) token (count-bytes expect.count)
    (token-bytes digest key expect gives))

metadata-bytes : (digest : List ℕ → List ℕ) (key : List ℕ) (expect : Expect)
    (report : ReportFields)
    → GivesBytes digest → AreBytes expect.chal → AreWords expect.bounds
    → AreBytes (expected_metadata digest key expect report)
metadata-bytes digest key expect report gives chal words =
    let bounds : Bounds = expect.bounds in
    let flag : ℕ = bit_of report.exec in
    All-append IsByte (common_metadata expect report.exec)
    (request_metadata expect.version digest key expect report.aux)
    (All-append IsByte expect.chal
    (bytes_of_words (bounds.er_min ∷ bounds.er_max ∷ bounds.or_min ∷ bounds.or_max ∷ flag ∷ []))
    chal
    (more-words bounds.er_min (bounds.er_max ∷ bounds.or_min ∷ bounds.or_max ∷ flag ∷ [])
    words.er_min
    (more-words bounds.er_max (bounds.or_min ∷ bounds.or_max ∷ flag ∷ []) words.er_max
    (more-words bounds.or_min (bounds.or_max ∷ flag ∷ []) words.or_min
    (more-words bounds.or_max (flag ∷ []) words.or_max
    (more-words flag [] (flag-fits report.exec) (All-nil IsByte)))))))
    (request-bytes expect.version digest key expect report.aux gives)

pub expected-bytes : (digest : List ℕ → List ℕ) (key : List ℕ) (image : ℕ → Option ℕ)
    (expect : Expect) (report : ReportFields)
    → GivesBytes digest → AreBytes expect.chal → AreWords expect.bounds
    → ((place : ℕ) → image_byte image place < 256) → AreBytes (report_output report.output)
    → AreBytes (expected_bytes digest key image expect report)
expected-bytes digest key image expect report gives chal words small output =
    All-append IsByte (expected_metadata digest key expect report)
    (expected_rest image expect report.output)
    (metadata-bytes digest key expect report gives chal words)
    (All-append IsByte (image_code image expect.bounds) (report_output report.output)
    (from-bytes (image_byte image) expect.bounds.er_min _ small) output)

-- The challenge is the beginning of the expected metadata, and how many bytes they begin with.

pub take-chal : (digest : List ℕ → List ℕ) (key : List ℕ) (expect : Expect)
    (report : ReportFields)
    → length expect.chal ≡ 32
    → take 32 (expected_metadata digest key expect report) ≡ expect.chal
take-chal digest key expect report is = take-first expect.chal _ _ 32 is

pub length-first : (expect : Expect) (exec : Bool) → length expect.chal ≡ 32
    → length (common_metadata expect exec) ≡ 42
length-first expect exec is =
    length-append expect.chal (bytes_of_words
    (expect.bounds.er_min ∷ expect.bounds.er_max ∷ expect.bounds.or_min ∷ expect.bounds.or_max
    ∷ bit_of exec ∷ []))
    ∙ ap (λ (n : ℕ). n + 10) is

-- what an accept says of the tests
pub record TestsHold (version chal count bounds no_exec no_aux mac : Bool) : Type 0 where
  pub version_holds : version ≡ true
  pub chal_holds : chal ≡ true
  pub bounds_hold : bounds ≡ true
  pub exec_holds : no_exec ≡ false
  pub aux_holds : no_aux ≡ false
  pub mac_holds : mac ≡ true

tests-hold : (version chal count bounds no_exec no_aux mac : Bool)
    → (if not version then VersionDiffers
    else if not chal then ChalDiffers
    else if not count then CountDiffers
    else if not bounds then BoundsDiffer
    else if no_exec then ExecZero
    else if no_aux then AuxZero
    else if not mac then MacDiffers
    else Accept) ≡ Accept
    → TestsHold version chal count bounds no_exec no_aux mac
tests-hold true true true true false false true is =
    record {
      version_holds = refl;
      chal_holds = refl;
      bounds_hold = refl;
      exec_holds = refl;
      aux_holds = refl;
      mac_holds = refl;
    }
tests-hold true true true true false false false is = absurd (cc)
tests-hold true true true true false true mac is = absurd (cc)
tests-hold true true true true true no_aux mac is = absurd (cc)
tests-hold true true true false no_exec no_aux mac is = absurd (cc)
tests-hold true true false bounds no_exec no_aux mac is = absurd (cc)
tests-hold true false count bounds no_exec no_aux mac is = absurd (cc)
tests-hold false chal count bounds no_exec no_aux mac is = absurd (cc)

same-version : (left right : Version) → same_version left right ≡ true → left ≡ right
same-version One One same = refl
same-version One Two same = absurd (cc)
same-version Two One same = absurd (cc)
same-version Two Two same = refl

not-lacking : (flag : Bool) → not flag ≡ false → IsTrue flag
not-lacking true is = refl
not-lacking false is = absurd (cc)

has-flag : (flag : FlagKind) (report : ReportFields)
    → lacks_exec flag report.exec ≡ false
    → lacks_aux flag report.aux ≡ false
    → HasFlag flag report
has-flag Exec report exec aux = not-lacking report.exec exec
has-flag Aux report exec aux = not-lacking report.aux aux
has-flag Plain report exec aux = tt

-- bounds that are the same in each part are equal
pub same-bounds : (left right : Bounds) → same_bounds left right ≡ true → left ≡ right
same-bounds left right same =
    let code : Bool = (left.er_min == right.er_min) && (left.er_max == right.er_max) in
    let low = and_parts (code && (left.or_min == right.or_min)) (left.or_max == right.or_max) same
    in
    let output = and_parts code (left.or_min == right.or_min) low.0 in
    let ends = and_parts (left.er_min == right.er_min) (left.er_max == right.er_max) output.0 in
    both (eqb-true left.er_min right.er_min ends.0) (eqb-true left.er_max right.er_max ends.1)
    (eqb-true left.or_min right.or_min output.1) (eqb-true left.or_max right.or_max low.1)
  where
    both : {a b c d e f g h : ℕ} → a ≡ e → b ≡ f → c ≡ g → d ≡ h
        → bounds_with a b c d ≡ bounds_with e f g h
    both first second third fourth = rw (first, second, third, fourth) refl

-- what an accept says
pub record Agrees (digest : List ℕ → List ℕ) (key : List ℕ) (image : ℕ → Option ℕ)
    (expect : Expect) (report : ReportFields) : Type 0 where
  pub version : expect.version ≡ report.version
  pub chal : expect.chal ≡ report.chal
  pub bounds : expect.bounds ≡ report.bounds
  pub flag : HasFlag expect.flag report
  pub mac : expected_mac digest key image expect report ≡ report.mac

pub accept-agrees : (digest : List ℕ → List ℕ) (key : List ℕ) (image : ℕ → Option ℕ)
    (expect : Expect) (report : ReportFields)
    → verdict digest key image (Some expect) report ≡ Accept
    → Agrees digest key image expect report
accept-agrees digest key image expect report accepted =
    let mac : List ℕ = expected_mac digest key image expect report in
    let tests = tests-hold (same_version expect.version report.version)
    (bytes_eq expect.chal report.chal) (expect.count == report.count)
    (same_bounds expect.bounds report.bounds) (lacks_exec expect.flag report.exec)
    (lacks_aux expect.flag report.aux) (bytes_eq mac report.mac) accepted in
    record {
      version = same-version expect.version report.version tests.version_holds;
      chal = (bytes_eq-Decides expect.chal report.chal).0 tests.chal_holds;
      bounds = same-bounds expect.bounds report.bounds tests.bounds_hold;
      flag = has-flag expect.flag report tests.exec_holds tests.aux_holds;
      mac = (bytes_eq-Decides mac report.mac).0 tests.mac_holds;
    }

-- the challenge in memory is the one that is expected
chal-here : (digest : List ℕ → List ℕ) (key : List ℕ) (image : ℕ → Option ℕ)
    (expect : Expect) (bytes : ℕ → ℕ) (report : ReportFields)
    → IsAccepted digest key image expect bytes report
    → expect.chal ≡ challenge_bytes bytes
chal-here digest key image expect bytes report is =
    (accept-agrees digest key image expect report is.accepted).chal ∙ is.of_memory.chal

pub one_mac : (digest : List ℕ → List ℕ) (key : List ℕ) (image : ℕ → Option ℕ)
    (expect : Expect) (bytes : ℕ → ℕ) (report : ReportFields)
    → IsAccepted digest key image expect bytes report
    → hmac digest (expected_key digest key expect)
    (expected_bytes digest key image expect report)
    ≡ hmac digest (expected_key digest key expect) (own_bytes bytes)
one_mac digest key image expect bytes report is =
    let agrees = accept-agrees digest key image expect report is.accepted in
    let chal = chal-here digest key image expect bytes report is in
    let size : length expect.chal ≡ 32 = ap length chal ∙ length-bytes_from bytes 0x240 32 in
    ap (λ (challenge : List ℕ). hmac digest (hmac digest key challenge)
    (expected_bytes digest key image expect report))
    (sym (take-chal digest key expect report size))
    ∙ agrees.mac ∙ is.of_memory.mac
    ∙ ap (λ (challenge : List ℕ). hmac digest (hmac digest key challenge) (own_bytes bytes))
    (sym chal)

-- two lists of two parts, of which the first ones have one length
parts-same : (first second third fourth : List ℕ) → length first ≡ length third
    → first ++ second ≡ third ++ fourth → (first ≡ third) × (second ≡ fourth)
parts-same first second third fourth size same = (
  sym (take-append_seam first second) ∙ ap (take (length first)) same
      ∙ ap (λ (n : ℕ). take n (third ++ fourth)) size ∙ take-append_seam third fourth,
  sym (drop-append_seam first second) ∙ ap (drop (length first)) same
      ∙ ap (λ (n : ℕ). drop n (third ++ fourth)) size ∙ drop-append_seam third fourth,
)

-- equal bytes are equal in each part
pub expected-where : (digest : List ℕ → List ℕ) (key : List ℕ) (image : ℕ → Option ℕ)
    (expect : Expect) (bytes : ℕ → ℕ) (report : ReportFields)
    → IsAccepted digest key image expect bytes report
    → expected_bytes digest key image expect report ≡ own_bytes bytes
    → StandsAsExpected digest key image expect report bytes
expected-where digest key image expect bytes report is same =
    let agrees = accept-agrees digest key image expect report is.accepted in
    let bounds : Bounds = expect.bounds in
    let here : bounds ≡ bounds_in bytes = agrees.bounds ∙ is.of_memory.bounds in
    let version : expect.version ≡ Two = agrees.version ∙ is.of_memory.version in
    let valid : are_valid bounds ≡ true = rw version at is.valid in
    let metadata : List ℕ = expected_metadata digest key expect report in
    let code : List ℕ = image_code image bounds in
    let own_code : List ℕ = bytes_between bytes bounds.er_min bounds.er_max in
    let own_output : List ℕ = output_bytes bytes bounds in
    let output : report.output ≡ Some own_output =
    rw (← agrees.bounds) at (is.of_memory.output (rw agrees.bounds at valid)) in
    let told : report_output report.output ≡ own_output = ap report_output output in
    let rest : rest_bytes bytes ≡ own_code ++ own_output =
    ap (bounded_bytes bytes) (sym here) ∙ cond-true (are_valid bounds) _ _ valid in
    let count : ℕ = bounds.er_max + 2 - bounds.er_min in
    let code_size : length code ≡ length own_code =
    length-bytes_from (image_byte image) bounds.er_min count
    ∙ sym (length-bytes_from bytes bounds.er_min count) in
    let rest_size : length (expected_rest image expect report.output)
    ≡ length (rest_bytes bytes) =
    length-append code (report_output report.output)
    ∙ omega (arith, code_size, ap length told)
    ∙ sym (length-append own_code own_output) ∙ ap length (sym rest) in
    let size : length metadata ≡ length (metadata_bytes bytes) =
    omega (
      arith,
      length-append metadata (expected_rest image expect report.output),
      length-append (metadata_bytes bytes) (rest_bytes bytes),
      ap length same,
      rest_size,
    ) in
    let parts = parts-same metadata (expected_rest image expect report.output)
    (metadata_bytes bytes) (rest_bytes bytes) size same in
    let codes = parts-same code (report_output report.output) own_code own_output code_size
    (parts.1 ∙ rest) in
    record {
      metadata = sym parts.0;
      flag = agrees.flag;
      code = sym codes.0;
      output = sym output;
    }

-- both are bytes
pub compared-bytes : (digest : List ℕ → List ℕ) (key : List ℕ) (image : ℕ → Option ℕ)
    (expect : Expect) (bytes : ℕ → ℕ) (report : ReportFields)
    → GivesBytes digest → ((place : ℕ) → bytes place < 256)
    → ((place : ℕ) → image_byte image place < 256)
    → IsAccepted digest key image expect bytes report
    → AreBytes (expected_bytes digest key image expect report)
compared-bytes digest key image expect bytes report gives small image_small is =
    let agrees = accept-agrees digest key image expect report is.accepted in
    let chal = chal-here digest key image expect bytes report is in
    let here : expect.bounds ≡ bounds_in bytes = agrees.bounds ∙ is.of_memory.bounds in
    let version : expect.version ≡ Two = agrees.version ∙ is.of_memory.version in
    let valid : are_valid expect.bounds ≡ true = rw version at is.valid in
    let output : report.output ≡ Some (output_bytes bytes expect.bounds) =
    rw (← agrees.bounds) at (is.of_memory.output (rw agrees.bounds at valid)) in
    expected-bytes digest key image expect report gives
    (rw chal (from-bytes bytes _ 32 small)) (rw here (memory-words bytes small)) image_small
    (rw output (from-bytes bytes expect.bounds.or_min _ small))

pub accepted-collides : (digest : List ℕ → List ℕ) (key : List ℕ) (image : ℕ → Option ℕ)
    (expect : Expect) (bytes : ℕ → ℕ) (report : ReportFields)
    → GivesBytes digest → ((place : ℕ) → bytes place < 256)
    → ((place : ℕ) → image_byte image place < 256)
    → IsAccepted digest key image expect bytes report
    → (expected_bytes digest key image expect report ≡ own_bytes bytes → ⊥)
    → Collides digest (colliding_pair digest (expected_key digest key expect)
    (expected_bytes digest key image expect report) (own_bytes bytes))
accepted-collides digest key image expect bytes report gives small image_small is differ =
    one_mac-collides digest (expected_key digest key expect)
    (expected_bytes digest key image expect report) (own_bytes bytes) gives (gives _)
    (compared-bytes digest key image expect bytes report gives small image_small is)
    (own-bytes bytes small) (differ, one_mac digest key image expect bytes report is)

pub expected-or_collides : (digest : List ℕ → List ℕ) (key : List ℕ) (image : ℕ → Option ℕ)
    (expect : Expect) (bytes : ℕ → ℕ) (report : ReportFields)
    → GivesBytes digest → ((place : ℕ) → bytes place < 256)
    → ((place : ℕ) → image_byte image place < 256)
    → IsAccepted digest key image expect bytes report
    → StandsAsExpected digest key image expect report bytes
    ⊎ Collides digest (colliding_pair digest (expected_key digest key expect)
    (expected_bytes digest key image expect report) (own_bytes bytes))
expected-or_collides digest key image expect bytes report gives small image_small is =
    let target : List ℕ = expected_bytes digest key image expect report in
    let own : List ℕ = own_bytes bytes in
    elim (cases_Bool (bytes_eq target own)) [
      | inl same ↦
          inl (expected-where digest key image expect bytes report is
          ((bytes_eq-Decides target own).0 same))
      | inr differ ↦
          inr (accepted-collides digest key image expect bytes report gives small image_small is
          (λ same. false≢true (sym differ ∙ (bytes_eq-Decides target own).1 same)))
    ]
