-- The bytes of a record's digits, of which there are at most 260.
use Rattle.std.{proofs.{Common.{◌≡◌, ◌≢◌, ◌<◌, ◌+◌, ◌*◌, ◌/◌, ◌%◌, ℕ, Bool, true, false, cond, List, length, get_or, min, Result, Ok, Err, refl, sym, ◌∙◌, arith, inl, inr, take, length-take}, Math.Nat.min-eq_left, lemmas.{Bool.{cases_lt, Decides.eqb_tells}, Result.err_from_is_err_and}}, specs.{Prelude.MatchResult, List.list_all, Char.is_ascii_hexdigit}}
use Rattle.hex.{specs.{declared.error.FromHexError.FromHexError, Hex.{decode_sized, IsBytes}}, proofs.HexLemmas.{decode_sized-ok, decode_sized-twice, decode_of-ok}}
use Rattle.text_scan.specs.{declared.fault_kind.FaultKind.{FaultKind, TheVariants.{Digit, Count}}, Hexadecimal.{or_count, hex_bytes_of}}
use Rattle.hex_loader.specs.HexRecord.{record_of_bytes, record_or_fault}
use Rattle.hex_loader.proofs.hex_record.record_of_digits.Goals as goal

-- bytes that are more than any record has
too_many : (result : Result (List ℕ) FromHexError)
    → ((bytes : List ℕ) → result ≡ Ok bytes → (260 < length bytes) × IsBytes bytes)
    → record_or_fault (or_count result) ≡ Err Count
too_many (Ok bytes) gives =
    let long = gives bytes refl in
    elim (eqb_tells (length bytes) (get_or bytes 0 0 + 5)) [
      | inl same ↦ absurd (omega (arith, same.1, long.1 0))
      | inr other ↦ rw other.0 refl
    ]
too_many (Err error) gives = refl

-- too little room
no_room : (digits : List ℕ) (count : ℕ) → length digits ≢ 2 * count
    → or_count (decode_sized digits count) ≡ Err Count
no_room digits count other =
    elim (eqb_tells (length digits % 2) 1) [
      | inl odd ↦ rw odd.0 refl
      | inr even ↦
          elim (eqb_tells (length digits / 2) count) [
            | inl half ↦ absurd (other (omega (arith, even.1, half.1)))
            | inr differs ↦ rw (even.0, differs.0) refl
          ]
    ]

-- a wrong digit comes first
same_fault : (are_digits : Bool) (x y : Result (List ℕ) FaultKind)
    → record_or_fault x ≡ record_or_fault y
    → record_or_fault (cond are_digits x (Err Digit))
    ≡ record_or_fault (cond are_digits y (Err Digit))
same_fault true x y same = same
same_fault false x y same = refl

-- room for 260 bytes is enough
record_or_fault-room : (digits : List ℕ)
    → record_or_fault (hex_bytes_of (min (length digits / 2) 260) digits)
    ≡ record_or_fault (hex_bytes_of (length digits / 2) digits)
record_or_fault-room digits =
    elim (cases_lt 260 (length digits / 2)) [
      | inl over ↦
          let small : min (length digits / 2) 260 ≡ 260 = omega arith in
          let count : ℕ = length digits / 2 in
          let long = too_many (decode_sized digits count) (λ bytes result.
          let twice = decode_sized-ok digits count bytes result in
          let ok = decode_of-ok digits bytes (sym (decode_sized-twice digits count twice)
          ∙ result) in
          (omega (arith, ok.2, over), ok.3)) in
          rw small (same_fault (list_all is_ascii_hexdigit digits)
          (or_count (decode_sized digits 260)) (or_count (decode_sized digits count))
          (rw (no_room digits 260 (λ same. omega arith)) (sym long)))
      | inr fits ↦ rw (min-eq_left fits) refl
    ]

-- where no bytes were read
err_read : (outcome : Result (List ℕ) FaultKind) (kind : FaultKind) (old new : List ℕ)
    (answer : Result Unit FaultKind) → answer ≡ Err kind
    → MatchResult outcome (λ bytes. (answer ≡ Ok tt) × (new ≡ bytes))
    (λ fault. (answer ≡ Err fault) × (new ≡ old))
    → record_or_fault outcome ≡ Err kind
err_read (Ok bytes) kind old new answer is holds = absurd cc
err_read (Err fault) kind old new answer is holds = cc

-- where they were
ok_read : (outcome : Result (List ℕ) FaultKind) (old new : List ℕ)
    (answer : Result Unit FaultKind) → answer ≡ Ok tt
    → MatchResult outcome (λ bytes. (answer ≡ Ok tt) × (new ≡ bytes))
    (λ fault. (answer ≡ Err fault) × (new ≡ old))
    → record_or_fault outcome ≡ record_of_bytes new
ok_read (Ok bytes) old new answer is holds = rw holds.1 refl
ok_read (Err fault) old new answer is holds = absurd cc

pub returns-in_err-hex_bytes : goal.returns-in_err-hex_bytes
returns-in_err-hex_bytes c =
    let p = err_from_is_err_and c.from_residual.result c.from_residual.ensures.1 in
    let room : length (take c.min.result c.args.room.now) ≡ min (length c.args.digits.now / 2) 260 =
    omega (arith, length-take c.min.result c.args.room.now, c.min.ensures, c.told-room) in
    rw (p.1, p.2) (sym (record_or_fault-room c.args.digits.now)
    ∙ err_read (hex_bytes_of (min (length c.args.digits.now / 2) 260) c.args.digits.now)
    c.in_err-hex_bytes.field-0.0 (take c.min.result c.args.room.now) c.hex_bytes.new.out
    c.hex_bytes.result c.in_err-hex_bytes.was
    (rw room at c.hex_bytes.ensures))

pub returns : goal.returns
returns c =
    let room : length (take c.min.result c.args.room.now) ≡ min (length c.args.digits.now / 2) 260 =
    omega (arith, length-take c.min.result c.args.room.now, c.min.ensures, c.told-room) in
    rw (
      ← record_or_fault-room c.args.digits.now,
      ok_read (hex_bytes_of (min (length c.args.digits.now / 2) 260) c.args.digits.now)
          (take c.min.result c.args.room.now) c.hex_bytes.new.out c.hex_bytes.result
          c.in_ok-hex_bytes.was
          (rw room at c.hex_bytes.ensures),
    ) c.record_of_bytes.ensures
