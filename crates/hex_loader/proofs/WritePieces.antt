-- Texts that are written piece by piece.
use Rattle.std.proofs.{Common.{◌≡◌, ◌∙◌, ◌≤◌, ◌<◌, ◌+◌, ◌-◌, ◌/◌, ◌%◌, ℕ, zero, suc, List, [], ◌∷◌, ◌++◌, length, drop, get_or, drop-cons, add-one, append_assoc, Option, Some, None, refl, sym, ap, arith, inl, inr}, lemmas.{List.append-nil, Bool.cases_lt}, Math.ListN.drop_of_length-le}
use Rattle.outside_edge.{specs.Sink.{Takes, TakesPrefix}, proofs.SinkLemmas.{prefix_after, prefix_of_more}}
use Rattle.hex.specs.Hex.{encode_with}
use Rattle.hex_loader.specs.HexText.{byte_run, lines_below, line_at, end_line, hex_text}

-- the digits of one byte more
pub encode_with-more : (digits line bytes whole : List ℕ) (i : ℕ) → i < length bytes
    → line ++ encode_with digits (drop i bytes) ≡ whole
    → (line ++ get_or digits (get_or bytes i 0 / 16) 0 ∷ []) ++ get_or digits
    (get_or bytes i 0 % 16) 0 ∷ [] ++ encode_with digits (drop (i + 1) bytes) ≡ whole
unfolding encode_with
encode_with-more digits line bytes whole i within before =
    let next : drop (i + 1) bytes ≡ drop (suc i) bytes = ap (λ (k : ℕ). drop k bytes) (add-one i) in
    let opens = rw (drop-cons bytes i 0 within) at before in
    rw next (simp append_assoc opens)

-- and at the last byte
pub encode_with-end : (digits line bytes whole : List ℕ) (i : ℕ) → length bytes ≤ i
    → line ++ encode_with digits (drop i bytes) ≡ whole → line ≡ whole
unfolding encode_with
encode_with-end digits line bytes whole i all before =
    let none : drop i bytes ≡ [] = drop_of_length-le bytes all in
    sym (append-nil line) ∙ rw none at before

-- a run with one byte more
pub run-more : (image : ℕ → Option ℕ) (earlier whole : List ℕ) (place offset most byte : ℕ)
    → offset < most
    → image (place + offset) ≡ Some byte
    → earlier ++ byte_run image (place + offset) (most - offset) ≡ whole
    → (earlier ++ byte ∷ []) ++ byte_run image (place + (offset + 1)) (most - (offset + 1)) ≡ whole
run-more image earlier whole place offset most byte within here before =
    let more : most - offset ≡ suc (most - (offset + 1)) = omega arith in
    let next : place + offset + 1 ≡ place + (offset + 1) = omega arith in
    let opens = rw (more, here, next) at before in
    rw append_assoc opens

-- a run ends where there is no byte
pub run-end : (image : ℕ → Option ℕ) (earlier whole : List ℕ) (place offset most : ℕ)
    → offset < most
    → image (place + offset) ≡ None
    → earlier ++ byte_run image (place + offset) (most - offset) ≡ whole → earlier ≡ whole
run-end image earlier whole place offset most within none before =
    let more : most - offset ≡ suc (most - (offset + 1)) = omega arith in
    sym (append-nil earlier) ∙ rw (more, none) at before

-- the lines below the next place
pub lines_below-next : (image : ℕ → Option ℕ) (place : ℕ)
    → lines_below image (place + 1) ≡ lines_below image place ++ line_at image place
unfolding lines_below
lines_below-next image place = rw add-one refl

-- the lines below a place begin those below a later one
pub lines_below-prefix : (image : ℕ → Option ℕ) (first last : ℕ) → first ≤ last
    → (rest : List ℕ) × (lines_below image last ≡ lines_below image first ++ rest)
unfolding lines_below
lines_below-prefix image first zero order =
    let none : first ≡ 0 = omega arith in
    ([], rw none refl)
lines_below-prefix image first (suc last) order =
    elim (cases_lt last first) [
      | inl same ↦
          let is : first ≡ suc last = omega arith in
          ([], rw is (sym (append-nil (lines_below image (suc last)))))
      | inr below ↦
          let before = lines_below-prefix image first last below in (
            before.0 ++ line_at image last,
            rw before.1 (append_assoc (lines_below image first)
                before.0 (line_at image last)),
          )
    ]

-- a prefix of a line is a prefix of the text, where the lines before it were taken
pub prefix_in_text : {S : Type 0} (stands : S → List ℕ → Type 0) (image : ℕ → Option ℕ)
    (old mid new : S) (place : ℕ) → place < 65536
    → Takes stands old mid (lines_below image place)
    → TakesPrefix stands mid new (line_at image place)
    → TakesPrefix stands old new (hex_text image)
prefix_in_text stands image old mid new place within before prefix =
    let rest = lines_below-prefix image (place + 1) 65536 (omega arith) in
    let here = prefix_after stands old mid new (lines_below image place) (line_at image place)
    before prefix in
    let all = prefix_of_more stands old new (lines_below image place ++ line_at image place)
    (rest.0 ++ end_line) here in
    rw (rest.1, append_assoc, lines_below-next) all
