-- The text of an image is read as that image.
use Rattle.std.{proofs.{Common.{◌≡◌, ◌∙◌, ◌≤◌, ◌<◌, ◌+◌, ◌-◌, ◌%◌, ◌⊎◌, ℕ, zero, suc, Bool, true, false, cond, List, [], ◌∷◌, ◌++◌, length, reverse, append_assoc, zero-add, Option, Some, None, Ok, refl, sym, ap, arith, inl, inr, codes, ◌*◌, ◌/◌, eqb, length-append, take, drop, sum, Result, Err, get_or}, lemmas.{Bool.{cases_lt, leb-true, eq-eqb}, List.{append-nil, Sums.{sum_by-append, AllPass-from_list_all}}}, Math.Seq.take-append_seam}, specs.{Prelude.{IsSome, ◌&&◌, ◌||◌, nat_le}, Option.option_or, Str.Lines.lines, List.list_all, Char.is_ascii_hexdigit}}
use Rattle.hex.{specs.Hex.{decode_pairs, encode_upper, IsBytes, upper_digits, decode_sized, encode_with}, proofs.HexLemmas.{decode_sized-twice, decode_of-encode_upper, length-encode_with}}
use Rattle.part_definitions.specs.Memory.{is_image_place}
use Rattle.hex_loader.{specs.{HexRecord.{Places, EndOfFile, record_in, Meaning, record_of_bytes, record_of_type, record_or_fault, big_endian}, HexImage.{base_after, has_ended, last_byte_placed, are_image_places, first_fault}, HexText.{is_record_start, record_bytes, data_line, line_at, lines_below, end_line, hex_text, check_of, data_record}, ReadBack.IsReadBack}, proofs.Runs.{run-sound, run-short, run-bytes, run-places, byte_among-some, is_covered}}
use Rattle.mem_map.specs.{Image.byte_among, ImagePlace.IsImage}
use Rattle.text_scan.{specs.{declared.fault_kind.FaultKind.{FaultKind, TheVariants.{Count, Check}}, Hexadecimal.hex_bytes_of}, proofs.{PlainWords.encoded_pass, FirstLine.lines-line}}
use mathlib.Core.List.{reverse_aux}
use Rattle.hex_loader.proofs.law.reads_back.Goals as goal

-- A record that was written is read.

-- Upper-case digits, and a line of them.

-- digits and the colon lie behind CR and LF
abbrev Behind : List ℕ → Type 0
Behind line = (k : ℕ) → k < length line → 48 ≤ get_or line k 0

behind-cons : (first : ℕ) (rest : List ℕ) → 48 ≤ first → Behind rest → Behind (first ∷ rest)
behind-cons first rest here there zero within = here
behind-cons first rest here there (suc k) within = there k (omega (arith, within))

behind-encoded : (bytes : List ℕ) → IsBytes bytes → Behind (encode_with upper_digits bytes)
behind-encoded bytes fits =
    λ k within. leb-true 48 (get_or (encode_with upper_digits bytes) k 0)
    (AllPass-from_list_all (nat_le 48) (encode_with upper_digits bytes)
    (encoded_pass upper_digits (nat_le 48) refl refl bytes fits) k 0 within)

behind-line : (digits : List ℕ) → Behind digits → Behind (58 ∷ digits)
behind-line digits rest = behind-cons 58 digits (omega arith) rest

hexdigits-encoded : (bytes : List ℕ) → IsBytes bytes
    → list_all is_ascii_hexdigit (encode_with upper_digits bytes) ≡ true
hexdigits-encoded bytes fits = encoded_pass upper_digits is_ascii_hexdigit refl refl bytes fits

-- such a line, ended by LF, is the first line of a text
lines-behind : (line rest : List ℕ) → 0 < length line → Behind line
    → lines (line ++ (10 ∷ rest)) ≡ line ∷ lines rest
lines-behind line rest some behind = lines-line line rest some
    (λ k within. omega (arith, behind k within))

-- the line of a record, without its end
abbrev record_line : List ℕ → List ℕ
record_line bytes = 58 ∷ encode_upper bytes

record_in-line : (bytes : List ℕ) → IsBytes bytes
    → record_in (record_line bytes) ≡ record_of_bytes bytes
record_in-line bytes fits =
    let digits : List ℕ = encode_upper bytes in
    let twice : length digits ≡ 2 * length bytes = length-encode_with upper_digits bytes in
    let half : length digits / 2 ≡ length bytes = omega arith in
    let decodes : decode_sized digits (length bytes) ≡ Ok bytes =
    decode_sized-twice digits (length bytes) twice ∙ decode_of-encode_upper bytes fits in
    ap (λ (n : ℕ). record_or_fault (hex_bytes_of n digits)) half
    ∙ rw (hexdigits-encoded bytes fits, decodes) refl

-- the bytes of a record that is written
abbrev written_bytes : ℕ → List ℕ → List ℕ
written_bytes address bytes = data_record address bytes ++ check_of (data_record address bytes) ∷ []

sums_to_0 : (bytes : List ℕ) → sum (bytes ++ check_of bytes ∷ []) % 256 ≡ 0
sums_to_0 bytes = omega (arith, sum_by-append (λ (x : ℕ). x) bytes (check_of bytes ∷ []))

passes : (counts sums : Bool) (answer : Result Meaning FaultKind) → counts ≡ true → sums ≡ true
    → cond counts (cond sums answer (Err Check)) (Err Count) ≡ answer
passes counts sums answer x y = rw (x, y) refl

record_of_bytes-written : (address : ℕ) (bytes : List ℕ)
    → record_of_bytes (written_bytes address bytes) ≡ Ok (Places address bytes)
record_of_bytes-written address bytes =
    let check : ℕ = check_of (data_record address bytes) in
    let all : List ℕ = written_bytes address bytes in
    let counts = eq-eqb (length all) (length bytes + 5)
    (omega (arith, length-append bytes (check ∷ []))) in
    let sums = eq-eqb (sum all % 256) 0 (sums_to_0 (data_record address bytes)) in
    let place : big_endian (drop 1 all) ≡ address = omega arith in
    let data_bytes : take (length bytes) (drop 4 all)
    ≡ bytes = take-append_seam bytes (check ∷ []) in
    passes (eqb (length all) (length bytes + 5)) (eqb (sum all % 256) 0)
    (record_of_type 0 (big_endian (drop 1 all)) (take (length bytes) (drop 4 all))) counts sums
    ∙ ap (λ (n : ℕ). Ok (Places n (take (length bytes) (drop 4 all)))) place
    ∙ ap (λ (items : List ℕ). Ok (Places address items)) data_bytes

IsBytes-cons : (byte : ℕ) (bytes : List ℕ) → byte < 256 → IsBytes bytes → IsBytes (byte ∷ bytes)
IsBytes-cons byte bytes small fits zero = small
IsBytes-cons byte bytes small fits (suc i) = fits i

IsBytes-end : (bytes : List ℕ) (last : ℕ) → last < 256 → IsBytes bytes
    → IsBytes (bytes ++ last ∷ [])
IsBytes-end [] last small fits = IsBytes-cons last [] small (λ i. omega arith)
IsBytes-end (byte ∷ bytes) last small fits =
    IsBytes-cons byte (bytes ++ last ∷ []) (fits 0) (IsBytes-end bytes last small
    (λ i. fits (suc i)))

IsBytes-written : (address : ℕ) (bytes : List ℕ) → address < 65536 → length bytes < 256
    → IsBytes bytes → IsBytes (written_bytes address bytes)
IsBytes-written address bytes small short fits =
    let high : address / 256 < 256 = omega arith in
    let low : address % 256 < 256 = omega arith in
    let zero_fits : 0 < 256 = omega arith in
    let check : check_of (data_record address bytes) < 256 = omega arith in
    IsBytes-end (data_record address bytes) (check_of (data_record address bytes)) check
    (IsBytes-cons (length bytes) (address / 256 ∷ address % 256 ∷ 0 ∷ bytes) short
    (IsBytes-cons (address / 256) (address % 256 ∷ 0 ∷ bytes) high
    (IsBytes-cons (address % 256) (0 ∷ bytes) low (IsBytes-cons 0 bytes zero_fits fits))))

-- the line of the record that begins at a place, without its end
abbrev line_text : (ℕ → Option ℕ) → ℕ → List ℕ
line_text image place = record_line (written_bytes place (record_bytes image place))

-- the lines of the records that begin below a place, newest first
record_lines : (ℕ → Option ℕ) → ℕ → List (List ℕ)
record_lines image zero = []
record_lines image (suc place) = cond (is_record_start image place)
    (line_text image place ∷ record_lines image place) (record_lines image place)

fits_bytes : (image : ℕ → Option ℕ) → IsImage image → (place : ℕ) → place < 65536
    → IsBytes (written_bytes place (record_bytes image place))
fits_bytes image is place below =
    let short = run-short image place (16 - place % 16) in
    IsBytes-written place (record_bytes image place) below (omega (arith, short))
    (run-bytes image is place (16 - place % 16))

-- what the line says
line_says : (image : ℕ → Option ℕ) → IsImage image → (place : ℕ) → place < 65536
    → record_in (line_text image place) ≡ Ok (Places place (record_bytes image place))
line_says image is place below =
    record_in-line (written_bytes place (record_bytes image place))
    (fits_bytes image is place below)
    ∙ record_of_bytes-written place (record_bytes image place)

-- the lines of the text
lines-line_at : (image : ℕ → Option ℕ) → IsImage image → (place : ℕ) → place < 65536
    → (begins : Bool) (rest : List ℕ) (before : List (List ℕ))
    → reverse_aux before
    (lines (cond begins (data_line place (record_bytes image place)) [] ++ rest))
    ≡ reverse_aux (cond begins (line_text image place ∷ before) before) (lines rest)
lines-line_at image is place below false rest before = refl
lines-line_at image is place below true rest before =
    let digits : List ℕ = encode_upper (written_bytes place (record_bytes image place)) in
    let behind = behind-line digits (behind-encoded (written_bytes place
    (record_bytes image place)) (fits_bytes image is place below)) in
    let groups : data_line place (record_bytes image place) ++ rest
    ≡ line_text image place ++ (10 ∷ rest) =
    append_assoc (line_text image place) (10 ∷ []) rest in
    ap (λ (text : List ℕ). reverse_aux before (lines text)) groups
    ∙ ap (reverse_aux before) (lines-behind (line_text image place) rest (omega arith) behind)

lines-lines_below : (image : ℕ → Option ℕ) → IsImage image → (place : ℕ) → place ≤ 65536
    → (rest : List ℕ)
    → lines (lines_below image place ++ rest) ≡ reverse_aux (record_lines image place) (lines rest)
unfolding lines_below record_lines
lines-lines_below image is zero within rest = refl
lines-lines_below image is (suc place) within rest =
    ap lines (append_assoc (lines_below image place) (line_at image place) rest)
    ∙ lines-lines_below image is place (omega (arith, within)) (line_at image place ++ rest)
    ∙ lines-line_at image is place (omega (arith, within)) (is_record_start image place) rest
    (record_lines image place)

reverse_aux-twice : (xs ys zs : List (List ℕ))
    → reverse_aux (reverse_aux xs ys) zs ≡ reverse_aux ys (xs ++ zs)
reverse_aux-twice [] ys zs = refl
reverse_aux-twice (x ∷ xs) ys zs = reverse_aux-twice xs (x ∷ ys) zs

-- lines of records at base 0, without a fault and without an end, whose bytes are the image's
record IsPlain (image : ℕ → Option ℕ) (lines : List (List ℕ)) : Type 0 where
  base : base_after lines ≡ 0
  unended : has_ended lines ≡ false
  sound : first_fault lines ≡ None
  bytes : (place byte : ℕ) → last_byte_placed lines place ≡ Some byte → image place ≡ Some byte

either_some : (one two : Option ℕ) (byte : ℕ) → option_or one two ≡ Some byte
    → (one ≡ Some byte) ⊎ (two ≡ Some byte)
either_some None two byte h = inr h
either_some (Some here) two byte h = inl h

plain-cons : (image : ℕ → Option ℕ) (first : ℕ) (rest : List ℕ) (place : ℕ) (bytes : List ℕ)
    (before : List (List ℕ))
    → record_in (first ∷ rest) ≡ Ok (Places place bytes) → are_image_places place bytes ≡ true
    → ((other byte : ℕ) → byte_among place bytes other ≡ Some byte → image other ≡ Some byte)
    → IsPlain image before → IsPlain image ((first ∷ rest) ∷ before)
plain-cons image first rest place bytes before says places has plain = record {
  base = rw (says, plain.base) refl;
  unended = rw (says, plain.unended) refl;
  sound = rw (plain.sound, plain.unended, says, plain.base, zero-add, places) refl;
  bytes = λ other byte finds.
      elim (either_some (byte_among place bytes other) (last_byte_placed before other) byte
      (rw (says, plain.base, zero-add) at finds)) [
        | inl here ↦ has other byte here
        | inr there ↦ plain.bytes other byte there
      ];
}

plain-line : (image : ℕ → Option ℕ) → IsImage image → (place : ℕ) → place < 65536
    → (begins : Bool) (before : List (List ℕ))
    → IsPlain image before → IsPlain image (cond begins (line_text image place ∷ before) before)
plain-line image is place below false before plain = plain
plain-line image is place below true before plain =
    plain-cons image 58 (encode_upper (written_bytes place (record_bytes image place))) place
    (record_bytes image place) before
    (line_says image is place below) (run-places image is place (16 - place % 16))
    (run-sound image place (16 - place % 16)) plain

plain-written : (image : ℕ → Option ℕ) → IsImage image → (place : ℕ) → place ≤ 65536
    → IsPlain image (record_lines image place)
unfolding record_lines
plain-written image is zero within = record {
  base = refl;
  unended = refl;
  sound = refl;
  bytes = λ place byte finds. absurd cc;
}
plain-written image is (suc place) within =
    plain-line image is place (omega (arith, within)) (is_record_start image place)
    (record_lines image place)
    (plain-written image is place (omega (arith, within)))

some_first : (one two : Option ℕ) → IsSome one → IsSome (option_or one two)
some_first None two h = absurd cc
some_first (Some byte) two h = refl

some_second : (one two : Option ℕ) → IsSome two → IsSome (option_or one two)
some_second None two h = h
some_second (Some byte) two h = refl

-- every place that a record covers has a byte
covers-line : (image : ℕ → Option ℕ) → IsImage image → (place : ℕ) → place < 65536
    → (before : List (List ℕ)) → IsPlain image before
    → (other : ℕ) → place ≤ other → other < place + length (record_bytes image place)
    → IsSome (last_byte_placed (line_text image place ∷ before) other)
covers-line image is place below before plain other from to =
    let bytes : List ℕ = record_bytes image place in
    rw (line_says image is place below, plain.base, zero-add)
    (some_first (byte_among place bytes other) (last_byte_placed before other)
    (byte_among-some place bytes other from to))

covers : (image : ℕ → Option ℕ) → IsImage image → (count : ℕ) → count ≤ 65536 → (first other : ℕ)
    → first < count → is_record_start image first ≡ true
    → first ≤ other → other < first + length (record_bytes image first)
    → IsSome (last_byte_placed (record_lines image count) other)
unfolding record_lines
covers image is zero within first other below begins from to = absurd (omega (arith, below))
covers image is (suc count) within first other below begins from to =
    let before : List (List ℕ) = record_lines image count in
    elim (cases_lt first count) [
      | inl earlier ↦
          let has = covers image is count (omega (arith, within)) first other earlier begins from
          to in
          elim (is_record_start image count) as (λ b. IsSome
          (last_byte_placed (cond b (line_text image count ∷ before) before) other)) [
            | true ↦ some_second _ (last_byte_placed before other) has
            | false ↦ has
          ]
      | inr last ↦
          let same : first ≡ count = omega (arith, below, last) in
          let here : is_record_start image count ≡ true = rw (← same) begins in
          let plain = plain-written image is count (omega (arith, within)) in
          rw here (covers-line image is count (omega (arith, within)) before plain other
          (omega (arith, same, from)) (rw (← same) to))
    ]

end_says : record_in (codes ":00000001FF") ≡ Ok EndOfFile
unfolding decode_pairs
end_says = refl

end-text : (image : ℕ → Option ℕ) → IsImage image
    → reverse (lines (hex_text image)) ≡ codes ":00000001FF" ∷ record_lines image 65536
end-text image is =
    ap reverse (lines-lines_below image is 65536 (omega arith) end_line)
    ∙ reverse_aux-twice (record_lines image 65536) (codes ":00000001FF" ∷ []) []
    ∙ ap (λ (before : List (List ℕ)). codes ":00000001FF" ∷ before)
    (append-nil (record_lines image 65536))

same_byte : (has : Option ℕ) (read : Option ℕ) → ((byte : ℕ) → read ≡ Some byte → has ≡ Some byte)
    → ((byte : ℕ) → has ≡ Some byte → IsSome read) → read ≡ has
same_byte None None sound whole = refl
same_byte None (Some byte) sound whole = sym (sound byte refl)
same_byte (Some byte) None sound whole = absurd (cc (whole byte refl))
same_byte (Some byte) (Some other) sound whole = sym (sound other refl)

in_either : (a b c d : Bool) → ((a && b) || (c && d)) ≡ true → (b ≡ true) ⊎ (d ≡ true)
in_either a true c d h = inl refl
in_either a false c true h = inr refl
in_either true false true false h = absurd cc
in_either true false false false h = absurd cc
in_either false false true false h = absurd cc
in_either false false false false h = absurd cc

place_small : (place : ℕ) → is_image_place place ≡ true → place < 65536
place_small place has =
    elim (in_either (nat_le 0x0200 place) (nat_le place 0x21FF) (nat_le 0xC000 place)
    (nat_le place 0xFFFF) has) [
      | inl ram ↦ omega (arith, leb-true place 0x21FF ram)
      | inr program ↦ omega (arith, leb-true place 0xFFFF program)
    ]

read_back : IsReadBack
read_back image is =
    let plain = plain-written image is 65536 (omega arith) in
    let all = end-text image is in (
      rw (all, plain.sound, plain.unended, end_says) refl,
      λ place. rw (all, end_says)
          (same_byte (image place) (last_byte_placed (record_lines image 65536) place)
          (plain.bytes place)
          (λ byte has.
          let cover = is_covered image place byte has in
          let small = place_small place (is place byte has).0 in
          covers image is 65536 (omega arith) cover.first place
          (omega (arith, cover.from, small)) cover.begun cover.from cover.to)),
    )

pub returns : goal.returns
returns c = read_back
