-- Lines of a piece that were answered, one more, and where it stopped.
use Rattle.std.{proofs.{Common.{◌≡◌, ◌≢◌, ◌<◌, ◌∙◌, ◌++◌, ◌+◌, ℕ, zero, suc, List, [], ◌∷◌, Option, Some, None, Ok, Err, length, take, drop, refl, ap, sym, subst, arith, append_assoc, ⊎_elim, ◌≤◌, ◌-◌, true, length-append}, lemmas.{Bool.{cases_Bool, ne_eqb, Decides.nat_tests}, List.{append-nil, get_or-take, length-take, length-take-le}}}, specs.{Prelude.{OnOk, IfErr, Result, nat_eq, slice_index, nat_lt}, Str.Lines.strip_carriage_return}}
use Rattle.source_server.specs.{declared.halt.Halt.Halt, HeldLine.{HoldsRest, ended_line, last_line, short_line, with_piece, LONGEST_LINE, MOST_HELD, IsCutAnywhere, IsHeld, IsPlain}, LineCut.{LineCut, all_lines, cut_of, empty_cut, whole_lines, with_byte, with_all_bytes, with_last}, Lines.{LinePromise, Settles, Tells, HoldsCut, StopsAmong, TellsPiece}}

-- Pieces of lines.

pub cut_anywhere : IsCutAnywhere
cut_anywhere cut [] second = refl
cut_anywhere cut (byte ∷ first) second = cut_anywhere (with_byte cut byte) first second

plain_byte : (cut : LineCut) (byte : ℕ) → byte ≢ 10
    → with_byte cut byte ≡ record cut { rest = cut.rest ++ byte ∷ [] }
plain_byte cut byte other = rw (ne_eqb byte 10 other) refl

pub plain_piece : IsPlain
plain_piece cut [] plain =
    ap (λ (rest : List ℕ). record cut { rest = rest }) (sym (append-nil cut.rest))
plain_piece cut (byte ∷ piece) plain =
    ap (λ (one : LineCut). with_all_bytes one piece) (plain_byte cut byte (plain 0 (omega arith)))
    ∙ plain_piece (record cut { rest = cut.rest ++ byte ∷ [] }) piece
    (λ k h. plain (suc k) (omega arith))
    ∙ ap (λ (rest : List ℕ). record cut { rest = rest }) (append_assoc cut.rest (byte ∷ []) piece)

-- a line without its CR is at most one byte shorter
strip-length : (line : List ℕ) → length line ≤ length (strip_carriage_return line) + 1
strip-length line =
    ⊎_elim
    (λ is. rw is (omega (arith, length-take-le (length line - 1) line (omega arith))))
    (λ other. rw other (omega arith))
    (cases_Bool (nat_eq (slice_index line (length line - 1)) 13))

long_line : (line : List ℕ) → LONGEST_LINE < length line → short_line line ≡ None
long_line line long = grind (arith, nat_tests, long)

less_of : {a b : ℕ} → nat_lt a b ≡ true → a < b
less_of {a} {b} is = grind (arith, nat_tests, is)

holds-piece : (held : Option (List ℕ)) (rest piece : List ℕ) → HoldsRest held rest
    → HoldsRest (with_piece held piece) (rest ++ piece)
holds-piece None rest piece holds = omega (arith, holds, length-append rest piece)
holds-piece (Some bytes) rest piece holds =
    ⊎_elim
    (λ long. rw long (omega (arith, length-append rest piece, ap length holds, less_of long)))
    (λ short. rw short (ap (λ (front : List ℕ). front ++ piece) holds))
    (cases_Bool (nat_lt MOST_HELD (length bytes + length piece)))

pub held_line : IsHeld
held_line None rest holds = (
  sym (long_line (strip_carriage_return rest) (omega (arith, holds, strip-length rest))),
  sym (long_line rest (omega (arith, holds))),
  λ piece. holds-piece None rest piece holds,
)
held_line (Some bytes) rest holds = (
  ap (λ (line : List ℕ). short_line (strip_carriage_return line)) (sym holds),
  ap short_line (sym holds),
  λ piece. holds-piece (Some bytes) rest piece holds,
)

-- lines only become more
byte_lines : (cut : LineCut) (byte : ℕ)
    → (more : List (List ℕ)) × ((with_byte cut byte).lines ≡ more ++ cut.lines)
byte_lines cut byte =
    ⊎_elim
    (λ end. (strip_carriage_return cut.rest ∷ [], rw end refl))
    (λ other. ([], rw other refl))
    (cases_Bool (nat_eq byte 10))

pub more_lines : (cut : LineCut) (bytes : List ℕ)
    → (more : List (List ℕ)) × ((with_all_bytes cut bytes).lines ≡ more ++ cut.lines)
more_lines cut [] = ([], refl)
more_lines cut (byte ∷ bytes) =
    let first = byte_lines cut byte in
    let rest = more_lines (with_byte cut byte) bytes in (
      rest.0 ++ first.0,
      rest.1 ∙ ap (λ (lines : List (List ℕ)). rest.0 ++ lines) first.1
          ∙ sym (append_assoc rest.0 first.0 cut.lines),
    )

-- the whole lines are among all
last_more : (lines : List (List ℕ)) (rest : List ℕ)
    → (more : List (List ℕ)) × (with_last lines rest ≡ more ++ lines)
last_more lines [] = ([], refl)
last_more lines (byte ∷ rest) = ((byte ∷ rest) ∷ [], refl)

-- a line that ends in a piece
pub line_end : (cut : LineCut) (front : List ℕ)
    → ((k : ℕ) → k < length front → slice_index front k ≢ 10)
    → with_all_bytes cut (front ++ 10 ∷ [])
    ≡ record { lines = strip_carriage_return (cut.rest ++ front) ∷ cut.lines; rest = [] }
line_end cut front plain =
    cut_anywhere cut front (10 ∷ [])
    ∙ ap (λ (one : LineCut). with_all_bytes one (10 ∷ [])) (plain_piece cut front plain)

-- bytes at the place of an LF
split_behind : (bytes : List ℕ) (end : ℕ) → end < length bytes → slice_index bytes end ≡ 10
    → bytes ≡ take end bytes ++ 10 ∷ drop (suc end) bytes
split_behind [] end below is = absurd (omega (arith, below))
split_behind (byte ∷ bytes) zero below is = ap (λ (one : ℕ). one ∷ bytes) is
split_behind (byte ∷ bytes) (suc end) below is =
    ap (λ (rest : List ℕ). byte ∷ rest) (split_behind bytes end (omega (arith, below)) is)

pub split_at_end : (bytes : List ℕ) (end : ℕ) → end < length bytes → slice_index bytes end ≡ 10
    → bytes ≡ take end bytes ++ 10 ∷ drop (end + 1) bytes
split_at_end bytes end below is =
    let same : suc end ≡ end + 1 = omega arith in
    split_behind bytes end below is
    ∙ ap (λ (behind : ℕ). take end bytes ++ 10 ∷ drop behind bytes) same

pub plain_front : (bytes : List ℕ) (end : ℕ)
    → ((k : ℕ) → k < end → slice_index bytes k ≢ 10)
    → (k : ℕ) → k < length (take end bytes) → slice_index (take end bytes) k ≢ 10
plain_front bytes end plain k below =
    let within : k < end = omega (arith, below, length-take end bytes) in
    λ same. plain k within (sym (get_or-take end bytes k 0 within) ∙ same)

module _ {X O : Type 0} (promise : LinePromise X O) where
  -- what came of the line that ends behind this front
  line_answered : {held long line : Option (List ℕ)} {old new : X} (cut : LineCut)
      (front : List ℕ) (result : Result Unit (Halt O))
      → HoldsCut promise held old cut
      → long ≡ with_piece held front → line ≡ ended_line long
      → ((earlier : List (List ℕ)) (bytes : List ℕ) → promise.told old earlier
      → line ≡ short_line bytes → Tells promise new (bytes ∷ earlier) result)
      → Tells promise new (strip_carriage_return (cut.rest ++ front) ∷ cut.lines) result
  line_answered {held} {long} {line} {old} {new} cut front result so pushed ended answered =
      let holds : HoldsRest long (cut.rest ++ front) =
      rw pushed ((held_line held cut.rest so.holds).2 front) in
      answered cut.lines (strip_carriage_return (cut.rest ++ front)) so.told
      (ended ∙ (held_line long (cut.rest ++ front) holds).0)

  -- how far a piece is answered
  pub record IsAnsweredTo (piece rest : List ℕ) (held_first held : Option (List ℕ))
      (first now : X) : Type 0 where
    pub done : List ℕ
    pub parts : piece ≡ done ++ rest
    pub tells : (cut : LineCut) → HoldsCut promise held_first first cut
        → HoldsCut promise held now (with_all_bytes cut done)

  pub none_answered : (piece : List ℕ) (held : Option (List ℕ)) (now : X)
      → IsAnsweredTo piece piece held held now now
  none_answered piece held now = record { done = []; parts = refl; tells = λ cut so. so }

  -- one line more
  pub line_more : {piece rest : List ℕ} (front back : List ℕ) {later : List ℕ}
      {held_first held held_new long line : Option (List ℕ)} {first old new : X}
      → IsAnsweredTo piece rest held_first held first old
      → rest ≡ front ++ 10 ∷ back → later ≡ back
      → ((k : ℕ) → k < length front → slice_index front k ≢ 10)
      → long ≡ with_piece held front → line ≡ ended_line long → held_new ≡ Some []
      → ((earlier : List (List ℕ)) (bytes : List ℕ) → promise.told old earlier
      → line ≡ short_line bytes → Tells promise new (bytes ∷ earlier) (Ok tt))
      → IsAnsweredTo piece later held_first held_new first new
  line_more {piece} {rest} front back {later} {held_first} {held} {held_new} {long} {line} {first}
      {old} {new} so is behind plain pushed ended empty answered =
      record {
        done = so.done ++ (front ++ 10 ∷ []);
        parts = so.parts ∙ ap (λ (one : List ℕ). so.done ++ one)
            (is ∙ ap (λ (one : List ℕ). front ++ 10 ∷ one) (sym behind)
            ∙ sym (append_assoc front (10 ∷ []) later))
            ∙ sym (append_assoc so.done (front ++ 10 ∷ []) later);
        tells = λ cut before.
            let mid : LineCut = with_all_bytes cut so.done in
            rw (cut_anywhere cut so.done (front ++ 10 ∷ []), line_end mid front plain, empty)
            (record {
              told = (line_answered mid front (Ok tt)
                  (so.tells cut before) pushed ended answered).goes_on;
              holds = refl;
            });
      }

  -- all lines of a piece were answered, and what follows them is held
  pub piece_told : {piece rest : List ℕ} {held_first held held_new : Option (List ℕ)}
      {first now : X}
      → IsAnsweredTo piece rest held_first held first now
      → ((k : ℕ) → k < length rest → slice_index rest k ≢ 10)
      → held_new ≡ with_piece held rest
      → (cut : LineCut) → HoldsCut promise held_first first cut
      → TellsPiece promise held_new now cut piece (Ok tt)
  piece_told {piece} {rest} {held_first} {held} {held_new} {first} {now} so plain pushed cut
      before =
      let told : HoldsCut promise held now (with_all_bytes cut so.done) = so.tells cut before in
      record {
        goes_on =
            rw (
              so.parts,
              cut_anywhere cut so.done rest,
              plain_piece (with_all_bytes cut so.done) rest plain,
            )
            (record {
              told = told.told;
              holds =
                  rw pushed ((held_line held (with_all_bytes cut so.done).rest told.holds).2 rest);
            });
        stops = tt;
      }

  -- it stopped at a line of a piece, whose further lines are not read
  pub piece_stopped : {piece rest : List ℕ} (front back : List ℕ)
      {held_first held held_new long line : Option (List ℕ)} {first old new : X} (why : Halt O)
      → IsAnsweredTo piece rest held_first held first old
      → rest ≡ front ++ 10 ∷ back
      → ((k : ℕ) → k < length front → slice_index front k ≢ 10)
      → long ≡ with_piece held front → line ≡ ended_line long
      → ((earlier : List (List ℕ)) (bytes : List ℕ) → promise.told old earlier
      → line ≡ short_line bytes → Tells promise new (bytes ∷ earlier) (Err why))
      → (cut : LineCut) → HoldsCut promise held_first first cut
      → TellsPiece promise held_new new cut piece (Err why)
  piece_stopped {piece} {rest} front back {held_first} {held} {held_new} {long} {line} {first} {old}
      {new} why so is plain pushed ended answered cut before =
      let mid : LineCut = with_all_bytes cut so.done in
      let line_is : List ℕ = strip_carriage_return (mid.rest ++ front) in
      let ended_at : LineCut = record { lines = line_is ∷ mid.lines; rest = [] } in
      let all : with_all_bytes cut piece ≡ with_all_bytes ended_at back =
      ap (with_all_bytes cut) (so.parts ∙ ap (λ (one : List ℕ). so.done ++ one)
      (is ∙ sym (append_assoc front (10 ∷ []) back)))
      ∙ cut_anywhere cut so.done ((front ++ 10 ∷ []) ++ back)
      ∙ cut_anywhere mid (front ++ 10 ∷ []) back
      ∙ ap (λ (one : LineCut). with_all_bytes one back) (line_end mid front plain) in
      let behind = more_lines ended_at back in
      let since = more_lines cut so.done in
      let newer : List (List ℕ) = line_is ∷ since.0 in
      let whole : line_is ∷ mid.lines ≡ newer ++ cut.lines =
      ap (λ (lines : List (List ℕ)). line_is ∷ lines) since.1 in
      record {
        goes_on = tt;
        stops = record {
          later = behind.0;
          newer = newer;
          parts = ap (λ (one : LineCut). one.lines) all ∙ behind.1
              ∙ ap (λ (lines : List (List ℕ)). behind.0 ++ lines) whole;
          stopped = subst (λ (lines : List (List ℕ)). promise.stopped new lines why) whole
              (line_answered mid front (Err why)
              (so.tells cut before) pushed ended answered).stops;
        };
      }

  -- lines that came of a piece are among all of its bytes
  pub among_all : (now : X) (why : Halt O) (before piece : List ℕ)
      → StopsAmong (λ lines. promise.stopped now lines why)
      (with_all_bytes (cut_of before) piece).lines (whole_lines before)
      → StopsAmong (λ lines. promise.stopped now lines why) (all_lines (before ++ piece))
      (whole_lines before)
  among_all now why before piece so =
      let cut : LineCut = with_all_bytes (cut_of before) piece in
      let last = last_more cut.lines cut.rest in
      record {
        later = last.0 ++ so.later;
        newer = so.newer;
        parts = ap (λ (one : LineCut). with_last one.lines one.rest)
            (cut_anywhere empty_cut before piece)
            ∙ last.1 ∙ ap (λ (lines : List (List ℕ)). last.0 ++ lines) so.parts
            ∙ sym (append_assoc last.0 so.later (so.newer ++ whole_lines before));
        stopped = so.stopped;
      }

  -- what was held back behind a piece was put
  pub piece_settled : {held : Option (List ℕ)} {mid new : X} (before piece : List ℕ)
      (result : Result Unit (Halt O))
      → HoldsCut promise held mid (with_all_bytes (cut_of before) piece)
      → ((lines : List (List ℕ)) → promise.told mid lines → Settles promise new lines result)
      → OnOk result (HoldsCut promise held new (cut_of (before ++ piece))
      × promise.answered new (whole_lines (before ++ piece)))
      × IfErr result (λ why. StopsAmong (λ lines. promise.stopped new lines why)
      (all_lines (before ++ piece)) (whole_lines before))
  piece_settled {held} {mid} {new} before piece (Ok unit) holds settles =
      let cut : LineCut = with_all_bytes (cut_of before) piece in
      let so = (settles cut.lines holds.told).goes_on in (
        subst (λ (one : LineCut).
            HoldsCut promise held new one × promise.answered new one.lines)
            (sym (cut_anywhere empty_cut before piece))
            (record { told = so.0; holds = holds.holds }, so.1),
        tt,
      )
  piece_settled {held} {mid} {new} before piece (Err why) holds settles =
      let cut : LineCut = with_all_bytes (cut_of before) piece in
      let more = more_lines (cut_of before) piece in (
        tt,
        among_all new why before piece (record {
          later = [];
          newer = more.0;
          parts = more.1;
          stopped = subst (λ (lines : List (List ℕ)). promise.stopped new lines why) more.1
              (settles cut.lines holds.told).stops;
        }),
      )

-- what is held of a rest that is not empty
rest_is_line : (held : Option (List ℕ)) (lines : List (List ℕ)) (rest : List ℕ)
    → HoldsRest held rest → (held ≡ Some [] → ⊥) → with_last lines rest ≡ rest ∷ lines
rest_is_line held lines (byte ∷ rest) holds some = refl
rest_is_line None lines [] holds some = absurd (omega (arith, holds))
rest_is_line (Some bytes) lines [] holds some = absurd (some (ap Some (sym holds)))

module _ {X O : Type 0} (promise : LinePromise X O) where
  last_so : (now : X) (rest : List ℕ) (lines : List (List ℕ)) (why : Halt O)
      → promise.stopped now (rest ∷ lines) why
      → StopsAmong (λ lines. promise.stopped now lines why) (rest ∷ lines) lines
  last_so now rest lines why so =
      record { later = []; newer = rest ∷ []; parts = refl; stopped = so }

  settled_so : (now : X) (rest : List ℕ) (lines : List (List ℕ)) (result : Result Unit (Halt O))
      → Settles promise now (rest ∷ lines) result
      → OnOk result (promise.answered now (rest ∷ lines))
      × IfErr result (λ why. StopsAmong (λ lines. promise.stopped now lines why) (rest ∷ lines)
      lines)
  settled_so now rest lines (Ok unit) so = (so.goes_on.1, tt)
  settled_so now rest lines (Err why) so = (tt, last_so now rest lines why so.stops)

  -- it stopped at the last line
  pub last_stopped : {held line : Option (List ℕ)} {old new : X} (bytes : List ℕ) (why : Halt O)
      → (held ≡ Some [] → ⊥) → HoldsCut promise held old (cut_of bytes)
      → line ≡ last_line held
      → ((earlier : List (List ℕ)) (last : List ℕ) → promise.told old earlier
      → line ≡ short_line last → Tells promise new (last ∷ earlier) (Err why))
      → StopsAmong (λ lines. promise.stopped new lines why) (all_lines (bytes ++ []))
      (whole_lines bytes)
  last_stopped {held} {line} {old} {new} bytes why some holds is tells =
      let cut : LineCut = cut_of bytes in
      rw (append-nil bytes, rest_is_line held cut.lines cut.rest holds.holds some)
      (last_so new cut.rest cut.lines why
      (tells cut.lines cut.rest holds.told (is ∙ (held_line held cut.rest holds.holds).1)).stops)

  -- or it was answered, and what was held back was put
  pub last_settled : {held line : Option (List ℕ)} {old mid new : X} (bytes : List ℕ)
      (result : Result Unit (Halt O))
      → (held ≡ Some [] → ⊥) → HoldsCut promise held old (cut_of bytes)
      → line ≡ last_line held
      → ((earlier : List (List ℕ)) (last : List ℕ) → promise.told old earlier
      → line ≡ short_line last → Tells promise mid (last ∷ earlier) (Ok tt))
      → ((lines : List (List ℕ)) → promise.told mid lines → Settles promise new lines result)
      → OnOk result (promise.answered new (all_lines bytes))
      × IfErr result (λ why. StopsAmong (λ lines. promise.stopped new lines why)
      (all_lines (bytes ++ [])) (whole_lines bytes))
  last_settled {held} {line} {old} {mid} {new} bytes result some holds is tells settles =
      let cut : LineCut = cut_of bytes in
      let short = is ∙ (held_line held cut.rest holds.holds).1 in
      let told : promise.told mid (cut.rest ∷ cut.lines) =
      (tells cut.lines cut.rest holds.told short).goes_on in
      rw (append-nil bytes, rest_is_line held cut.lines cut.rest holds.holds some)
      (settled_so new cut.rest cut.lines result (settles (cut.rest ∷ cut.lines) told))
