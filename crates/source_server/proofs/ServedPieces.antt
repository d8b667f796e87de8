-- What is served of a source, piece after piece.
use Rattle.std.{proofs.{Common.{◌≡◌, ◌≤◌, ◌<◌, ◌+◌, ◌-◌, ◌∙◌, ◌++◌, ℕ, List, [], ◌∷◌, Option, Some, None, Ok, Err, length, drop, map, take, refl, ap, sym, subst, arith, append_assoc, length-append, inl, inr}, lemmas.List.{append-nil, length-take-le, Elements.{All-cons, All-nil}}}, specs.Prelude.{IfSome, Result, option_map}}
use Rattle.outside_edge.{specs.{Calls.Rose, Source.IsAsked, declared.source.Source.Ghosts as SourceGhosts}, proofs.Counts.rose_since}
use Rattle.source_server.specs.{declared.{halt.Halt.Halt, served.Served.Served}, Responder.{Answers, Ends, Moment, Promise}, Serving.{EndsSo, Serves, StopsSo, served_after, served_of}, Taken.{Gave, HasGiven, IsAtEnd, IsLeft, joined_pieces, most_input}}
use Rattle.source_server.specs.declared.halt.Halt.TheVariants as halt
use Rattle.source_server.specs.declared.served.Served.TheVariants as served

-- one take after another, of the bytes that are told
left_both : (left : Option (List ℕ)) (one two : List ℕ)
    → option_map (λ (rest : List ℕ). one ++ rest) (option_map (λ (rest : List ℕ). two ++ rest) left)
    ≡ option_map (λ (rest : List ℕ). (one ++ two) ++ rest) left
left_both None one two = refl
left_both (Some left) one two = ap Some (sym (append_assoc one two left))

left_same : (left : Option (List ℕ)) → left ≡ option_map (λ (rest : List ℕ). [] ++ rest) left
left_same None = refl
left_same (Some left) = refl

module _ {R : Type 0} (r : SourceGhosts R) where
  pub gave_both : (first mid last : R) (one two : List ℕ)
      → Gave r first mid one → Gave r mid last two → Gave r first last (one ++ two)
  gave_both first mid last one two before next =
      record {
        told = before.told
            ∙ ap (option_map (λ (rest : List ℕ). one ++ rest)) next.told
            ∙ left_both (r.left last) one two;
        count = omega (arith, before.count, next.count, length-append one two);
      }

  pub gave_none : (now : R) → Gave r now now []
  gave_none now = record { told = left_same (r.left now); count = omega arith }

  pub given_none : (now : R) → HasGiven r now now []
  given_none now =
      record {
        gave = gave_none now;
        whole = All-nil (λ piece. 0 < length piece);
        few = omega arith;
      }

  -- a take that gave nothing
  gave_still : (first mid last : R) (bytes : List ℕ)
      → Gave r first mid bytes → Gave r mid last [] → Gave r first last bytes
  gave_still first mid last bytes before next =
      rw append-nil at (gave_both first mid last bytes [] before next)

module _ {R X O : Type 0} (r : SourceGhosts R) (promise : Promise X O) (old new : R) (now : X)
    (pieces : List (List ℕ)) where
  -- where the responder stopped
  stops_so : (why : Halt O) → StopsSo r promise old new now pieces why
      → EndsSo r promise old new now pieces (served_of why)
  stops_so halt.Write so = so
  stops_so (halt.Own own) so = so

  ends_so : (result : Result Unit (Halt O)) → IsAtEnd r old new pieces
      → Ends promise now (joined_pieces pieces) result
      → EndsSo r promise old new now pieces (served_after result)
  ends_so (Ok unit) at came = (at, came.all)
  ends_so (Err why) at came = stops_so why (inr (at, came.stops))

module _ {R T E Start O : Type 0} (r : SourceGhosts R)
    (promise : Start → Promise (Moment T E) O) (since : Moment T E → Moment T E → Type 0) where
  -- these pieces were taken so far, and answered
  pub record IsServedTo (first : Moment T E) (source : R) (now : Moment T E) (source_now : R)
      (room : ℕ) : Type 0 where
    pub pieces : List (List ℕ)
    pub given : HasGiven r source source_now pieces
    pub count : length (joined_pieces pieces) + room ≡ most_input
    pub asked : IsLeft r source source_now pieces
    pub answered : (start : Start) → (promise start).answered first []
        → (promise start).answered now (joined_pieces pieces)
    pub grows : (one : Moment T E) → since one first → since one now
    pub rises : r.faults source ≤ r.faults source_now

  pub none_taken : (first : Moment T E) (source : R)
      → IsServedTo first source first source most_input
  none_taken first source =
      record {
        pieces = [];
        given = given_none r source;
        count = refl;
        asked = λ before holds. holds;
        answered = λ start so. so;
        grows = λ one so. so;
        rises = omega arith;
      }

  module _ {first : Moment T E} {source : R} {now : Moment T E} {source_now : R} {room : ℕ}
      (so : IsServedTo first source now source_now room) (source_new : R) where
    -- a call that gave nothing
    none_more : Gave r source_now source_new [] → HasGiven r source source_new so.pieces
    none_more gave =
        record {
          gave = gave_still r source source_now source_new
              (joined_pieces so.pieces) so.given.gave gave;
          whole = so.given.whole;
          few = so.given.few;
        }

    asked_more : IsAsked r.asked source_now source_new 0 → (before : List ℕ)
        → r.asked source before
        → r.asked source_new (0 ∷ (map length so.pieces ++ before))
    asked_more asked before holds = asked (map length so.pieces ++ before) (so.asked before holds)

    pub end_served : {n : ℕ} (piece : List ℕ) (new : Moment T E) (result : Result Unit (Halt O))
        → 0 < room → n ≡ 0
        → Gave r source_now source_new (take n piece)
        → (n ≡ 0 → IfSome (r.left source_new) (λ left. left ≡ []))
        → IsAsked r.asked source_now source_new n
        → ((start : Start) (bytes : List ℕ) → (promise start).answered now bytes
        → Ends (promise start) new bytes result)
        → (start : Start) → (promise start).answered first []
        → Serves r (promise start) source source_new new (served_after result)
    end_served {n} piece new result some none gave ends asked came start begins =
        let Nothing : ℕ → Type 0 = λ count. Gave r source_now source_new (take count piece) in
        record {
          pieces = so.pieces;
          given = none_more (subst Nothing none gave);
          ends = ends_so r (promise start) source source_new new so.pieces result (
            (
              asked_more (subst (IsAsked r.asked source_now source_new) none asked),
              omega (arith, so.count, some),
            ),
            ends none,
          )
              (came start (joined_pieces so.pieces) (so.answered start begins));
        }

    pub fault_served : 0 < room → Gave r source_now source_new []
        → IsAsked r.asked source_now source_new 0
        → Rose (r.faults source_now) (r.faults source_new)
        → (start : Start) → (promise start).answered first []
        → Serves r (promise start) source source_new now served.ReadFault
    fault_served some gave asked rose start begins =
        record {
          pieces = so.pieces;
          given = none_more gave;
          ends = (
            (
              (asked_more asked, omega (arith, so.count, some)),
              rose_since (r.faults source) (r.faults source_now) (r.faults source_new) so.rises
                  rose,
            ),
            so.answered start begins,
          );
        }

    -- a piece was taken
    asked_piece : {n : ℕ} (piece : List ℕ) → n ≤ length piece
        → IsAsked r.asked source_now source_new n
        → IsLeft r source source_new (take n piece ∷ so.pieces)
    asked_piece {n} piece within asked before holds =
        rw (length-take-le n piece within)
        (asked (map length so.pieces ++ before) (so.asked before holds))

    piece_given : {n : ℕ} (piece : List ℕ) → n ≤ length piece → 0 < n → n ≤ room
        → Gave r source_now source_new (take n piece)
        → HasGiven r source source_new (take n piece ∷ so.pieces)
    piece_given {n} piece within some few gave =
        let count : length (take n piece) ≡ n = length-take-le n piece within in
        record {
          gave = gave_both r source source_now source_new (joined_pieces so.pieces) (take n piece)
              so.given.gave gave;
          whole = All-cons (λ piece. 0 < length piece) (take n piece) so.pieces
              (omega (arith, count, some)) so.given.whole;
          few = omega (
            arith,
            so.count,
            few,
            length-append (joined_pieces so.pieces) (take n piece),
            count,
          );
        }

    pub piece_served : {room_new n : ℕ} (piece : List ℕ) (new : Moment T E)
        → n ≤ length piece → 0 < n → room_new + n ≡ room
        → Gave r source_now source_new (take n piece)
        → IsAsked r.asked source_now source_new n
        → r.faults source_now ≤ r.faults source_new
        → ((start : Start) (before : List ℕ) → (promise start).answered now before
        → Answers (promise start) new before (take n piece) (Ok tt))
        → ((one : Moment T E) → since one now → since one new)
        → IsServedTo first source new source_new room_new
    piece_served {room_new} {n} piece new within some less gave asked rises came grows =
        record {
          pieces = take n piece ∷ so.pieces;
          given = piece_given piece within some (omega (arith, less)) gave;
          count = omega (
            arith,
            so.count,
            less,
            length-append (joined_pieces so.pieces) (take n piece),
            length-take-le n piece within,
          );
          asked = asked_piece piece within asked;
          answered = λ start begins.
              (came start (joined_pieces so.pieces) (so.answered start begins)).goes_on;
          grows = λ one before. grows one (so.grows one before);
          rises = omega (arith, so.rises, rises);
        }

    -- and the responder stopped within it
    pub piece_stopped : {n : ℕ} (piece : List ℕ) (new : Moment T E) (why : Halt O)
        → n ≤ length piece → 0 < n → n ≤ room
        → Gave r source_now source_new (take n piece)
        → IsAsked r.asked source_now source_new n
        → ((start : Start) (before : List ℕ) → (promise start).answered now before
        → Answers (promise start) new before (take n piece) (Err why))
        → (start : Start) → (promise start).answered first []
        → Serves r (promise start) source source_new new (served_of why)
    piece_stopped {n} piece new why within some few gave asked came start begins =
        record {
          pieces = take n piece ∷ so.pieces;
          given = piece_given piece within some few gave;
          ends = stops_so r (promise start) source source_new new (take n piece ∷ so.pieces) why
              (inl (
                asked_piece piece within asked,
                (came start (joined_pieces so.pieces) (so.answered start begins)).stops,
              ));
        }

  -- as many bytes were taken as are taken at most
  pub spent_served : {first : Moment T E} {source : R} {now : Moment T E} {source_now : R}
      {room : ℕ}
      → (so : IsServedTo first source now source_now room) → room ≡ 0
      → (start : Start) → (promise start).answered first []
      → Serves r (promise start) source source_now now served.Spent
  spent_served so none start begins =
      record {
        pieces = so.pieces;
        given = so.given;
        ends = (so.asked, omega (arith, so.count, none), so.answered start begins);
      }

-- what is promised of one moment holds of another, where that promises it too
module _ {R X Y O : Type 0} (r : SourceGhosts R) (promise : Promise X O) (other : Promise Y O)
    (old new : R) (x : X) (y : Y)
    (answered : (bytes : List ℕ) → promise.answered x bytes → other.answered y bytes)
    (ended : (bytes : List ℕ) → promise.ended x bytes → other.ended y bytes)
    (stopped : (before last : List ℕ) (why : Halt O) → promise.stopped x before last why
    → other.stopped y before last why) where
  stops_as : (pieces : List (List ℕ)) (why : Halt O)
      → StopsSo r promise old new x pieces why → StopsSo r other old new y pieces why
  stops_as pieces why (inl so) = inl
      (so.0, stopped (joined_pieces (drop 1 pieces)) (joined_pieces (take 1 pieces)) why so.1)
  stops_as pieces why (inr so) = inr (so.0, stopped (joined_pieces pieces) [] why so.1)

  ends_as : (pieces : List (List ℕ)) (served : Served O)
      → EndsSo r promise old new x pieces served → EndsSo r other old new y pieces served
  ends_as pieces served.Done so = (so.0, ended (joined_pieces pieces) so.1)
  ends_as pieces served.Spent so = (so.0, so.1, answered (joined_pieces pieces) so.2)
  ends_as pieces served.ReadFault so = (so.0, answered (joined_pieces pieces) so.1)
  ends_as pieces served.WriteFault so = stops_as pieces halt.Write so
  ends_as pieces (served.Own own) so = stops_as pieces (halt.Own own) so

  pub serves_as : (served : Served O) → Serves r promise old new x served
      → Serves r other old new y served
  serves_as served so =
      record { pieces = so.pieces; given = so.given; ends = ends_as so.pieces served so.ends }

-- a responder that stopped before the first byte
pub none_served : {R X O : Type 0} (r : SourceGhosts R) (promise : Promise X O) (source : R)
    (now : X) (why : Halt O)
    → promise.stopped now [] [] why → Serves r promise source source now (served_of why)
none_served r promise source now why so =
    record {
      pieces = [];
      given = given_none r source;
      ends = stops_so r promise source source now [] why (inl ((λ before holds. holds), so));
    }
