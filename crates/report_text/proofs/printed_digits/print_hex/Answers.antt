-- The digits of bytes that are put in pieces.
use Rattle.std.proofs.{Common.{◌≡◌, ◌++◌, ℕ, List, [], ◌∷◌, take, drop, refl, ap, sym, ◌∙◌, append_assoc}, lemmas.List.take-append-drop, Math.Path.subst}
use Rattle.hex.specs.Hex.{encode_with, encode_lower}
use Rattle.outside_edge.{specs.Sink.TakesPrefix, proofs.SinkLemmas.{prefix_after, prefix_of_more, puts_after, puts-failed, takes_both}}
use Rattle.report_text.proofs.printed_digits.print_hex.Goals as goal

encode_lower-append :
    (piece rest : List ℕ) → encode_lower (piece ++ rest) ≡ encode_lower piece ++ encode_lower rest
unfolding encode_with
encode_lower-append [] rest = refl
encode_lower-append (byte ∷ piece) rest =
    ap (λ digits. encode_lower (byte ∷ []) ++ digits) (encode_lower-append piece rest)

-- of the first so many bytes and of those after them
encode_lower-pieces :
    (count : ℕ) (bytes piece later : List ℕ)
    → piece ≡ take count bytes
    → later ≡ drop count bytes
    → encode_lower piece ++ encode_lower later ≡ encode_lower bytes
encode_lower-pieces count bytes piece later prefix back =
    sym (encode_lower-append piece later)
    ∙ ap encode_lower (rw (prefix, back) (take-append-drop count bytes))

pub returns-in_err-print_piece-clause-puts : goal.returns-in_err-print_piece-clause-puts
returns-in_err-print_piece-clause-puts g c =
    let prefix = c.loop-rest.invariant in
    let piece : List ℕ = c.split_at.result.0.now in
    let later : List ℕ = c.split_at.result.1.now in
    puts-failed g.W.Sink.stands _ _ _ c.from_residual.result c.from_residual.ensures.0
    (subst (λ all. TakesPrefix g.W.Sink.stands c.args.sink.now c.print_piece.new.sink all)
    (ap (λ digits. prefix.0 ++ digits) (encode_lower-pieces 32 c.loop-rest.rest.now piece later
    c.split_at.ensures.front c.split_at.ensures.back) ∙ prefix.1)
    (prefix_after g.W.Sink.stands _ _ _ prefix.0 (encode_lower piece ++ encode_lower later) prefix.2
    (prefix_of_more g.W.Sink.stands _ _ (encode_lower piece) (encode_lower later)
    c.in_err-print_piece.ensures.puts.prefix)))

pub loop-rest-preserved : goal.loop-rest-preserved
loop-rest-preserved g c =
    let prefix = c.loop-rest.invariant in
    let piece : List ℕ = c.split_at.result.0.now in
    let later : List ℕ = c.split_at.result.1.now in (
      prefix.0 ++ encode_lower piece,
      append_assoc prefix.0 (encode_lower piece) (encode_lower later)
          ∙ ap (λ digits. prefix.0 ++ digits)
          (encode_lower-pieces 32 c.loop-rest.rest.now piece later c.split_at.ensures.front
          c.split_at.ensures.back)
          ∙ prefix.1,
      takes_both g.W.Sink.stands _ _ _ prefix.0 (encode_lower piece) prefix.2
          c.in_ok-print_piece.ensures.puts.all,
      c.in_ok-print_piece.ensures.counts.quiet ∙ prefix.3,
    )

pub returns-clause-puts : goal.returns-clause-puts
returns-clause-puts g c =
    let prefix = c.loop-rest.invariant in
    rw (sym prefix.1)
    (puts_after g.W.Sink.stands _ _ _ prefix.0 (encode_lower c.loop-rest.rest.now)
    c.print_piece-2.result prefix.2
    c.print_piece-2.ensures.puts)
