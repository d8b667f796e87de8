-- A round and a dump put the same of a play without its key.
use Rattle.std.{proofs.{Common.{◌≡◌, ◌∙◌, ◌+◌, ◌++◌, ◌∷◌, [], ℕ, List, Option, Some, None, ap, sym, refl, length, lit≤}, lemmas.List.append_cancel_left}, specs.{Prelude.{if◌then◌else◌, map, option_map}, List.concat}}
use Rattle.device_types.{specs.{Address.{Bytes, Contents}, Bounds.are_valid, Map.metadata_region, Report.ReportFields, declared.{bounds.Bounds.Bounds, event.Event.Event}}, proofs.ValidRange.are_valid-ranges}
use Rattle.part_definitions.specs.{Memory.is_image_place, Metadata.bounds_in, Region.{bounded_bytes, bytes_between, metadata_bytes, output_bytes, rest_bytes}}
use Rattle.hex_loader.specs.HexText.{hex_text}
use Rattle.device_trace.specs.{Blank.SameOutside, Logs.Logs, Trace.{Play, byte_after, logs_after, released_words}, Start.Start, Text.{end_line_after, last_report, lines_of, play_text, report_in, lines_of_step}}
use Rattle.key_isolation.{specs.Keyless.keyless, proofs.{Bytes.same_if, Hiding.open_start, Induction.{play_hides, releases_before}, Numbers.bounds_in-outside, OpenRecords.image_place-open, TextBlank.{end_line_after-hide, lines_of-hide, play_text-hide, ram_bytes, report_where-hide, valid_bytes}, TwoKeys.byte-hide}}
use Rattle.report_verifier.specs.{Comparison.{expected_bytes, expected_key, own_bytes}, Judge.{Judge, verdict_at}, Policy.expect_at, declared.{verdict.Verdict.Verdict, expect.Expect.Expect}}
use Rattle.device_play.specs.Accounts.{end_line_of, memory_after}
use Rattle.device_cli.specs.{Judgement.{Remark, pair_shown, pair_with_one_mac, remark_on}, KeylessText.HasKeylessTexts, RoundText.{Piece, piece_of_step, piece_text, reports_in, round_lines, round_pieces, round_text, with_last}, Unanswered.unanswered_if, Verdicts.{is_accept, verdicts}}
use Rattle.device_cli.proofs.law.round_and_dump_are_keyless.Goals as goal

-- a device's own bytes are outside the secrets
rest-outside : (left right : Contents) → SameOutside left right → (bounds : Bounds)
    → bounded_bytes left bounds ≡ bounded_bytes right bounds
rest-outside left right same bounds =
    same_if (are_valid bounds) _ _ [] []
    (λ valid.
    let ranges = are_valid-ranges metadata_region bounds valid in
    ap (λ (code : Bytes). code ++ output_bytes left bounds)
    (valid_bytes left right same bounds.er_min bounds.er_max ranges.executable)
    ∙ ap (λ (output : Bytes). bytes_between right bounds.er_min bounds.er_max ++ output)
    (valid_bytes left right same bounds.or_min bounds.or_max ranges.output))
    (λ invalid. refl)

own-outside : (left right : Contents) → SameOutside left right
    → own_bytes left ≡ own_bytes right
own-outside left right same =
    ap (λ (metadata : Bytes). metadata ++ rest_bytes left)
    (ram_bytes left right same 0x240 80 (lit≤ tt) (lit≤ tt))
    ∙ ap (λ (rest : Bytes). metadata_bytes right ++ rest)
    (ap (bounded_bytes left) (bounds_in-outside left right same)
    ∙ rest-outside left right same (bounds_in right))

abbrev remark-with : ℕ → Verdict → Option (Bytes × Bytes) → Remark
remark-with number verdict pair = record { number = number; verdict = verdict; pair = pair }

-- and nothing else of memory is looked at
remark-outside : (judge : Judge) (i : ℕ) (left right : Contents) (report : ReportFields)
    → SameOutside left right
    → remark_on judge i left report ≡ remark_on judge i right report
remark-outside judge i left right report same =
    ap (remark-with (i + 1) (verdict_at judge i report)) (by-expect (expect_at judge.policy i))
  where
    by-expect : (expect : Option Expect)
        → pair_shown judge expect (verdict_at judge i report) report left
        ≡ pair_shown judge expect (verdict_at judge i report) report right
    by-expect None = refl
    by-expect (Some expect) =
        ap (λ (own : Bytes). if is_accept (verdict_at judge i report)
        then pair_with_one_mac judge.digest (expected_key judge.digest judge.key expect)
        (expected_bytes judge.digest judge.key judge.image expect report) own
        else None)
        (own-outside left right same)

some-outside : (judge : Judge) (i : ℕ) (left right : Contents) (report : Option ReportFields)
    → SameOutside left right
    → option_map (remark_on judge i left) report ≡ option_map (remark_on judge i right) report
some-outside judge i left right None same = refl
some-outside judge i left right (Some report) same =
    ap (λ (remark : Remark). Some remark) (remark-outside judge i left right report same)

-- the report of the last step
report-hide : (start : Start) (free : List ℕ) (play : Play) (more : List ℕ)
    → free ≡ released_words start play ++ more
    → last_report start play ≡ last_report (open_start free start) play
report-hide start free [] more split = refl
report-hide start free (events ∷ play) more split =
    let logs : Logs = logs_after start (events ∷ play) in
    sym (report_where-hide start free logs (length play) logs.decision)
    ∙ ap (λ (ls : Logs). report_in (open_start free start) ls (length play))
    (play_hides start free (events ∷ play) more split).logs

-- the words that are released before the last step
split-before : (start : Start) (free : List ℕ) (events : List Event) (play : Play) (more : List ℕ)
    → free ≡ released_words start (events ∷ play) ++ more
    → (rest : List ℕ) × (free ≡ released_words start play ++ rest)
unfolding logs_after
split-before start free events play more split =
    releases_before start free more (logs_after start play) events split

reports-hide : (start : Start) (free : List ℕ) (play : Play) (more : List ℕ)
    → free ≡ released_words start play ++ more
    → reports_in start play ≡ reports_in (open_start free start) play
unfolding reports_in
reports-hide start free [] more split = refl
reports-hide start free (events ∷ play) more split =
    let rest = split-before start free events play more split in
    ap (λ (reports : List ReportFields). with_last reports (last_report start (events ∷ play)))
    (reports-hide start free play rest.0 rest.1)
    ∙ ap (with_last (reports_in (open_start free start) play))
    (report-hide start free (events ∷ play) more split)

remark-hide : (judge : Judge) (start : Start) (free : List ℕ) (events : List Event) (play : Play)
    (more : List ℕ)
    → free ≡ released_words start (events ∷ play) ++ more
    → (piece_of_step judge start events play).remark
    ≡ (piece_of_step judge (open_start free start) events play).remark
remark-hide judge start free events play more split =
    let rest = split-before start free events play more split in
    let bare : Start = open_start free start in
    ap (λ (reports : List ReportFields). option_map (remark_on judge (length reports)
    (byte_after start (events ∷ play))) (last_report start (events ∷ play)))
    (reports-hide start free play rest.0 rest.1)
    ∙ some-outside judge (length (reports_in bare play)) (byte_after start (events ∷ play))
    (byte_after bare (events ∷ play)) (last_report start (events ∷ play))
    (byte-hide start free (events ∷ play) more split)
    ∙ ap (option_map (remark_on judge (length (reports_in bare play))
    (byte_after bare (events ∷ play))))
    (report-hide start free (events ∷ play) more split)

-- the device's lines of a step are what is more in those of the play
step-hide : (start : Start) (free : List ℕ) (events : List Event) (play : Play) (more : List ℕ)
    → free ≡ released_words start (events ∷ play) ++ more
    → lines_of_step start events play ≡ lines_of_step (open_start free start) events play
unfolding lines_of
step-hide start free events play more split =
    let rest = split-before start free events play more split in
    let bare : Start = open_start free start in
    append_cancel_left (lines_of bare play) (lines_of_step start events play)
    (lines_of_step bare events play)
    (ap (λ (lines : Bytes). lines ++ lines_of_step start events play)
    (sym (lines_of-hide start free play rest.0 rest.1))
    ∙ lines_of-hide start free (events ∷ play) more split)

round_pieces-hide : (judge : Judge) (start : Start) (free : List ℕ) (play : Play) (more : List ℕ)
    → free ≡ released_words start play ++ more
    → round_pieces judge start play ≡ round_pieces judge (open_start free start) play
unfolding round_pieces
round_pieces-hide judge start free [] more split = refl
round_pieces-hide judge start free (events ∷ play) more split =
    let rest = split-before start free events play more split in
    let bare : Start = open_start free start in
    ap (λ (pieces : List Piece). pieces ++ piece_of_step judge start events play ∷ [])
    (round_pieces-hide judge start free play rest.0 rest.1)
    ∙ ap (λ (lines : Bytes). round_pieces judge bare play
    ++ record { lines = lines; remark = (piece_of_step judge start events play).remark } ∷ [])
    (step-hide start free events play more split)
    ∙ ap (λ (remark : Option Remark). round_pieces judge bare play
    ++ record { lines = lines_of_step bare events play; remark = remark } ∷ [])
    (remark-hide judge start free events play more split)

end-hide : (start : Start) (free : List ℕ) (play : Play) (more : List ℕ)
    → free ≡ released_words start play ++ more
    → end_line_of start play ≡ end_line_of (open_start free start) play
end-hide start free play more split =
    sym (end_line_after-hide (length play) (logs_after start play))
    ∙ ap (end_line_after (length play)) (play_hides start free play more split).logs

round_text-hide : (judge : Judge) (start : Start) (free : List ℕ) (play : Play) (more : List ℕ)
    → free ≡ released_words start play ++ more
    → round_text judge start play ≡ round_text judge (open_start free start) play
unfolding round_text
round_text-hide judge start free play more split =
    ap (λ (pieces : List Piece). concat (map piece_text pieces) ++ end_line_of start play)
    (round_pieces-hide judge start free play more split)
    ∙ ap (λ (end : Bytes). round_lines judge (open_start free start) play ++ end)
    (end-hide start free play more split)

-- memory as it is dumped has no place of a secret
memory-hide : (start : Start) (free : List ℕ) (play : Play) (more : List ℕ)
    → free ≡ released_words start play ++ more
    → memory_after start play ≡ memory_after (open_start free start) play
memory-hide start free play more split = λ i place.
    same_if (is_image_place place) _ _ None None
    (λ holds. ap (λ (byte : ℕ). Some byte)
    (byte-hide start free play more split place (image_place-open place holds)))
    (λ other. refl) i

keyless_texts : (start : Start) (play : Play) → HasKeylessTexts start play
keyless_texts start play =
    record {
      dump = λ more.
          let free : List ℕ = released_words start play ++ more in
          ap (λ (text : Bytes). text ++ hex_text (memory_after start play))
          (play_text-hide start free play more refl)
          ∙ ap (λ (memory : ℕ → Option ℕ). play_text (keyless start play more) play
          ++ hex_text memory)
          (memory-hide start free play more refl);
      round = λ judge more.
          round_text-hide judge start (released_words start play ++ more) play more refl;
      unanswered = λ all judge more.
          ap (λ (reports : List ReportFields). unanswered_if all judge.policy.requests
          (verdicts judge reports))
          (reports-hide start (released_words start play ++ more) play more refl);
    }

pub returns : goal.returns
returns c = keyless_texts
