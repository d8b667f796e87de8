-- The lines of a trace file, one after the other.
use Rattle.std.proofs.{Common.{arith, ◌≡◌, ◌∙◌, ◌==◌, ap, sym, ℕ, List, [], ◌∷◌, length, true, false, None, Result, Ok, Err, refl}, lemmas.Bool.Decides.nat_tests}
use Rattle.text_scan.specs.{declared.fault_at.FaultAt.FaultAt, Reader.in_line, Word.words_of}
use Rattle.trace_files.specs.{LineGrammar.{trace_line_of, is_empty, lines_after}, declared.{trace_line.TraceLine.TraceLine, audit.Audit.Audit, audited.Audited.Audited}, AuditText.{AuditStandsFor, audit_of_lines}, Offence.first_offence}

-- an audit has seen lines, this was said of them, and the rest of the file gives what all of it
-- gives
pub record HasSeen (all : Result (List TraceLine) FaultAt) (audit : Audit) (said : Audited)
    (rest : List (ℕ × List ℕ)) : Type 0 where
  pub lines : List TraceLine
  pub stands : AuditStandsFor audit lines
  pub tells : said ≡ audit_of_lines lines
  pub same : all ≡ lines_after lines rest

pub is_empty-length : (line : List ℕ) → is_empty line ≡ (length line == 0)
is_empty-length [] = refl
is_empty-length (character ∷ line) = grind (arith, nat_tests)

-- before all lines
pub seen-none : (audit : Audit) (text lines : List (ℕ × List ℕ))
    → AuditStandsFor audit [] → lines ≡ text
    → HasSeen (lines_after [] text) audit (record { lines = 0; offence = None }) lines
unfolding first_offence
seen-none audit text lines stands same =
    record {
      lines = [];
      stands = stands;
      tells = refl;
      same = ap (lines_after []) (sym same);
    }

-- at an empty line
pub seen-passed : (all : Result (List TraceLine) FaultAt) (audit : Audit) (said : Audited)
    (line : ℕ × List ℕ) (rest lines : List (ℕ × List ℕ))
    → HasSeen all audit said rest → rest ≡ line ∷ lines
    → is_empty line.1 ≡ true → HasSeen all audit said lines
unfolding lines_after
seen-passed all audit said line rest lines seen next skips =
    record {
      lines = seen.lines;
      stands = seen.stands;
      tells = seen.tells;
      same = seen.same ∙ ap (lines_after seen.lines) next ∙ rw skips refl;
    }

lines_after-line : (all : Result (List TraceLine) FaultAt) (before : List TraceLine)
    (entry : TraceLine) (line : ℕ × List ℕ) (rest lines : List (ℕ × List ℕ))
    → all ≡ lines_after before rest → rest ≡ line ∷ lines → is_empty line.1 ≡ false
    → in_line line.0 (trace_line_of (length before) (words_of line.1)) ≡ Ok entry
    → all ≡ lines_after (entry ∷ before) lines
unfolding lines_after
lines_after-line all before entry line rest lines same next says answer =
    same ∙ ap (lines_after before) next ∙ rw says (rw answer refl)

-- at a line
pub seen-line : (all : Result (List TraceLine) FaultAt) (audit after : Audit)
    (before said : Audited) (line : ℕ × List ℕ) (rest lines : List (ℕ × List ℕ))
    (seen : HasSeen all audit before rest) → rest ≡ line ∷ lines → is_empty line.1 ≡ false
    → (entry : TraceLine)
    × (in_line line.0 (trace_line_of (length seen.lines) (words_of line.1)) ≡ Ok entry)
    × AuditStandsFor after (entry ∷ seen.lines) × (said ≡ audit_of_lines (entry ∷ seen.lines))
    → HasSeen all after said lines
seen-line all audit after before said line rest lines seen next says more =
    record {
      lines = more.0 ∷ seen.lines;
      stands = more.2;
      tells = more.3;
      same = lines_after-line all seen.lines more.0 line rest lines seen.same next says more.1;
    }

-- at a line with a fault
pub seen-fault : (all : Result (List TraceLine) FaultAt) (audit : Audit) (said : Audited)
    (line : ℕ × List ℕ) (rest lines : List (ℕ × List ℕ)) (fault : FaultAt)
    (seen : HasSeen all audit said rest) → rest ≡ line ∷ lines → is_empty line.1 ≡ false
    → in_line line.0 (trace_line_of (length seen.lines) (words_of line.1)) ≡ Err fault
    → all ≡ Err fault
unfolding lines_after
seen-fault all audit said line rest lines fault seen next says answer =
    seen.same ∙ ap (lines_after seen.lines) next ∙ rw says (rw answer refl)

-- at the end
pub seen-end : (all : Result (List TraceLine) FaultAt) (audit : Audit) (said : Audited)
    (rest : List (ℕ × List ℕ)) (seen : HasSeen all audit said rest) → rest ≡ []
    → all ≡ Ok seen.lines
unfolding lines_after
seen-end all audit said rest seen none = seen.same ∙ ap (lines_after seen.lines) none
