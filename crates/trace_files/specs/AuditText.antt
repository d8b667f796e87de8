-- The audit of a trace file, and what is printed of it.
use Rattle.std.specs.{Prelude.{ℕ, List, [], ◌∷◌, length, Option, Some, None, Result, codes, ◌≡◌, map, Ok, Err}, Fmt.decimal}
use Rattle.printed_lines.specs.Line.{flag_digit, line_of}
use Rattle.text_scan.specs.{declared.fault_at.FaultAt.FaultAt, Reader.value_as}
use Rattle.trace_files.specs.{LineText.rule_word, LineGrammar.trace_of, declared.{trace_line.TraceLine.TraceLine, audited.Audited.Audited, offence.Offence.{Offence, TheVariants.{RuleIs, ExecIs}}, audit.Audit.Audit}, Offence.first_offence, Clean.{seen_in, right_exec}}
use Rattle.device_types.specs.ExecFlag.{last_pc}

-- how many lines these are, the newest first, and their first offence
abbrev pub audit_of_lines : List TraceLine → Audited
audit_of_lines lines = record { lines = length lines; offence = first_offence lines }

-- of the lines of a trace file, or the file's first fault, which goes before every offence
abbrev pub audit_of : List ℕ → Result Audited FaultAt
audit_of text = value_as audit_of_lines (trace_of text)

-- what would be right
abbrev pub offence_pieces : Offence → List (List ℕ)
offence_pieces (RuleIs rule) = codes "rule" ∷ rule_word rule ∷ []
offence_pieces (ExecIs exec) = codes "exec" ∷ flag_digit exec ∷ []

abbrev pub offence_line : ℕ → Offence → List ℕ
offence_line step offence = line_of (codes "offence") (decimal step ∷ offence_pieces offence)

abbrev pub clean_line : ℕ → List ℕ
clean_line lines = line_of (codes "clean") (decimal lines ∷ [])

-- of the number of lines, and their first offence
abbrev pub line_of_audit : ℕ → Option (ℕ × Offence) → List ℕ
line_of_audit lines None = clean_line lines
line_of_audit lines (Some offence) = offence_line offence.0 offence.1

abbrev pub audit_text : Audited → List ℕ
audit_text audited = line_of_audit audited.lines audited.offence

-- Which lines an audit stands for having seen.

-- the audit is as these lines, the newest first, left it
pub record AuditStandsFor (audit : Audit) (lines : List TraceLine) : Type 0 where
  pub same_last : audit.last_pc ≡ last_pc (map seen_in lines)
  pub same_exec : audit.exec ≡ right_exec lines

-- what an audit says after these lines and a further one, where there is one, or the fault in its
-- place
abbrev pub SaysMore :
    Audit → List TraceLine → Result Audited FaultAt → Result TraceLine FaultAt → Type 0
SaysMore audit before (Ok said) further =
    (line : TraceLine) × (further ≡ Ok line) × AuditStandsFor audit (line ∷ before)
    × (said ≡ audit_of_lines (line ∷ before))
SaysMore audit before (Err fault) further = further ≡ Err fault
