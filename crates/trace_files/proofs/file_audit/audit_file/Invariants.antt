use Rattle.std.proofs.Common.{[]}
use Rattle.text_scan.specs.LineFold.{text_lines}
use Rattle.trace_files.{specs.LineGrammar.lines_after, proofs.FileAudit.HasSeen}
use Rattle.trace_files.proofs.file_audit.audit_file.Given as goal

-- the lines so far were seen, and the rest of them is left
abbrev pub invariant-loop-number : goal.invariant-loop-number
invariant-loop-number l =
    HasSeen (lines_after [] (text_lines l.text)) l.audit l.audited l.number-iterator
