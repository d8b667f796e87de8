use Rattle.std.proofs.Common.{◌≡◌, drop}
use Rattle.report_text.specs.ReportLine.{fields_of}
use Rattle.report_text.proofs.passed_line.pass_fields.Given as goal

-- the fields that are left give what all fields give
abbrev pub invariant-loop-field : goal.invariant-loop-field
invariant-loop-field l =
    fields_of l.fields l.fn.words ≡ fields_of (drop l.field-index l.fields) l.words
