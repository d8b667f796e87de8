use Rattle.std.proofs.{Common.{◌∙◌, ap, sym, Ok}, lemmas.Result.err_from_is_err_and}
use Rattle.text_scan.specs.Reader.{value_as}
use Rattle.trace_files.{specs.AuditText.audit_of_lines, proofs.FileAudit.{is_empty-length, seen-none, seen-passed, seen-line, seen-fault, seen-end}}
use Rattle.trace_files.proofs.file_audit.audit_file.Goals as goal

pub loop-number-init : goal.loop-number-init
loop-number-init c = seen-none c.new-audit.result _ _ c.new-audit.ensures (cc)

pub loop-number-preserved-then-is_empty : goal.loop-number-preserved-then-is_empty
loop-number-preserved-then-is_empty c =
    seen-passed _ c.loop-number.audit c.loop-number.audited
    (c.in-Some.number, c.in-Some.line.now) _ c.next.new.self c.loop-number.invariant
    c.in-Some.ensures.steps
    (is_empty-length c.in-Some.line.now ∙ (sym c.is_empty.ensures ∙ c.if-is_empty.true))

pub loop-number-preserved : goal.loop-number-preserved
loop-number-preserved c =
    let seen = c.loop-number.invariant in
    seen-line _ c.loop-number.audit c.see_text.new.audit c.loop-number.audited
    c.in_ok-audited.audited (c.in-Some.number, c.in-Some.line.now) _ c.next.new.self seen
    c.in-Some.ensures.steps
    (is_empty-length c.in-Some.line.now ∙ (sym c.is_empty.ensures ∙ c.if-is_empty.false))
    (c.in_ok-audited.ensures seen.lines seen.stands seen.tells)

pub returns-in_err-audited : goal.returns-in_err-audited
returns-in_err-audited c =
    let seen = c.loop-number.invariant in
    let p = err_from_is_err_and c.from_residual.result c.from_residual.ensures.1 in
    rw (p.1, p.2)
    (sym (ap (value_as audit_of_lines)
    (seen-fault _ c.loop-number.audit c.loop-number.audited
    (c.in-Some.number, c.in-Some.line.now) _ c.next.new.self c.in_err-audited.field-0.0 seen
    c.in-Some.ensures.steps
    (is_empty-length c.in-Some.line.now ∙ (sym c.is_empty.ensures ∙ c.if-is_empty.false))
    (c.in_err-audited.ensures seen.lines seen.stands seen.tells))))

pub returns : goal.returns
returns c =
    let seen = c.loop-number.invariant in
    ap Ok seen.tells
    ∙ sym (ap (value_as audit_of_lines)
    (seen-end _ c.loop-number.audit c.loop-number.audited _ seen c.in-None.ensures.steps.0))
