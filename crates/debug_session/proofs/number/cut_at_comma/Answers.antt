use Rattle.std.proofs.{Common.{◌+◌, ◌∙◌}, lemmas.List.{take_rest, Sums.position_or_len_is}}
use Rattle.debug_session.{specs.Number.is_comma, proofs.Cuts.{all_before, before_is, behind_is, none_behind}}
use Rattle.debug_session.proofs.number.cut_at_comma.Goals as goal

pub returns-then-end-text : goal.returns-then-end-text
returns-then-end-text c =
    let text = c.args.text.now in
    let end = c.comma_at-end in
    let first = position_or_len_is is_comma text end.result 0 end.ensures.within
    end.ensures.before end.ensures.end in
    record {
      before = all_before is_comma text end.result first c.if-end-text.true;
      behind = none_behind is_comma text end.result first c.if-end-text.true;
    }

pub returns : goal.returns
returns c =
    let text = c.args.text.now in
    let end = c.comma_at-end in
    let first = position_or_len_is is_comma text end.result 0 end.ensures.within
    end.ensures.before end.ensures.end in
    record {
      before = before_is is_comma text end.result first;
      behind = take_rest text (end.result + 1) ∙ behind_is is_comma text end.result first;
    }
