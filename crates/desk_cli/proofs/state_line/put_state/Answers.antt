use Rattle.std.proofs.Common.{[], ◌∷◌, ap}
use Rattle.printed_lines.specs.Line.{line_of, with_pieces}
use Rattle.outside_edge.proofs.SinkLemmas.{prefix_of_more, puts_after, puts-failed}
use Rattle.desk_memory.specs.Entry.{Home}
use Rattle.desk_cli.{specs.StateText.{desk_pieces, form_for, form_name, moves_pieces}, proofs.StatesPut.line-parts}
use Rattle.desk_cli.proofs.state_line.put_state.Goals as goal

pub returns-in_err-put_names-clause-puts : goal.returns-in_err-put_names-clause-puts
returns-in_err-put_names-clause-puts g c =
    let entry = c.args.entry.now in
    let is_gone = ap (λ (home : Home). home.gone) c.home.ensures in
    rw (line-parts entry.name entry.home.gone (moves_pieces entry))
    (puts-failed g.W.Sink.stands _ _ _ c.from_residual.result c.from_residual.ensures.0
    (prefix_of_more g.W.Sink.stands _ _
    (with_pieces (form_name (form_for entry.home.gone))
    (entry.name ∷ desk_pieces entry.home.gone))
    (line_of [] (moves_pieces entry))
    (rw (c.name.ensures, is_gone) at c.in_err-put_names.ensures.puts.prefix)))

pub returns-clause-puts : goal.returns-clause-puts
returns-clause-puts g c =
    let entry = c.args.entry.now in
    let is_gone = ap (λ (home : Home). home.gone) c.home.ensures in
    rw (line-parts entry.name entry.home.gone (moves_pieces entry))
    (puts_after g.W.Sink.stands _ _ _
    (with_pieces (form_name (form_for entry.home.gone))
    (entry.name ∷ desk_pieces entry.home.gone))
    (line_of [] (moves_pieces entry)) c.put_all.result
    (rw (c.name.ensures, is_gone) at c.in_ok-put_names.ensures.puts.all)
    (rw (c.as_slice.ensures, c.state_words.ensures) at c.put_all.ensures.puts))
