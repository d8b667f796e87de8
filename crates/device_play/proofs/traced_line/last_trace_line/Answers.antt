use Rattle.std.proofs.Common.{◌∙◌, Some, option_map, ap, sym, rules, arith}
use Rattle.device_play.{specs.TraceLine.value_shown, proofs.TracedStep.told_line}
use Rattle.device_play.proofs.traced_line.last_trace_line.Goals as goal

pub returns-clause-line : goal.returns-clause-line
returns-clause-line g c = λ start play stands.
    let last = c.entry-entry.ensures.last start play stands in
    let value = ap (option_map value_shown) last ∙ ap Some (sym c.blank_value-value.ensures) in
    told_line start play c.entry-entry.result.now _ c.bounds_before.result c.exec.result _ last
    (c.proposal_of_last-asked.ensures start play stands value)
    (c.bounds_before.ensures start play stands)
    (c.exec.ensures start play stands) (search (rules))

pub returns-clause-printable : goal.returns-clause-printable
returns-clause-printable g c =
    let plays = c.requires.plays in
    let formed = c.entry-entry.ensures.formed plays.0 plays.1 plays.2 in
    record {
      pc = search (arith);
      cpu = search (arith, rules, formed, c.blank_access.ensures.formed);
      dma = search (arith, rules, formed, c.blank_access-2.ensures.formed);
      word = search (arith);
      value = search (arith);
      dma_value = search (arith);
      bounds = search (arith);
    }
