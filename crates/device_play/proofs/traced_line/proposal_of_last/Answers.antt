use Rattle.std.{proofs.Common.{◌∙◌, ℕ, false, Some, ap, sym}, specs.Prelude.option_copied}
use Rattle.device_play.proofs.TracedStep.{made-proposal, refused-proposal}
use Rattle.device_play.proofs.traced_line.proposal_of_last.Goals as goal

pub returns-in-Some : goal.returns-in-Some
returns-in-Some g c = λ start play stands value.
    refused-proposal start play c.entry-entry.result.now c.in-Some.now.now
    (c.entry-entry.ensures.last start play stands)
    (sym (c.refused_signals.ensures start play stands) ∙ ap option_copied c.in-Some.is)
    ∙ ap (λ (word : ℕ). Some (c.in-Some.now.now.script_reset, word)) (sym c.blank_value.ensures)

pub returns-in-None : goal.returns-in-None
returns-in-None g c = λ start play stands value.
    made-proposal start play c.entry-entry.result.now c.args.value
    (c.entry-entry.ensures.last start play stands)
    (sym (c.refused_signals.ensures start play stands) ∙ ap option_copied c.in-None.is)
    value
    ∙ ap (λ (word : ℕ). Some (false, word)) (sym c.word_read.ensures)
