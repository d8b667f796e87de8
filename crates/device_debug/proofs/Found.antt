-- What a look for an interrupt has found.
use Rattle.std.{proofs.Common.{◌≡◌, ◌+◌, ℕ, Bool, true, Option, arith}, specs.Prelude.option_map}
use Rattle.debug_link.{specs.Conversation.HaveCome, proofs.Interrupts.{both-came, fewer-came}}
use Rattle.word_arith.specs.Number.{bit_of}

-- whatever was found, no less than nothing came
pub some-came : (count : ℕ) (before after : Option ℕ)
    → HaveCome count before after → HaveCome 0 before after
some-came count before after came = fewer-came 0 count before after (omega arith) came

pub found-one : (found : Bool) (before after : Option ℕ) → found ≡ true
    → HaveCome (bit_of found) before after → HaveCome 1 before after
found-one found before after is came =
    rw is at came

-- one look more
pub looked-again : (found : Bool) (before between after : Option ℕ)
    → between ≡ option_map (λ (yet : ℕ). bit_of found + yet) after
    → HaveCome 0 before between → HaveCome (bit_of found) before after
looked-again found before between after is came =
    fewer-came (bit_of found) (0 + bit_of found) before after (omega arith)
    (both-came 0 (bit_of found) before between after came
    (record { came = bit_of found; enough = omega arith; fewer = is }))
