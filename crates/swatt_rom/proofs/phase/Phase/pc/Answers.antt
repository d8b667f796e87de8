use Rattle.std.proofs.Common.{◌∙◌, length, ap, sym}
use Rattle.part_definitions.specs.Attestation.{item_pc}
use Rattle.swatt_rom.proofs.Accesses.{call_item-phase, item_of, item_pc-first, item_pc-item_of, item_pc-later}
use Rattle.swatt_rom.proofs.phase.Phase.pc.Goals as goal

pub returns-then-is_empty : goal.returns-then-is_empty
returns-then-is_empty g c = λ words stands.
    item_pc-first (length c.in-ReadsRequest.words.words.items)
    (sym c.is_empty.ensures ∙ c.if-is_empty.true)
    ∙ sym (ap (λ phase. item_pc (item_of phase)) c.in-ReadsRequest.is)
    ∙ sym (ap item_pc (call_item-phase g.D.Digest32.hash c.args.self.now words stands))

pub returns-else-is_empty : goal.returns-else-is_empty
returns-else-is_empty g c = λ words stands.
    item_pc-later (length c.in-ReadsRequest.words.words.items)
    (sym c.is_empty.ensures ∙ c.if-is_empty.false)
    ∙ sym (ap (λ phase. item_pc (item_of phase)) c.in-ReadsRequest.is)
    ∙ sym (ap item_pc (call_item-phase g.D.Digest32.hash c.args.self.now words stands))

pub returns-in_default : goal.returns-in_default
returns-in_default g c = λ words stands.
    item_pc-item_of c.args.self.now c.in_default.not-ReadsRequest
    ∙ sym (ap item_pc (call_item-phase g.D.Digest32.hash c.args.self.now words stands))
