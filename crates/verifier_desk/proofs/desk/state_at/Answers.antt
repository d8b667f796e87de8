use Rattle.std.proofs.Common.{◌∙◌, ℕ, List, ap, ap₂}
use Rattle.sha2.specs.Sha256.{sha256}
use Rattle.desk_memory.specs.{Entry.{last_in, state_under}, KeyMark.key_mark}
use Rattle.verifier_desk.specs.DeviceKey.{DeviceKey}
use Rattle.verifier_desk.proofs.desk.state_at.Goals as goal

pub returns : goal.returns
returns c = λ d.
    let here = c.device_at-device.ensures d in
    c.state_of.ensures
    ∙ ap₂ (λ (mark name : List ℕ). state_under mark (last_in c.args.entries.now name))
    (c.mark_of-mark.ensures
    ∙ ap (key_mark sha256) (c.key.ensures ∙ ap (λ (one : DeviceKey). one.key) here))
    (c.name.ensures.bytes ∙ ap (λ (one : DeviceKey). one.name) here)
