use Rattle.std.{proofs.Common.{rules, ◌≡◌, ◌∙◌, ap, sym, subst, ℕ, List, [], Option, Some}, specs.Prelude.slice_index_or}
use Rattle.verifier_desk.{specs.{Answering.Answers, DeviceKey.{DeviceKey, key_named}, DeskLine.own_or_none}, proofs.Standing.device_at}
use Rattle.verifier_desk.proofs.desk.Desk.answer_own.Goals as goal

no_device : DeviceKey
no_device = record { name = []; key = [] }

pub returns-in-Some-clause-answers : goal.returns-in-Some-clause-answers
returns-in-Some-clause-answers g c = λ fields lines so.
    let own = c.args.own.now in
    let name : List ℕ = own.name.now in
    let place : ℕ = c.in-Some.place in
    let items : List DeviceKey = c.args.self.now.keys in
    let key : List ℕ = (slice_index_or items place no_device).key in
    let device : DeviceKey = record { name = name; key = key } in
    let same : fields.devices ≡ items = search (rules, so.devices) in
    let found : key_named name fields.devices ≡ Some key =
    ap (λ (all : List DeviceKey). key_named name all) same ∙ c.in-Some.ensures.key no_device in
    let at : (d : DeviceKey) → slice_index_or fields.devices place d ≡ device =
    λ d. ap (λ (all : List DeviceKey). slice_index_or all place d) same
    ∙ device_at items place name (key_named name items) c.in-Some.ensures.found
    c.in-Some.ensures.key d no_device in
    subst (λ (one : Option (List ℕ)). Answers g.M.Memory c.args.memory.now c.answer_at.new.memory
    c.answer_at.new.self fields lines (own_or_none one own) c.answer_at.result) (sym found)
    (c.answer_at.ensures.answers fields lines device so at)
