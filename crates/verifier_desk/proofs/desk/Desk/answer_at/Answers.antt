-- What was noted of a line, and what its reply says of it.
use Rattle.std.{proofs.{Common.{◌≡◌, ◌∙◌, ℕ, Bool, true, false, List, ◌∷◌, Option, Some, None, Ok, refl, ap, sym, subst, length, Result, Err, rules, ◌<◌}, Math.Nat.ℕ_set, lemmas.Result.err_from_is_err_and}, specs.Prelude.{if◌then◌else◌, OnErr, vec_len, slice_index_or}}
use Rattle.desk_memory.specs.{declared.{memory.Memory.Ghosts, device_state.DeviceState.DeviceState}, DeviceState.is_new, Entry.{Entry, Note}, KeyMark.key_mark}
use Rattle.verifier_desk.{specs.{Answering.NotesIf, DeskLine.{Own, DeviceLine, line_in}, DeviceKey.DeviceKey, Noted.{note_at, noted_of, with_noted}, Replies.{DeskFields, state_at, answer_line, judge_at}, declared.desk.Desk.Desk, DeviceReply.{answer_after, is_new_give, state_after}, Reply.ReplyFields}, proofs.Standing.{kept_at_its_place, said_at_place, same_device}}
use Rattle.sha2.specs.Sha256.{sha256}
use Rattle.report_verifier.specs.Judge.{Judge}
use Rattle.verifier_desk.proofs.desk.Desk.answer_at.Goals as goal

-- a note was made, or none
record Notes {M : Type 0} (m : Ghosts M) (old new : M) (is : Bool) (noted : Option Note)
    : Type 0 where
  pub stands : (entries : List Entry) → m.stands old entries
      → m.stands new (with_noted noted entries)
  pub still : is ≡ false → (new ≡ old) × (noted ≡ None)

notes_if : {M : Type 0} (m : Ghosts M) (old new : M) (is : Bool) (note : Note)
    → NotesIf m old new is note (Ok tt)
    → Notes m old new is (if is then Some note else None)
notes_if m old new true note so =
    record { stands = so; still = λ not. absurd (cc not) }
notes_if m old new false note so =
    record {
      stands = λ entries stood. subst (λ now. m.stands now entries) (sym so.0) stood;
      still = λ is. (so.0, refl);
    }

-- of a line of a device, where its note is made of the device's parts
line_noted : {M : Type 0} (m : Ghosts M) (old new : M) (fields : DeskFields)
    (lines : List ℕ → List DeviceLine) (device : DeviceKey) (line : DeviceLine) (is : Bool)
    (digest : List ℕ → List ℕ) (owner : DeviceKey) (state : DeviceState)
    → is ≡ is_new line.number (state_at fields device (lines device.name)).last
    → fields.digest ≡ digest
    → device ≡ owner
    → state ≡ state_at fields device (line ∷ lines device.name)
    → NotesIf m old new is
    (record { name = owner.name; mark = key_mark digest owner.key; state = state }) (Ok tt)
    → Notes m old new is (noted_of fields lines (Own device line))
line_noted m old new fields lines device line is digest owner state new_is same_digest same_device
    after so =
    let noted : noted_of fields lines (Own device line)
    ≡ (if is then Some (record {
      name = owner.name;
      mark = key_mark digest owner.key;
      state = state;
    }) else None) =
    ap (λ (new : Bool). if new then Some (note_at fields device (line ∷ lines device.name))
    else None) (sym new_is)
    ∙ ap (λ (after : DeviceState). if is then Some (record {
      name = device.name;
      mark = key_mark fields.digest device.key;
      state = after;
    }) else None) (sym after)
    ∙ ap (λ (one : DeviceKey). if is then Some (record {
      name = one.name;
      mark = key_mark fields.digest one.key;
      state = state;
    }) else None) same_device
    ∙ ap (λ (one : List ℕ → List ℕ). if is then Some (record {
      name = owner.name;
      mark = key_mark one owner.key;
      state = state;
    }) else None) same_digest in
    subst (Notes m old new is) (sym noted) (notes_if m old new is _ so)

on_error : {V E : Type 0} {P : Type 0} (result : Result V E) → P → OnErr result P
on_error (Ok value) is = tt
on_error (Err error) is = is

-- a fact that a desk carries is no part of its value
same_desk : (desk : Desk) (whole : vec_len desk.states ≡ length desk.keys)
    → ◌≡◌ {A = Desk} (record desk { whole = whole }) desk
same_desk desk whole =
    ap (λ (fact : vec_len desk.states ≡ length desk.keys). record desk { whole = fact })
    (ℕ_set _ _ whole desk.whole)

pub returns-in_err-outcome-clause-kept : goal.returns-in_err-outcome-clause-kept
returns-in_err-outcome-clause-kept g c =
    on_error c.from_residual.result (same_desk c.args.self.now _)

pub returns-in_err-note_new-clause-kept : goal.returns-in_err-note_new-clause-kept
returns-in_err-note_new-clause-kept g c =
    on_error c.from_residual-in_err-note_new.result (same_desk c.args.self.now _)

pub returns-in_err-outcome-clause-answers : goal.returns-in_err-outcome-clause-answers
returns-in_err-outcome-clause-answers g c = λ fields lines device so at.
    let within : c.args.place < length fields.devices = search (rules, sym so.devices) in
    let here : device ≡ c.device_at-device.result.now =
    sym (at device)
    ∙ ap (λ (all : List DeviceKey). slice_index_or all c.args.place device) so.devices
    ∙ sym (c.device_at-device.ensures device) in
    let same_key : device.key ≡ c.key.result.now =
    ap (λ (owner : DeviceKey). owner.key) here ∙ sym c.key.ensures in
    let gives : is_new_give (state_at fields device (lines device.name)).last
    (line_in c.args.own.now)
    ≡ true =
    sym (said_at_place (λ (judge : Judge) (state : DeviceState).
    is_new_give state.last (line_in c.args.own.now)) fields c.args.self.now.states.items lines
    c.args.place device c.index.result.now c.index.result.now _ c.key.result.now _ _
    so.digest so.image so.policy same_key within at so.states (search rules))
    ∙ c.in_err-outcome.ensures.memory in
    let fault = err_from_is_err_and c.from_residual.result c.from_residual.ensures.1 in
    rw (fault.1, fault.2) (refl, gives)

pub returns-clause-answers : goal.returns-clause-answers
returns-clause-answers g c = λ fields lines device so at.
    let line : DeviceLine = line_in c.args.own.now in
    let states : List DeviceState = c.args.self.now.states.items in
    let within : c.args.place < length fields.devices = search (rules, sym so.devices) in
    let here : device ≡ c.device_at-device.result.now =
    sym (at device)
    ∙ ap (λ (all : List DeviceKey). slice_index_or all c.args.place device) so.devices
    ∙ sym (c.device_at-device.ensures device) in
    let same_key : device.key ≡ c.key.result.now =
    ap (λ (owner : DeviceKey). owner.key) here ∙ sym c.key.ensures in
    let reply : c.new.result.text
    ≡ answer_line fields.digest device line.number
    (answer_after (judge_at fields device) (state_at fields device (lines device.name)) line) =
    ap (λ (one : ReplyFields). one.text) c.new.ensures
    ∙ c.answer_line-line.ensures.text
    ∙ ap (λ (owner : DeviceKey).
    answer_line sha256 owner line.number c.in_ok-outcome.outcome.answer)
    (sym (same_device device c.name.result.now c.key-2.result.now
    (ap (λ (owner : DeviceKey). owner.name) here ∙ sym c.name.ensures.bytes)
    (ap (λ (owner : DeviceKey). owner.key) here ∙ sym c.key-2.ensures)))
    ∙ ap (answer_line sha256 device line.number)
    (c.in_ok-outcome.ensures.answer
    ∙ said_at_place (λ (judge : Judge) (state : DeviceState). answer_after judge state line)
    fields states lines c.args.place device c.index.result.now c.index.result.now _
    c.key.result.now _ _ so.digest so.image so.policy same_key within at so.states (search rules))
    ∙ ap (λ (digest : List ℕ → List ℕ). answer_line digest device line.number
    (answer_after (judge_at fields device) (state_at fields device (lines device.name)) line))
    (sym so.digest) in
    let after : c.answer_device.new.state ≡ state_at fields device (line ∷ lines device.name) =
    c.in_ok-outcome.ensures.state
    ∙ said_at_place (λ (judge : Judge) (state : DeviceState). state_after judge state line)
    fields states lines c.args.place device c.index.result.now c.index.result.now _
    c.key.result.now _ _ so.digest so.image so.policy same_key within at so.states
    (search rules) in
    let new : c.in_ok-outcome.outcome.is_new
    ≡ is_new line.number (state_at fields device (lines device.name)).last =
    c.in_ok-outcome.ensures.new
    ∙ said_at_place (λ (judge : Judge) (state : DeviceState). is_new line.number state.last)
    fields states lines c.args.place device c.index.result.now c.index.result.now _
    c.key.result.now _ _ so.digest so.image so.policy same_key within at so.states
    (search rules) in
    let notes = line_noted g.M.Memory _ _ fields lines device line
    c.in_ok-outcome.outcome.is_new sha256 c.device_at-device.result.now
    c.answer_device.new.state new so.digest here after c.in_ok-note_new.ensures.notes in (
      reply,
      record {
        digest = so.digest;
        devices = so.devices;
        image = so.image;
        policy = so.policy;
        distinct = so.distinct;
        states = kept_at_its_place fields states lines c.args.place device line
            c.answer_device.new.state so.distinct (search (rules, sym so.devices)) within at after
            so.states;
      },
      notes.stands,
      λ not. notes.still (sym (ap (λ (one : ReplyFields). one.is_noted) c.new.ensures) ∙ not),
    )
