-- A desk that is started with what another's memory has goes on as that one.
use Rattle.std.{proofs.{Common.{◌≡◌, ◌∙◌, ℕ, List, [], ◌∷◌, ◌++◌, Option, Some, None, refl, ap, sym, append_assoc}, lemmas.List.append-nil}, specs.Prelude.if◌then◌else◌}
use Rattle.report_verifier.specs.Judge.{Judge}
use Rattle.desk_memory.specs.{declared.device_state.DeviceState.DeviceState, DeviceState.is_new, Entry.Note}
use Rattle.verifier_desk.{specs.{DeskLine.{DeskLine, TooLong, Silent, Foreign, Own, desk_line_of, DeviceLine}, DeviceKey.{DeviceKey, key_named}, DeviceReply.{answer_after, state_after, state_from}, Law.{IsGoneOn, started_after}, Noted.{entries_after, noted_of, with_noted}, Replies.{DeskFields, answer_line, judge_at, lines_said, mark_at, own_line, own_lines, replies, reply, reply_to, state_at}}, proofs.Remembered.{IsKnown, device_remembered, line_known}}

pub own_lines-append : (devices : List DeviceKey) (name : List ℕ) (later earlier : List (List ℕ))
    → own_lines devices name (later ++ earlier)
    ≡ own_lines devices name later ++ own_lines devices name earlier
own_lines-append devices name [] earlier = refl
own_lines-append devices name (line ∷ later) earlier =
    ap (λ (own : List DeviceLine). own_line name (desk_line_of devices line) ++ own)
    (own_lines-append devices name later earlier)
    ∙ sym (append_assoc (own_line name (desk_line_of devices line)) (own_lines devices name later)
    (own_lines devices name earlier))

state_from-append : (judge : Judge) (state : DeviceState) (later earlier : List DeviceLine)
    → state_from judge state (later ++ earlier)
    ≡ state_from judge (state_from judge state earlier) later
state_from-append judge state [] earlier = refl
state_from-append judge state (line ∷ later) earlier =
    ap (λ (now : DeviceState). state_after judge now line)
    (state_from-append judge state later earlier)

-- the state of a device after earlier and later lines
state_goes_on : (desk : DeskFields) (device : DeviceKey) (earlier later : List (List ℕ))
    → key_named device.name desk.devices ≡ Some device.key
    → state_at desk device (lines_said desk (later ++ earlier) device.name)
    ≡ state_at (started_after desk earlier) device (lines_said desk later device.name)
state_goes_on desk device earlier later known =
    ap (state_at desk device) (own_lines-append desk.devices device.name later earlier)
    ∙ state_from-append (judge_at desk device) _ (lines_said desk later device.name)
    (lines_said desk earlier device.name)
    ∙ ap (λ (state : DeviceState). state_from (judge_at desk device) state
    (lines_said desk later device.name)) (sym (device_remembered desk device earlier known))

reply_goes_on : (desk : DeskFields) (earlier later : List (List ℕ)) (said : DeskLine)
    → IsKnown desk.devices said
    → reply_to desk (lines_said desk (later ++ earlier)) said
    ≡ reply_to (started_after desk earlier) (lines_said desk later) said
reply_goes_on desk earlier later TooLong known = refl
reply_goes_on desk earlier later Silent known = refl
reply_goes_on desk earlier later Foreign known = refl
reply_goes_on desk earlier later (Own device line) known =
    ap (λ (state : DeviceState). answer_line desk.digest device line.number
    (answer_after (judge_at desk device) state line))
    (state_goes_on desk device earlier later known)

noted_goes_on : (desk : DeskFields) (earlier later : List (List ℕ)) (said : DeskLine)
    → IsKnown desk.devices said
    → noted_of desk (lines_said desk (later ++ earlier)) said
    ≡ noted_of (started_after desk earlier) (lines_said desk later) said
noted_goes_on desk earlier later TooLong known = refl
noted_goes_on desk earlier later Silent known = refl
noted_goes_on desk earlier later Foreign known = refl
noted_goes_on desk earlier later (Own device line) known =
    ap (λ (state : DeviceState). if is_new line.number state.last
    then Some (record {
      name = device.name;
      mark = mark_at desk device;
      state = state_after (judge_at desk device) state line;
    })
    else None)
    (state_goes_on desk device earlier later known)

replies_go_on : (desk : DeskFields) (earlier later : List (List ℕ))
    → replies desk (later ++ earlier)
    ≡ replies desk earlier ++ replies (started_after desk earlier) later
replies_go_on desk earlier [] = sym (append-nil (replies desk earlier))
replies_go_on desk earlier (line ∷ later) =
    ap (λ (before : List ℕ). before ++ reply desk (later ++ earlier) line)
    (replies_go_on desk earlier later)
    ∙ append_assoc (replies desk earlier) (replies (started_after desk earlier) later)
    (reply desk (later ++ earlier) line)
    ∙ ap (λ (last : List ℕ). replies desk earlier
    ++ (replies (started_after desk earlier) later ++ last))
    (reply_goes_on desk earlier later (desk_line_of desk.devices line)
    (line_known desk.devices line))

entries_go_on : (desk : DeskFields) (earlier later : List (List ℕ))
    → entries_after desk (later ++ earlier) ≡ entries_after (started_after desk earlier) later
entries_go_on desk earlier [] = refl
entries_go_on desk earlier (line ∷ later) =
    ap (with_noted (noted_of desk (lines_said desk (later ++ earlier))
    (desk_line_of desk.devices line)))
    (entries_go_on desk earlier later)
    ∙ ap (λ (note : Option Note). with_noted note
    (entries_after (started_after desk earlier) later))
    (noted_goes_on desk earlier later (desk_line_of desk.devices line)
    (line_known desk.devices line))

pub desk_goes_on : IsGoneOn
desk_goes_on desk earlier later =
    (replies_go_on desk earlier later, entries_go_on desk earlier later)
