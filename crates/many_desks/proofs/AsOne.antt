-- What follows of where devices are.
use Rattle.std.proofs.{Common.{◌≡◌, ◌∙◌, ◌⊎◌, ℕ, List, [], ◌∷◌, ◌++◌, Option, Some, None, refl, sym, ap, subst, inl, inr}, lemmas.List.map-append}
use Rattle.desk_memory.specs.{Entry.{Entry, last_in}, declared.device_state.DeviceState.DeviceState}
use Rattle.verifier_desk.{specs.{DeskLine.{DeskLine, Own, desk_line_of, DeviceLine}, DeviceKey.{DeviceKey, key_named}, DeviceReply.answer_after, Replies.{DeskFields, answer_line, judge_at, lines_said, own_answer, own_line, own_lines, reply_to}, Judged.{JudgedLine, answer_to, entry_through, mark_of}, Law.{judged_at, judged_lines}, Run.Run}, proofs.{GoneOn.own_lines-append, Remembered.{IsKnown, line_known, state_known, entry_through-append}, Repeated.answer_is_repeated as of_one_device}}
use Rattle.many_desks.{specs.{Act.{Act, AreAllowed, Serves, World, world_after}, Law.{AreAsOne, HasOneHome, IsAnsweredAsOne, IsAnsweredAlike, SayAlike, Serving, StartsAt, answer_of_one, entry_of_one, lines_before, lines_in, now_in}}, proofs.{Placed.{MovedTo, begun_here, placed, run_serves, view_of}, Through.{alike_state, alike_through}, Token.{here_says, one_home, says_as_one}, Worlds.same_bytes}}

pub device_has_one_home : HasOneHome
device_has_one_home start acts home name one other so allowed here too =
    one_home (view_of (world_after start acts) name) (MovedTo start acts name)
    (entry_of_one start acts home name) one other (placed start acts home name so allowed) here too

-- a run that has a line of a device begins with what one desk would have
pub run_begins : (start : World) (earlier : List Act) (home name desk : List ℕ) (run : Run)
    → StartsAt start home name → AreAllowed start (Serves desk run ∷ earlier)
    → (judged_lines run.desk name run.lines ≡ [])
    ⊎ SayAlike (last_in run.desk.entries name) (entry_of_one start earlier home name)
run_begins start earlier home name desk run so allowed =
    let world : World = world_after start earlier in
    let known : Option Entry = entry_of_one start earlier home name in
    let lines : List JudgedLine = judged_lines run.desk name run.lines in
    subst (λ (last : Option Entry). (lines ≡ []) ⊎ SayAlike last known)
    (sym (begun_here world desk run name allowed.0))
    (says_as_one (view_of world name) (MovedTo start earlier name) known desk lines
    (run_serves world desk run name (MovedTo start earlier name) known allowed.0
    (placed start earlier home name so allowed.1)))

pub desks_are_as_one : AreAsOne
desks_are_as_one start acts home name desk so allowed =
    here_says (view_of (world_after start acts) name) (MovedTo start acts name)
    (entry_of_one start acts home name) desk (placed start acts home name so allowed)

-- the lines of a device in parts of a run
judged_lines-append : (desk : DeskFields) (name : List ℕ) (later earlier : List (List ℕ))
    → judged_lines desk name (later ++ earlier)
    ≡ judged_lines desk name later ++ judged_lines desk name earlier
judged_lines-append desk name later earlier =
    ap (judged_at desk name (key_named name desk.devices))
    (own_lines-append desk.devices name later earlier)
    ∙ by_key (key_named name desk.devices)
  where
    by_key : (key : Option (List ℕ))
        → judged_at desk name key
        (own_lines desk.devices name later ++ own_lines desk.devices name earlier)
        ≡ judged_at desk name key (own_lines desk.devices name later)
        ++ judged_at desk name key (own_lines desk.devices name earlier)
    by_key None = refl
    by_key (Some key) =
        map-append (λ (line : DeviceLine).
        record { judge = judge_at desk (record { name = name; key = key }); line = line })
        (own_lines desk.devices name later) (own_lines desk.devices name earlier)

judged_first : (run : Run) (before : List (List ℕ)) (line : List ℕ) (device : DeviceKey)
    (own : DeviceLine)
    → desk_line_of run.desk.devices line ≡ Own device own
    → key_named device.name run.desk.devices ≡ Some device.key
    → judged_lines run.desk device.name (line ∷ before)
    ≡ now_in run device own ∷ judged_lines run.desk device.name before
judged_first run before line device own said known =
    let lines : List DeviceLine = own_lines run.desk.devices device.name before in
    let first : own_line device.name (Own device own) ++ lines ≡ own ∷ lines =
    rw (same_bytes device.name device.name refl) refl in
    ap (λ (one : DeskLine). judged_at run.desk device.name
    (key_named device.name run.desk.devices) (own_line device.name one ++ lines)) said
    ∙ ap (judged_at run.desk device.name (key_named device.name run.desk.devices)) first
    ∙ ap (λ (key : Option (List ℕ)). judged_at run.desk device.name key (own ∷ lines)) known
    ∙ ap (λ (key : Option (List ℕ)). now_in run device own
    ∷ judged_at run.desk device.name key lines) (sym known)

no_lines : (later before : List JudgedLine) (now : JudgedLine) → later ++ now ∷ before ≡ [] → ⊥
no_lines [] before now none = cc none
no_lines (one ∷ later) before now none = cc none

-- so a desk answers as one
served_known : (run : Run) (line : List ℕ) (device : DeviceKey) (own : DeviceLine)
    → desk_line_of run.desk.devices line ≡ Own device own
    → key_named device.name run.desk.devices ≡ Some device.key
served_known run line device own said =
    subst (IsKnown run.desk.devices) said (line_known run.desk.devices line)

begins_as_one : (start : World) (earlier : List Act) (home desk : List ℕ) (run : Run)
    (before : List (List ℕ)) (line : List ℕ) (device : DeviceKey)
    → StartsAt start home device.name
    → Serving start earlier desk run before line device
    → SayAlike (last_in run.desk.entries device.name)
    (entry_of_one start earlier home device.name)
begins_as_one start earlier home desk run before line device so it =
    elim (run_begins start earlier home device.name desk run so it.allowed) [
      | inl none ↦ absurd (no_lines (judged_lines run.desk device.name it.later)
          (judged_lines run.desk device.name before) (now_in run device it.own)
          (ap (λ (lines : List JudgedLine). judged_lines run.desk device.name it.later ++ lines)
          (sym (judged_first run before line device it.own it.said
          (served_known run line device it.own it.said)))
          ∙ sym (judged_lines-append run.desk device.name it.later (line ∷ before))
          ∙ ap (judged_lines run.desk device.name) (sym it.parts) ∙ none))
      | inr same ↦ same
    ]

answer_as_one : (start : World) (earlier : List Act) (home desk : List ℕ) (run : Run)
    (before : List (List ℕ)) (line : List ℕ) (device : DeviceKey)
    → StartsAt start home device.name
    → (it : Serving start earlier desk run before line device)
    → own_answer run.desk (lines_said run.desk before device.name) device it.own
    ≡ answer_of_one start home device.name (lines_before run before earlier device.name)
    (now_in run device it.own)
answer_as_one start earlier home desk run before line device so it =
    let name : List ℕ = device.name in
    let now : JudgedLine = now_in run device it.own in
    let lines : List JudgedLine = judged_lines run.desk name before in
    let first : Option Entry = last_in run.desk.entries name in
    let known : Option Entry = entry_of_one start earlier home name in
    ap (λ (state : DeviceState). answer_after now.judge state now.line)
    (sym (state_known run.desk device (lines_said run.desk before name)
    (served_known run line device it.own it.said))
    ∙ alike_state (mark_of now) (entry_through name first lines) (entry_through name known lines)
    (alike_through name first known lines
    (begins_as_one start earlier home desk run before line device so it)))
    ∙ ap (λ (entry : Option Entry). answer_to entry now)
    (sym (entry_through-append name (last_in (start home) name) lines (lines_in earlier name)))

pub device_is_answered_as_one : IsAnsweredAsOne
device_is_answered_as_one start earlier home desk run before line device so it =
    ap (reply_to run.desk (lines_said run.desk before)) it.said
    ∙ ap (answer_line run.desk.digest device it.own.number)
    (answer_as_one start earlier home desk run before line device so it)

pub answer_is_repeated : IsAnsweredAlike
answer_is_repeated start earlier home desk run before line device last rest so it lines same fresh =
    let name : List ℕ = device.name in
    let now : JudgedLine = now_in run device it.own in
    device_is_answered_as_one start earlier home desk run before line device so it
    ∙ ap (answer_line run.desk.digest device it.own.number)
    (ap (λ (some : List JudgedLine). answer_of_one start home name some now) lines
    ∙ (of_one_device name (entry_through name (last_in (start home) name) rest) last now same
    fresh).0)
