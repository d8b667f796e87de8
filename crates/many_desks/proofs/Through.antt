-- A device's last entry through its lines: where it is at home stays, and does not matter.
use Rattle.std.{proofs.{Common.{◌≡◌, ◌∙◌, ℕ, List, [], ◌∷◌, ◌++◌, Option, Some, None, refl, sym, ap, inl, inr, append_assoc}, lemmas.Bool.cases_Bool}, specs.{Prelude.{if◌then◌else◌, option_map}, Str.bytes_eq}}
use Rattle.desk_memory.specs.{declared.{answer.Answer.Answer, device_state.DeviceState.DeviceState}, DeviceState.{is_new, new_device, under_new_key}, Entry.{Entry, Note, home_of, state_under}}
use Rattle.verifier_desk.{specs.{DeviceReply.{answer_after, state_after}, Judged.{JudgedLine, entry_after, entry_through, is_new_to, mark_of, state_before}, Law.{KeyCounter, line_counters, under_mark}}, proofs.Remembered.entry_through-append}
use Rattle.many_desks.specs.Law.{SayAlike, note_of}

home_after : (name : List ℕ) (entry : Option Entry) (now : JudgedLine)
    → home_of (entry_after name entry now) ≡ home_of entry
home_after name entry now = elim (cases_Bool (is_new_to entry now)) [
  | inl new ↦ rw new refl
  | inr old ↦ rw old refl
]

pub home_through : (name : List ℕ) (start : Option Entry) (lines : List JudgedLine)
    → home_of (entry_through name start lines) ≡ home_of start
home_through name start [] = refl
home_through name start (now ∷ earlier) =
    home_after name (entry_through name start earlier) now ∙ home_through name start earlier

-- what is known stays known
some_after : (name : List ℕ) (last : Entry) (now : JudgedLine)
    → entry_after name (Some last) now ≡ None → ⊥
some_after name last now none = elim (cases_Bool (is_new_to (Some last) now)) [
  | inl new ↦ let known = rw new at none in cc known
  | inr old ↦ let known = rw old at none in cc known
]

still_none : (name : List ℕ) (entry : Option Entry) (now : JudgedLine)
    → entry_after name entry now ≡ None → ⊥
still_none name None now none = cc none
still_none name (Some last) now none = some_after name last now none

pub never_none : (name : List ℕ) (start : Option Entry) (lines : List JudgedLine)
    → entry_through name start lines ≡ None → lines ≡ []
never_none name start [] none = refl
never_none name start (now ∷ earlier) none =
    absurd (still_none name (entry_through name start earlier) now none)

pub some_through : (name : List ℕ) (last : Entry) (lines : List JudgedLine)
    → entry_through name (Some last) lines ≡ None → ⊥
some_through name last [] none = cc none
some_through name last (now ∷ earlier) none =
    still_none name (entry_through name (Some last) earlier) now none

-- what is said of a device, and under which key, decides its state
noted_state : List ℕ → Option Note → DeviceState
noted_state mark None = new_device
noted_state mark (Some note) =
    if bytes_eq note.mark mark then note.state else under_new_key note.state

state_of_note : (mark : List ℕ) (entry : Option Entry)
    → state_under mark entry ≡ noted_state mark (option_map note_of entry)
unfolding noted_state
state_of_note mark None = refl
state_of_note mark (Some entry) = refl

pub alike_state : (mark : List ℕ) (one other : Option Entry)
    → SayAlike one other → state_under mark one ≡ state_under mark other
alike_state mark one other same =
    state_of_note mark one ∙ ap (noted_state mark) same ∙ sym (state_of_note mark other)

note_after : (name : List ℕ) (now : JudgedLine) (entry : Option Entry)
    → option_map note_of (entry_after name entry now)
    ≡ (if is_new_to entry now then Some (record {
      name = name;
      mark = mark_of now;
      state = state_after now.judge (state_before entry now) now.line;
    }) else option_map note_of entry)
note_after name now entry = elim (cases_Bool (is_new_to entry now)) [
  | inl new ↦ rw new refl
  | inr old ↦ rw old refl
]

alike_after : (name : List ℕ) (now : JudgedLine) (one other : Option Entry)
    → SayAlike one other → SayAlike (entry_after name one now) (entry_after name other now)
alike_after name now one other same =
    note_after name now one
    ∙ (λ i. if is_new now.line.number (alike_state (mark_of now) one other same i).last
    then Some (record {
      name = name;
      mark = mark_of now;
      state = state_after now.judge (alike_state (mark_of now) one other same i) now.line;
    }) else same i)
    ∙ sym (note_after name now other)

pub alike_through : (name : List ℕ) (one other : Option Entry) (lines : List JudgedLine)
    → SayAlike one other → SayAlike (entry_through name one lines) (entry_through name other lines)
alike_through name one other [] same = same
alike_through name one other (now ∷ earlier) same =
    alike_after name now (entry_through name one earlier) (entry_through name other earlier)
    (alike_through name one other earlier same)

-- and so which counters are told
counters_now : (JudgedLine → Answer → List ℕ) → JudgedLine → DeviceState → List KeyCounter
counters_now counters now state =
    if is_new now.line.number state.last
    then under_mark (mark_of now) (counters now (answer_after now.judge state now.line))
    else []

pub counters_alike : (counters : JudgedLine → Answer → List ℕ) (name : List ℕ)
    (one other : Option Entry) (lines : List JudgedLine)
    → SayAlike one other
    → line_counters counters name one lines ≡ line_counters counters name other lines
unfolding counters_now
counters_alike counters name one other [] same = refl
counters_alike counters name one other (now ∷ earlier) same = λ i.
    counters_now counters now (alike_state (mark_of now) (entry_through name one earlier)
    (entry_through name other earlier) (alike_through name one other earlier same) i)
    ++ counters_alike counters name one other earlier same i

pub counters-append : (counters : JudgedLine → Answer → List ℕ) (name : List ℕ)
    (start : Option Entry) (later earlier : List JudgedLine)
    → line_counters counters name start (later ++ earlier)
    ≡ line_counters counters name (entry_through name start earlier) later
    ++ line_counters counters name start earlier
unfolding counters_now
counters-append counters name start [] earlier = refl
counters-append counters name start (now ∷ later) earlier =
    (λ i. counters_now counters now
    (state_before (entry_through-append name start later earlier i) now)
    ++ counters-append counters name start later earlier i)
    ∙ sym (append_assoc
    (counters_now counters now
    (state_before (entry_through name (entry_through name start earlier) later) now))
    (line_counters counters name (entry_through name start earlier) later)
    (line_counters counters name start earlier))
