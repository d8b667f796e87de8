-- The memory has the state of each device after its lines.
use Rattle.std.{proofs.{Common.{◌≡◌, ◌∙◌, ℕ, Bool, true, false, List, [], ◌∷◌, Option, Some, None, Result, Ok, Err, refl, ap, sym, subst, ⊎_elim, ◌++◌}, lemmas.{Bool.cases_Bool, Slice.Eq.bytes_eq-Decides}}, specs.{Prelude.{if◌then◌else◌, nat_lt, length, IfSome}, Str.bytes_eq}}
use Rattle.report_verifier.specs.Judge.{Judge}
use Rattle.text_scan.specs.{declared.fault_kind.FaultKind.FaultKind, Decimal.decimal_of, Word.words_of}
use Rattle.desk_memory.{specs.{declared.device_state.DeviceState.DeviceState, DeviceState.{is_new, with_answer}, Entry.{Entry, Home, Note, entry_at, home_of, last_in, state_under, with_entry, with_note}, KeyMark.key_mark}, proofs.Noted.entry_is_last}
use Rattle.source_server.specs.HeldLine.{LONGEST_LINE}
use Rattle.verifier_desk.specs.{DeskLine.{DeskLine, TooLong, Silent, Foreign, Own, is_verb, own_or_foreign, desk_line_of_words, desk_line_of, DeviceLine}, DeviceKey.{DeviceKey, key_named}, DeviceReply.{new_answer, state_after, state_from}, Judged.{entry_after, entry_through, judged_by, JudgedLine}, Law.{IsRemembered, judged_at, judged_lines}, Noted.{entries_after, noted_of, with_noted}, Replies.{DeskFields, judge_at, lines_said, mark_at, state_at}, Standing.with_said, Run.{IsOfAllRuns, lines_through}}

-- a line of a device is of one that the desk has
abbrev pub IsKnown : List DeviceKey → DeskLine → Type 0
IsKnown devices (Own device line) = key_named device.name devices ≡ Some device.key
IsKnown devices said = Unit {0}

own_known : (devices : List DeviceKey) (key : Option (List ℕ)) (number : Result ℕ FaultKind)
    (verb name : List ℕ) (words : List (List ℕ)) → key_named name devices ≡ key
    → IsKnown devices (own_or_foreign key number verb name words)
own_known devices None number verb name words same = tt
own_known devices (Some key) (Err kind) verb name words same = tt
own_known devices (Some key) (Ok number) verb name words same =
    ⊎_elim (λ is. rw is same) (λ other. rw other tt) (cases_Bool (is_verb verb))

words_known : (devices : List DeviceKey) (words : List (List ℕ))
    → IsKnown devices (desk_line_of_words devices words)
words_known devices [] = tt
words_known devices (verb ∷ []) = tt
words_known devices (verb ∷ name ∷ []) = tt
words_known devices (verb ∷ name ∷ number ∷ words) =
    own_known devices (key_named name devices) (decimal_of 1 4294967295 number) verb name words refl

pub line_known : (devices : List DeviceKey) (line : List ℕ)
    → IsKnown devices (desk_line_of devices line)
line_known devices line =
    ⊎_elim
    (λ long. rw long tt)
    (λ short. rw short (words_known devices (words_of line)))
    (cases_Bool (nat_lt LONGEST_LINE (length line)))

-- the state under the key of an entry that was noted, or not
state_noted : (new : Bool) (mark name : List ℕ) (home : Home) (entry : Option Entry)
    (state : DeviceState)
    → state_under mark (if new
    then Some (entry_at home (record { name = name; mark = mark; state = state })) else entry)
    ≡ (if new then state else state_under mark entry)
state_noted true mark name home entry state = rw ((bytes_eq-Decides mark mark).1 refl) refl
state_noted false mark name home entry state = refl

kept_if_old : (judge : Judge) (state : DeviceState) (line : DeviceLine)
    → (if is_new line.number state.last then state_after judge state line else state)
    ≡ state_after judge state line
kept_if_old judge state line =
    ⊎_elim
    (λ new. rw new refl)
    (λ old. rw old refl)
    (cases_Bool (is_new line.number state.last))

-- what a desk knows of a device by its last entry is what it knows after the lines themselves
state_judged_one : (judge : Judge) (name : List ℕ) (entry : Option Entry) (line : DeviceLine)
    → state_under (key_mark judge.digest judge.key)
    (entry_after name entry (record { judge = judge; line = line }))
    ≡ state_after judge (state_under (key_mark judge.digest judge.key) entry) line
state_judged_one judge name entry line =
    let mark : List ℕ = key_mark judge.digest judge.key in
    let state : DeviceState = state_under mark entry in
    state_noted (is_new line.number state.last) mark name (home_of entry) entry
    (state_after judge state line)
    ∙ kept_if_old judge state line

pub state_judged : (judge : Judge) (name : List ℕ) (entry : Option Entry) (lines : List DeviceLine)
    → state_under (key_mark judge.digest judge.key)
    (entry_through name entry (judged_by judge lines))
    ≡ state_from judge (state_under (key_mark judge.digest judge.key) entry) lines
state_judged judge name entry [] = refl
state_judged judge name entry (line ∷ earlier) =
    state_judged_one judge name (entry_through name entry (judged_by judge earlier)) line
    ∙ ap (λ (state : DeviceState). state_after judge state line)
    (state_judged judge name entry earlier)

-- the last entry of the device of a name after these lines of it
abbrev pub entry_known : DeskFields → List ℕ → List DeviceLine → Option Entry
entry_known desk name lines =
    entry_through name (last_in desk.entries name)
    (judged_at desk name (key_named name desk.devices) lines)

-- of a device that the desk has
pub own_known_entry : (desk : DeskFields) (device : DeviceKey) (lines : List DeviceLine)
    → key_named device.name desk.devices ≡ Some device.key
    → entry_known desk device.name lines
    ≡ entry_through device.name (last_in desk.entries device.name)
    (judged_by (judge_at desk device) lines)
own_known_entry desk device lines known =
    ap (λ (key : Option (List ℕ)). entry_through device.name (last_in desk.entries device.name)
    (judged_at desk device.name key lines)) known

pub state_known : (desk : DeskFields) (device : DeviceKey) (lines : List DeviceLine)
    → key_named device.name desk.devices ≡ Some device.key
    → state_under (mark_at desk device) (entry_known desk device.name lines)
    ≡ state_at desk device lines
state_known desk device lines known =
    ap (state_under (mark_at desk device)) (own_known_entry desk device lines known)
    ∙ state_judged (judge_at desk device) device.name (last_in desk.entries device.name) lines

nothing_known : (desk : DeskFields) (name : List ℕ) (key : Option (List ℕ))
    → last_in desk.entries name
    ≡ entry_through name (last_in desk.entries name) (judged_at desk name key [])
nothing_known desk name None = refl
nothing_known desk name (Some key) = refl

note_stands : (entries : List Entry) (note : Note)
    → last_in (with_note entries note) note.name
    ≡ Some (entry_at (home_of (last_in entries note.name)) note)
note_stands entries note =
    entry_is_last entries (entry_at (home_of (last_in entries note.name)) note) note.name
    ∙ rw ((bytes_eq-Decides note.name note.name).1 refl) refl

pub entry_elsewhere : (entries : List Entry) (entry : Entry) (name : List ℕ)
    → bytes_eq entry.name name ≡ false
    → last_in (with_entry entries entry) name ≡ last_in entries name
entry_elsewhere entries entry name other = entry_is_last entries entry name ∙ rw other refl

-- what is noted of a line of a device, at the device and elsewhere
noted_line : (judge : Judge) (name : List ℕ) (entries : List Entry) (entry : Option Entry)
    (state : DeviceState) (line : DeviceLine)
    → last_in entries name ≡ entry
    → state ≡ state_under (key_mark judge.digest judge.key) entry
    → last_in (with_noted (if is_new line.number state.last
    then Some (record {
      name = name;
      mark = key_mark judge.digest judge.key;
      state = state_after judge state line;
    })
    else None) entries) name
    ≡ entry_after name entry (record { judge = judge; line = line })
noted_line judge name entries entry state line so same =
    let mark : List ℕ = key_mark judge.digest judge.key in
    subst (λ (one : DeviceState). last_in (with_noted (if is_new line.number one.last
    then Some (record { name = name; mark = mark; state = state_after judge one line })
    else None) entries) name
    ≡ entry_after name entry (record { judge = judge; line = line })) (sym same)
    (⊎_elim
    (λ new.
    let note : Note = record {
      name = name;
      mark = mark;
      state = with_answer (state_under mark entry) line.number
          (new_answer judge (state_under mark entry) line);
    } in
    rw new (note_stands entries note
    ∙ ap (λ (last : Option Entry). Some (entry_at (home_of last) note)) so))
    (λ old. rw old so)
    (cases_Bool (is_new line.number (state_under mark entry).last)))

noted_here : (desk : DeskFields) (lines : List ℕ → List DeviceLine) (device : DeviceKey)
    (line : DeviceLine) (entries : List Entry)
    → key_named device.name desk.devices ≡ Some device.key
    → last_in entries device.name ≡ entry_known desk device.name (lines device.name)
    → last_in (with_noted (noted_of desk lines (Own device line)) entries) device.name
    ≡ entry_known desk device.name (line ∷ lines device.name)
noted_here desk lines device line entries known so =
    noted_line (judge_at desk device) device.name entries
    (entry_known desk device.name (lines device.name))
    (state_at desk device (lines device.name)) line so
    (sym (state_known desk device (lines device.name) known))
    ∙ ap (λ (entry : Option Entry). entry_after device.name entry
    (record { judge = judge_at desk device; line = line }))
    (own_known_entry desk device (lines device.name) known)
    ∙ sym (own_known_entry desk device (line ∷ lines device.name) known)

elsewhere_if : (entries : List Entry) (noted : Option Note) (name : List ℕ)
    → IfSome noted (λ (note : Note). bytes_eq note.name name ≡ false)
    → last_in (with_noted noted entries) name ≡ last_in entries name
elsewhere_if entries None name other = refl
elsewhere_if entries (Some note) name other =
    entry_elsewhere entries (entry_at (home_of (last_in entries note.name)) note) name other

noted_elsewhere : (desk : DeskFields) (lines : List ℕ → List DeviceLine) (device : DeviceKey)
    (line : DeviceLine) (entries : List Entry) (name : List ℕ)
    → bytes_eq device.name name ≡ false
    → last_in (with_noted (noted_of desk lines (Own device line)) entries) name
    ≡ last_in entries name
noted_elsewhere desk lines device line entries name other =
    elsewhere_if entries (noted_of desk lines (Own device line)) name
    (⊎_elim
    (λ new. rw new other)
    (λ old. rw old tt)
    (cases_Bool (is_new line.number (state_at desk device (lines device.name)).last)))

-- what is noted of a line
noted : (desk : DeskFields) (lines : List ℕ → List DeviceLine) (said : DeskLine)
    (entries : List Entry) (name : List ℕ)
    → IsKnown desk.devices said
    → ((one : List ℕ) → last_in entries one ≡ entry_known desk one (lines one))
    → last_in (with_noted (noted_of desk lines said) entries) name
    ≡ entry_known desk name (with_said said lines name)
noted desk lines TooLong entries name known so = so name
noted desk lines Silent entries name known so = so name
noted desk lines Foreign entries name known so = so name
noted desk lines (Own device line) entries name known so =
    ⊎_elim
    (λ same. subst (λ (one : List ℕ).
    last_in (with_noted (noted_of desk lines (Own device line)) entries) one
    ≡ entry_known desk one (with_said (Own device line) lines one))
    ((bytes_eq-Decides device.name name).0 same)
    (noted_here desk lines device line entries known (so device.name)
    ∙ rw ((bytes_eq-Decides device.name device.name).1 refl) refl))
    (λ other. noted_elsewhere desk lines device line entries name other ∙ so name
    ∙ rw other refl)
    (cases_Bool (bytes_eq device.name name))

pub memory_has_states : IsRemembered
memory_has_states desk [] name = nothing_known desk name (key_named name desk.devices)
memory_has_states desk (line ∷ earlier) name =
    noted desk (lines_said desk earlier) (desk_line_of desk.devices line)
    (entries_after desk earlier)
    name (line_known desk.devices line) (memory_has_states desk earlier)

-- of a device that the desk has
pub device_remembered : (desk : DeskFields) (device : DeviceKey) (lines : List (List ℕ))
    → key_named device.name desk.devices ≡ Some device.key
    → state_under (mark_at desk device) (last_in (entries_after desk lines) device.name)
    ≡ state_at desk device (lines_said desk lines device.name)
device_remembered desk device lines known =
    ap (state_under (mark_at desk device)) (memory_has_states desk lines device.name)
    ∙ state_known desk device (lines_said desk lines device.name) known

-- The memory has the last entry of each device after its lines of all runs.

pub entry_through-append : (name : List ℕ) (start : Option Entry) (later earlier : List JudgedLine)
    → entry_through name start (later ++ earlier)
    ≡ entry_through name (entry_through name start earlier) later
entry_through-append name start [] earlier = refl
entry_through-append name start (now ∷ later) earlier =
    ap (λ (entry : Option Entry). entry_after name entry now)
    (entry_through-append name start later earlier)

pub memory_has_all_runs : IsOfAllRuns
memory_has_all_runs start [] name so = refl
memory_has_all_runs start (run ∷ earlier) name so =
    memory_has_states run.desk run.lines name
    ∙ ap (λ (entry : Option Entry). entry_through name entry
    (judged_lines run.desk name run.lines))
    (ap (λ (entries : List Entry). last_in entries name) so.0
    ∙ memory_has_all_runs start earlier name so.1)
    ∙ sym (entry_through-append name (last_in start name) (judged_lines run.desk name run.lines)
    (lines_through earlier name))
