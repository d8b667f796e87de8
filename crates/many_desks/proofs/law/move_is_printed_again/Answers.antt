-- What a memory prints again of a device that is gone.
use Rattle.std.{proofs.{Common.{◌≡◌, ◌∙◌, ◌⊎◌, ℕ, List, [], ◌∷◌, Bool, true, false, not, Option, Some, None, refl, sym, ap, subst, inl, inr, true≢false}, lemmas.{Option.same_Some, Bool.cases_Bool, List.Elements.All-from_recursion, Slice.Eq.bytes_eq-Decides}}, specs.{Prelude.{if◌then◌else◌, map, IfSome}, List.AllByRecursion, Option.{is_none, is_some}, Str.bytes_eq}}
use Rattle.desk_memory.{specs.{DeviceState.is_new, Entry.{Entry, Home, Note, entry_at, home_of, is_replaced, last_in, with_entries, with_entry}, Moving.{with_arrivals, entries_on_arrival, at_home, with_departure, entries_of, gone_to, is_here, is_needed, moved_lines, with_gone}}, proofs.Noted.last_named}
use Rattle.verifier_desk.{specs.{DeskLine.{DeskLine, TooLong, Silent, Foreign, Own, desk_line_of, DeviceLine}, DeviceKey.key_named, Law.judged_lines, Noted.{entries_after, note_at, noted_of, with_noted}, Replies.{DeskFields, lines_said, state_at}, Run.Run}, proofs.Remembered.{IsKnown, line_known, memory_has_states}}
use Rattle.many_desks.{specs.{Act.{Act, Adopts, IsAllowed, IsMove, MayServe, Sends, Serves, WasMoved, World, desk_of, entries_by, world_after}, Possible.IsPrintedAgain}, proofs.{Adopted.{last_has, last_of_own, more_last, or_else, says_of_none}, KeyPairs.both, Placed.{departed_last, none_gone}, Through.home_through, Worlds.{changed_memory, other_memory, same_or_other}}}
use Rattle.report_text.proofs.ReportWords.{other_bytes}
use Rattle.many_desks.proofs.law.move_is_printed_again.Goals as goal

-- the lines go by the device's own entries
own_lines_same : (name : List ℕ) (entries other : List Entry)
    → entries_of name entries ≡ entries_of name other
    → moved_lines name entries ≡ moved_lines name other
own_lines_same name entries other same =
    let last : last_in entries name ≡ last_in other name =
    sym (last_of_own name entries) ∙ ap (λ (some : List Entry). last_in some name) same
    ∙ last_of_own name other in
    λ i. map (at_home (home_of (last i))) (same i)

-- which an entry of another device leaves
other_noted : (entries : List Entry) (new : Entry) (name : List ℕ) → (new.name ≡ name → ⊥)
    → entries_of name (with_entry entries new) ≡ entries_of name entries
other_noted [] new name apart = rw (other_bytes new.name name apart) refl
other_noted (entry ∷ later) new name apart = elim (cases_Bool (is_replaced entry later new)) [
  | inl same ↦
      let parts = both (bytes_eq entry.name new.name) (bytes_eq entry.mark new.mark)
      (not (is_some (last_in later new.name))) same in
      let own : entry.name ≡ new.name = (bytes_eq-Decides entry.name new.name).0 parts.0 in
      rw (
        same,
        other_bytes new.name name apart,
        other_bytes entry.name name (λ is. apart (sym own ∙ is)),
      ) refl
  | inr other ↦ elim (cases_Bool (bytes_eq entry.name name)) [
    | inl hit ↦ rw (other, hit)
        (ap (λ (some : List Entry). entry ∷ some) (other_noted later new name apart))
    | inr miss ↦ rw (other, miss) (other_noted later new name apart)
  ]
]

-- a run in which the device is not served
not_noted : (desk : DeskFields) (entries : List Entry) (said : DeskLine)
    (lines : List ℕ → List DeviceLine) (name : List ℕ)
    → IsKnown desk.devices said → key_named name desk.devices ≡ None
    → entries_of name (with_noted (noted_of desk lines said) entries) ≡ entries_of name entries
not_noted desk entries TooLong lines name known none = refl
not_noted desk entries Silent lines name known none = refl
not_noted desk entries Foreign lines name known none = refl
not_noted desk entries (Own device line) lines name known none =
    by_new (is_new line.number (state_at desk device (lines device.name)).last)
  where
    note : Note
    note = note_at desk device (line ∷ lines device.name)

    by_new : (new : Bool)
        → entries_of name (with_noted (if new then Some note else None) entries)
        ≡ entries_of name entries
    by_new false = refl
    by_new true =
        other_noted entries (entry_at (home_of (last_in entries note.name)) note) name
        (λ own.
        let known = sym (ap (λ (one : List ℕ). key_named one desk.devices) own) ∙ known in
        let never = sym none ∙ known in cc never)

unserved_keeps : (desk : DeskFields) (lines : List (List ℕ)) (name : List ℕ)
    → key_named name desk.devices ≡ None
    → entries_of name (entries_after desk lines) ≡ entries_of name desk.entries
unserved_keeps desk [] name none = refl
unserved_keeps desk (line ∷ earlier) name none =
    not_noted desk (entries_after desk earlier) (desk_line_of desk.devices line)
    (lines_said desk earlier) name (line_known desk.devices line) none
    ∙ unserved_keeps desk earlier name none

none_of : (gone : Option (List ℕ)) → is_none gone ≡ true → gone ≡ None
none_of None none = refl
none_of (Some desk) none = absurd (cc none)

gone_is_unserved : (world : World) (desk : List ℕ) (run : Run) (name target : List ℕ)
    (last : Entry)
    → MayServe world desk run
    → last_in (entries_after run.desk run.lines) name ≡ Some last
    → last.home.gone ≡ Some target
    → key_named name run.desk.devices ≡ None
gone_is_unserved world desk run name target last may is gone =
    by_key (key_named name run.desk.devices) refl
  where
    home : last.home ≡ home_of (last_in run.desk.entries name)
    home =
        ap home_of (sym is ∙ memory_has_states run.desk run.lines name)
        ∙ home_through name (last_in run.desk.entries name)
        (judged_lines run.desk name run.lines)

    still : (entry : Option Entry) → IfSome entry (λ one. is_here one ≡ true)
        → (home_of entry).gone ≡ None
    still None here = refl
    still (Some entry) here = none_of entry.home.gone here

    by_key : (key : Option (List ℕ)) → key_named name run.desk.devices ≡ key
        → key_named name run.desk.devices ≡ None
    by_key None known = known
    by_key (Some key) known =
        let never = sym gone ∙ ap (λ (one : Home). one.gone) home
        ∙ still (last_in run.desk.entries name)
        (none_gone run.desk.entries 0 run.desk.devices name key may.here known) in
        absurd (cc never)

-- lines by which it does not come
all_here : (entries lines : List Entry)
    → AllByRecursion (λ (entry : Entry). is_here entry ≡ true) (entries_on_arrival entries lines)
all_here entries [] = tt
all_here entries (line ∷ later) = elim (cases_Bool (is_needed entries line later)) [
  | inl needed ↦ rw needed (refl, all_here entries later)
  | inr left ↦ rw left (all_here entries later)
]

more_kept : (entries news : List Entry) (name : List ℕ)
    → AllByRecursion (λ (entry : Entry). entry.name ≡ name → true ≡ false) news
    → entries_of name (with_entries entries news) ≡ entries_of name entries
more_kept entries [] name none = refl
more_kept entries (new ∷ more) name none =
    more_kept (with_entry entries new) more name none.1
    ∙ other_noted entries new name (λ own. true≢false (none.0 own))

gone_is_kept : (entries lines : List Entry) (name target : List ℕ) (last : Entry)
    → last_in (with_arrivals entries lines) name ≡ Some last → last.home.gone ≡ Some target
    → entries_of name (with_arrivals entries lines) ≡ entries_of name entries
gone_is_kept entries lines name target last is gone =
    by_last (last_in (entries_on_arrival entries lines) name) refl
  where
    by_last : (new : Option Entry) → last_in (entries_on_arrival entries lines) name ≡ new
        → entries_of name (with_arrivals entries lines) ≡ entries_of name entries
    by_last None none =
        more_kept entries (entries_on_arrival entries lines) name
        (says_of_none name (λ entry. true) false (entries_on_arrival entries lines) none)
    by_last (Some new) some =
        let whole : last_in (with_arrivals entries lines) name ≡ Some new =
        more_last entries (entries_on_arrival entries lines) name
        ∙ ap (λ (one : Option Entry). or_else one (last_in entries name)) some in
        let here : is_here new ≡ true =
        last_has (λ (entry : Entry). is_here entry ≡ true)
        (entries_on_arrival entries lines) name new
        (All-from_recursion (λ (entry : Entry). is_here entry ≡ true)
        (entries_on_arrival entries lines)
        (all_here entries lines)) some in
        let same : new ≡ last = same_Some new last (sym whole ∙ is) in
        let never = sym gone ∙ ap (λ (entry : Entry). entry.home.gone) (sym same)
        ∙ none_of new.home.gone here in
        absurd (cc never)

-- an act after which it is gone has made the move, or left its entries
act_keeps : (start : World) (act : Act) (earlier : List Act) (name target : List ℕ) (last : Entry)
    → IsAllowed start earlier act
    → last_in (entries_by act (world_after start earlier (desk_of act))) name ≡ Some last
    → last.home.gone ≡ Some target
    → IsMove (world_after start earlier) act name target
    (moved_lines name (entries_by act (world_after start earlier (desk_of act))))
    ⊎ (entries_of name (entries_by act (world_after start earlier (desk_of act)))
    ≡ entries_of name (world_after start earlier (desk_of act)))
act_keeps start (Serves desk run) earlier name target last may is gone =
    inr (unserved_keeps run.desk run.lines name
    (gone_is_unserved (world_after start earlier) desk run name target last may is gone)
    ∙ ap (entries_of name) may.begun)
act_keeps start (Adopts desk lines) earlier name target last may is gone =
    inr (gone_is_kept (world_after start earlier desk) lines name target last is gone)
act_keeps start (Sends desk device to) earlier name target last may is gone =
    by_last (last_in entries device) refl
  where
    entries : List Entry
    entries = world_after start earlier desk

    same_home : (one other : Entry) → Some one ≡ Some other → one.home.gone ≡ other.home.gone
    same_home one other same =
        let equal : one ≡ other = cc same in ap (λ (entry : Entry). entry.home.gone) equal

    same_some : (one other : List ℕ) → Some one ≡ Some other → one ≡ other
    same_some one other same = cc same

    by_last : (sent : Option Entry) → last_in entries device ≡ sent
        → IsMove (world_after start earlier) (Sends desk device to) name target
        (moved_lines name (with_departure device to entries))
        ⊎ (entries_of name (with_departure device to entries) ≡ entries_of name entries)
    by_last None none = inr (ap (λ (one : Option Entry).
        entries_of name (with_gone to entries one)) none)
    by_last (Some sent) some = elim (same_or_other device name) [
      | inl same ↦
          let own : last_in (with_departure device to entries) name ≡ Some (gone_to to sent) =
          ap (last_in (with_departure device to entries)) (sym same)
          ∙ departed_last entries device to sent some in
          inl (
            same,
            same_some to target (same_home (gone_to to sent) last (sym own ∙ is) ∙ gone),
            ap (λ (one : List ℕ). moved_lines one (with_departure device to entries)) (sym same),
          )
      | inr apart ↦
          inr (ap (λ (one : Option Entry). entries_of name (with_gone to entries one)) some
          ∙ other_noted entries (gone_to to sent) name
          (λ own. apart (sym (last_named entries device sent some) ∙ own)))
    ]

-- so it goes on
printed_on : (start : World) (act : Act) (earlier : List Act) (name source target : List ℕ)
    → moved_lines name (world_after start (act ∷ earlier) source)
    ≡ moved_lines name (world_after start earlier source)
    → (WasMoved start earlier name target (moved_lines name (world_after start earlier source))
    ⊎ (moved_lines name (world_after start earlier source) ≡ moved_lines name (start source)))
    → WasMoved start (act ∷ earlier) name target
    (moved_lines name (world_after start (act ∷ earlier) source))
    ⊎ (moved_lines name (world_after start (act ∷ earlier) source)
    ≡ moved_lines name (start source))
printed_on start act earlier name source target same (inl was) =
    inl (subst (WasMoved start (act ∷ earlier) name target) (sym same) (inr was))
printed_on start act earlier name source target same (inr first) = inr (same ∙ first)

abbrev WasPrinted : World → List Act → List ℕ → List ℕ → List ℕ → Type 0
WasPrinted start acts name source target =
    WasMoved start acts name target (moved_lines name (world_after start acts source))
    ⊎ (moved_lines name (world_after start acts source) ≡ moved_lines name (start source))

printed_there : (start : World) (act : Act) (earlier : List Act) (name target : List ℕ)
    (last : Entry)
    → IsAllowed start earlier act
    → last_in (world_after start (act ∷ earlier) (desk_of act)) name ≡ Some last
    → last.home.gone ≡ Some target
    → (last_in (world_after start earlier (desk_of act)) name ≡ Some last
    → WasPrinted start earlier name (desk_of act) target)
    → WasPrinted start (act ∷ earlier) name (desk_of act) target
printed_there start act earlier name target last may is gone before_it =
    let before : List Entry = world_after start earlier (desk_of act) in
    let after : List Entry = entries_by act before in
    let there : world_after start (act ∷ earlier) (desk_of act) ≡ after =
    changed_memory (world_after start earlier) (desk_of act) after in
    let own : last_in after name ≡ Some last =
    ap (λ (entries : List Entry). last_in entries name) (sym there) ∙ is in
    elim (act_keeps start act earlier name target last may own gone) [
      | inl move ↦ inl (subst (WasMoved start (act ∷ earlier) name target)
          (ap (moved_lines name) (sym there)) (inl move))
      | inr kept ↦
          printed_on start act earlier name (desk_of act) target
          (ap (moved_lines name) there ∙ own_lines_same name after before kept)
          (before_it (sym (last_of_own name before)
          ∙ ap (λ (some : List Entry). last_in some name) (sym kept)
          ∙ last_of_own name after ∙ own))
    ]

move_is_printed_again : IsPrintedAgain
move_is_printed_again start [] name source target last allowed is gone = inr refl
move_is_printed_again start (act ∷ earlier) name source target last allowed is gone =
    elim (same_or_other (desk_of act) source) [
      | inl same ↦ subst (λ (one : List ℕ).
          last_in (world_after start (act ∷ earlier) one) name ≡ Some last
          → WasPrinted start (act ∷ earlier) name one target) same
          (λ there. printed_there start act earlier name target last allowed.0 there gone
          (λ before. move_is_printed_again start earlier name (desk_of act) target last allowed.1
          before gone)) is
      | inr apart ↦
          let same : world_after start (act ∷ earlier) source ≡ world_after start earlier source =
          other_memory (world_after start earlier) (desk_of act)
          (entries_by act (world_after start earlier (desk_of act))) source apart in
          printed_on start act earlier name source target (ap (moved_lines name) same)
          (move_is_printed_again start earlier name source target last allowed.1
          (ap (λ (entries : List Entry). last_in entries name) (sym same) ∙ is) gone)
    ]

pub returns : goal.returns
returns c = move_is_printed_again
