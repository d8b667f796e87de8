-- No key is served under two names by all desks together.
use Rattle.std.{proofs.Common.{◌≡◌, ◌∙◌, ℕ, List, [], ◌∷◌, Bool, true, false, Option, Some, None, refl, sym, subst, inl, inr}, specs.Prelude.if◌then◌else◌}
use Rattle.desk_memory.specs.{DeviceState.is_new, Entry.{Entry, Note, entry_at, home_of, last_in, owner_in, with_entry}, Moving.{with_departure, entries_of}}
use Rattle.verifier_desk.{specs.{DeskLine.{DeskLine, TooLong, Silent, Foreign, Own, desk_line_of, DeviceLine}, KeyOwner.{IsFreeFor, KeysStandApart}, Noted.{entries_after, note_at, noted_of, with_noted}, Replies.{DeskFields, lines_said, state_at}, Run.Run}, proofs.{KeyOwners.{key_is_free, keys_are_kept, served_owns}, Remembered.{IsKnown, line_known}}}
use Rattle.many_desks.{specs.{Act.{Act, Adopts, AreAllowed, IsAllowed, IsMove, MayAdopt, MayServe, Sends, Serves, WasMoved, World, desk_of, entries_by, world_after}, Keys.{NoKeyHasTwoNames, KeysAreSound, StandsUnder, WasServed}}, proofs.{KeyPairs.{owner_stands, stands_adopted, stands_departed, stands_own, stands_still, stood_adopted, stood_departed, stood_moved, stood_or_added, unowned}, Worlds.{changed_memory, other_memory, same_or_other}}}

-- a memory in which no key stands under two names
abbrev IsSound : List Entry → Type 0
IsSound entries =
    (mark one other : List ℕ) → StandsUnder entries mark one → StandsUnder entries mark other
    → one ≡ other

-- what a desk notes
noted_stands : (noted : Option Note) (entries : List Entry) (mark name : List ℕ)
    → StandsUnder entries mark name → StandsUnder (with_noted noted entries) mark name
noted_stands None entries mark name stands = stands
noted_stands (Some note) entries mark name stands =
    stands_still entries (entry_at (home_of (last_in entries note.name)) note) mark name stands

stands_after : (desk : DeskFields) (lines : List (List ℕ)) (mark name : List ℕ)
    → StandsUnder desk.entries mark name → StandsUnder (entries_after desk lines) mark name
stands_after desk [] mark name stands = stands
stands_after desk (line ∷ earlier) mark name stands =
    noted_stands (noted_of desk (lines_said desk earlier) (desk_line_of desk.devices line))
    (entries_after desk earlier) mark name (stands_after desk earlier mark name stands)

free_stands : (entries : List Entry) (mark name other : List ℕ) (owner : Option (List ℕ))
    → owner_in entries mark ≡ owner → IsSound entries → IsFreeFor name owner
    → StandsUnder entries mark other → name ≡ other
free_stands entries mark name other None is sound free stands =
    absurd (unowned entries mark other is stands)
free_stands entries mark name other (Some owner) is sound free stands =
    sym free ∙ sound mark owner other (owner_stands entries mark owner is) stands

noted_sound : (entries : List Entry) (new : Entry) → IsSound entries
    → IsFreeFor new.name (owner_in entries new.mark)
    → IsSound (with_entry entries new)
noted_sound entries new sound free mark one other stands too =
    elim (stood_or_added entries new mark one stands) [
      | inl stood ↦ elim (stood_or_added entries new mark other too) [
        | inl stood_too ↦ sound mark one other stood stood_too
        | inr own_too ↦ sym (is_own one other own_too stood)
      ]
      | inr own ↦ elim (stood_or_added entries new mark other too) [
        | inl stood_too ↦ is_own other one own stood_too
        | inr own_too ↦ sym own.1 ∙ own_too.1
      ]
    ]
  where
    is_own : (found name : List ℕ) → (new.mark ≡ mark) × (new.name ≡ name)
        → StandsUnder entries mark found → name ≡ found
    is_own found name own stood =
        sym own.1
        ∙ free_stands entries new.mark new.name found (owner_in entries new.mark) refl sound free
        (subst (λ (some : List ℕ). StandsUnder entries some found) (sym own.0) stood)

note_sound : (desk : DeskFields) (entries : List Entry) (said : DeskLine)
    (lines : List ℕ → List DeviceLine)
    → IsKnown desk.devices said → KeysStandApart desk.digest desk.devices entries
    → IsSound entries → IsSound (with_noted (noted_of desk lines said) entries)
note_sound desk entries TooLong lines known apart sound = sound
note_sound desk entries Silent lines known apart sound = sound
note_sound desk entries Foreign lines known apart sound = sound
note_sound desk entries (Own device line) lines known apart sound =
    by_new (is_new line.number (state_at desk device (lines device.name)).last)
  where
    note : Note
    note = note_at desk device (line ∷ lines device.name)

    by_new : (new : Bool) → IsSound (with_noted (if new then Some note else None) entries)
    by_new false = sound
    by_new true =
        noted_sound entries (entry_at (home_of (last_in entries note.name)) note) sound
        (key_is_free desk entries device known apart)

sound_after : (desk : DeskFields) (lines : List (List ℕ))
    → KeysStandApart desk.digest desk.devices desk.entries → IsSound desk.entries
    → IsSound (entries_after desk lines)
sound_after desk [] apart sound = sound
sound_after desk (line ∷ earlier) apart sound =
    note_sound desk (entries_after desk earlier) (desk_line_of desk.devices line)
    (lines_said desk earlier) (line_known desk.devices line)
    (keys_are_kept desk earlier apart).apart (sound_after desk earlier apart sound)

-- some memory puts a key under a name
abbrev Knows : World → List ℕ → List ℕ → Type 0
Knows world mark name = (desk : List ℕ) × StandsUnder (world desk) mark name

-- an act takes no key from its name
entries_keep : (start : World) (act : Act) (earlier : List Act) (mark name : List ℕ)
    → IsAllowed start earlier act
    → StandsUnder (world_after start earlier (desk_of act)) mark name
    → StandsUnder (entries_by act (world_after start earlier (desk_of act))) mark name
entries_keep start (Serves desk run) earlier mark name may stands =
    stands_after run.desk run.lines mark name
    (subst (λ (entries : List Entry). StandsUnder entries mark name) (sym may.begun) stands)
entries_keep start (Sends desk device target) earlier mark name may stands =
    stands_departed device target (world_after start earlier desk) mark name stands
entries_keep start (Adopts desk lines) earlier mark name may stands =
    stands_adopted (world_after start earlier desk) lines mark name stands

stands_changed : (start : World) (act : Act) (earlier : List Act) (mark name : List ℕ)
    → StandsUnder (entries_by act (world_after start earlier (desk_of act))) mark name
    → StandsUnder (world_after start (act ∷ earlier) (desk_of act)) mark name
stands_changed start act earlier mark name stands =
    subst (λ (entries : List Entry). StandsUnder entries mark name)
    (sym (changed_memory (world_after start earlier) (desk_of act)
    (entries_by act (world_after start earlier (desk_of act))))) stands

knows_on : (start : World) (act : Act) (earlier : List Act) (mark name : List ℕ)
    → IsAllowed start earlier act
    → Knows (world_after start earlier) mark name
    → Knows (world_after start (act ∷ earlier)) mark name
knows_on start act earlier mark name may knows = elim (same_or_other (desk_of act) knows.0) [
  | inl same ↦ (
    desk_of act,
    stands_changed start act earlier mark name
        (entries_keep start act earlier mark name may
        (subst (λ (desk : List ℕ). StandsUnder (world_after start earlier desk) mark name)
        (sym same) knows.1)),
  )
  | inr apart ↦ (
    knows.0,
    subst (λ (entries : List Entry). StandsUnder entries mark name)
        (sym (other_memory (world_after start earlier) (desk_of act)
        (entries_by act (world_after start earlier (desk_of act))) knows.0 apart)) knows.1,
  )
]

-- where an act adds no key that no memory knew, each key stays under its name
abbrev Known : World → List Entry → Type 0
Known world entries =
    (mark name : List ℕ) → StandsUnder entries mark name → Knows world mark name

knew : (start : World) (act : Act) (earlier : List Act)
    → Known (world_after start earlier) (entries_by act (world_after start earlier (desk_of act)))
    → (desk : List ℕ) → Known (world_after start earlier) (world_after start (act ∷ earlier) desk)
knew start act earlier known desk mark name stands = elim (same_or_other (desk_of act) desk) [
  | inl same ↦ known mark name
      (subst (λ (entries : List Entry). StandsUnder entries mark name)
      (changed_memory (world_after start earlier) (desk_of act)
      (entries_by act (world_after start earlier (desk_of act))))
      (subst (λ (one : List ℕ). StandsUnder (world_after start (act ∷ earlier) one) mark name)
      (sym same) stands))
  | inr apart ↦ (
    desk,
    subst (λ (entries : List Entry). StandsUnder entries mark name)
        (other_memory (world_after start earlier) (desk_of act)
        (entries_by act (world_after start earlier (desk_of act))) desk apart) stands,
  )
]

known_sound : (start : World) (act : Act) (earlier : List Act)
    → Known (world_after start earlier) (entries_by act (world_after start earlier (desk_of act)))
    → KeysAreSound (world_after start earlier) → KeysAreSound (world_after start (act ∷ earlier))
known_sound start act earlier known sound mark desk one desk_too other stands too =
    let before = knew start act earlier known desk mark one stands in
    let before_too = knew start act earlier known desk_too mark other too in
    sound mark before.0 one before_too.0 other before.1 before_too.1

-- a desk that serves adds none that stands under another name
run_sound : (start : World) (earlier : List Act) (desk : List ℕ) (run : Run)
    → MayServe (world_after start earlier) desk run
    → KeysAreSound (world_after start earlier)
    → KeysAreSound (world_after start (Serves desk run ∷ earlier))
run_sound start earlier desk run may sound mark one_desk one other_desk other stands too =
    elim (same_or_other desk one_desk) [
      | inl same ↦ elim (same_or_other desk other_desk) [
        | inl same_too ↦ own mark one other (here one_desk one same stands)
            (here other_desk other same_too too)
        | inr apart ↦ across one other other_desk apart (here one_desk one same stands)
            (there other_desk other apart too)
      ]
      | inr apart ↦ elim (same_or_other desk other_desk) [
        | inl same_too ↦ sym (across other one one_desk apart (here other_desk other same_too too)
            (there one_desk one apart stands))
        | inr apart_too ↦ sound mark one_desk one other_desk other
            (there one_desk one apart stands) (there other_desk other apart_too too)
      ]
    ]
  where
    world : World
    world = world_after start earlier

    after : List Entry
    after = entries_after run.desk run.lines

    own : IsSound after
    own = sound_after run.desk run.lines may.apart
        (subst IsSound (sym may.begun) (λ mark one other. sound mark desk one desk other))

    here : (place name : List ℕ) → desk ≡ place
        → StandsUnder (world_after start (Serves desk run ∷ earlier) place) mark name
        → StandsUnder after mark name
    here place name same at_place =
        subst (λ (entries : List Entry). StandsUnder entries mark name)
        (changed_memory world desk after)
        (subst (λ (some : List ℕ).
        StandsUnder (world_after start (Serves desk run ∷ earlier) some) mark name) (sym same)
        at_place)

    there : (place name : List ℕ) → (desk ≡ place → ⊥)
        → StandsUnder (world_after start (Serves desk run ∷ earlier) place) mark name
        → StandsUnder (world place) mark name
    there place name apart at_place =
        subst (λ (entries : List Entry). StandsUnder entries mark name)
        (other_memory world desk after place apart) at_place

    by_owner : (owner : Option (List ℕ)) → owner_in run.desk.entries mark ≡ owner
        → (found lies place : List ℕ) → (desk ≡ place → ⊥)
        → StandsUnder after mark found → StandsUnder (world place) mark lies → found ≡ lies
    by_owner None is found lies place apart stands_here stands_there =
        absurd (unowned (world place) mark lies
        (may.keys mark place apart
        (is, λ none. unowned after mark found none stands_here)) stands_there)
    by_owner (Some owner) is found lies place apart stands_here stands_there =
        let owned : StandsUnder run.desk.entries mark owner =
        owner_stands run.desk.entries mark owner is in
        own mark found owner stands_here (stands_after run.desk run.lines mark owner owned)
        ∙ sound mark desk owner place lies
        (subst (λ (entries : List Entry). StandsUnder entries mark owner) may.begun owned)
        stands_there

    across : (found lies place : List ℕ) → (desk ≡ place → ⊥)
        → StandsUnder after mark found → StandsUnder (world place) mark lies → found ≡ lies
    across found lies place apart stands_here stands_there =
        by_owner (owner_in run.desk.entries mark) refl found lies place apart stands_here
        stands_there

-- the lines of moves have keys that are known
move_known : (start : World) (act : Act) (earlier : List Act) (name desk : List ℕ)
    (lines : List Entry) → IsMove (world_after start earlier) act name desk lines
    → Known (world_after start (act ∷ earlier)) lines
move_known start (Serves at run) earlier name desk lines move mark owner stands = absurd move
move_known start (Adopts at adopted) earlier name desk lines move mark owner stands = absurd move
move_known start (Sends source device target) earlier name desk lines move mark owner stands = (
  source,
  stands_changed start (Sends source device target) earlier mark owner
      (stood_moved device (with_departure device target (world_after start earlier source)) mark
      owner
      (subst (λ (some : List Entry). StandsUnder some mark owner) move.2 stands)),
)

moves_known : (start : World) (acts : List Act) (name desk : List ℕ) (lines : List Entry)
    → AreAllowed start acts → WasMoved start acts name desk lines
    → Known (world_after start acts) lines
moves_known start [] name desk lines allowed was mark owner stands = absurd was
moves_known start (act ∷ earlier) name desk lines allowed (inl move) mark owner stands =
    move_known start act earlier name desk lines move mark owner stands
moves_known start (act ∷ earlier) name desk lines allowed (inr was) mark owner stands =
    knows_on start act earlier mark owner allowed.0
    (moves_known start earlier name desk lines allowed.1 was mark owner stands)

adopted_known : (start : World) (earlier : List Act) (desk : List ℕ) (lines : List Entry)
    → MayAdopt start earlier desk lines → AreAllowed start earlier
    → Known (world_after start earlier)
    (entries_by (Adopts desk lines) (world_after start earlier desk))
adopted_known start earlier desk lines may allowed mark name stands =
    elim (stood_adopted (world_after start earlier desk) lines mark name stands) [
      | inl stood ↦ (desk, stood)
      | inr line ↦ elim (may.moved name) [
        | inl none ↦ absurd (subst (λ (some : List Entry). StandsUnder some mark name) none
            (stands_own lines mark name line))
        | inr was ↦ moves_known start earlier name desk (entries_of name lines) allowed was mark
            name (stands_own lines mark name line)
      ]
    ]

pub keys_are_sound : (start : World) (acts : List Act) → KeysAreSound start → AreAllowed start acts
    → KeysAreSound (world_after start acts)
keys_are_sound start [] sound allowed = sound
keys_are_sound start (Serves desk run ∷ earlier) sound allowed =
    run_sound start earlier desk run allowed.0 (keys_are_sound start earlier sound allowed.1)
keys_are_sound start (Sends desk device target ∷ earlier) sound allowed =
    known_sound start (Sends desk device target) earlier
    (λ mark name stands. (
      desk,
      stood_departed device target (world_after start earlier desk) mark name stands,
    ))
    (keys_are_sound start earlier sound allowed.1)
keys_are_sound start (Adopts desk lines ∷ earlier) sound allowed =
    known_sound start (Adopts desk lines) earlier
    (adopted_known start earlier desk lines allowed.0 allowed.1)
    (keys_are_sound start earlier sound allowed.1)

-- a key that was served is known under its name
served_known : (start : World) (acts : List Act) (mark name : List ℕ)
    → AreAllowed start acts → WasServed acts name mark
    → Knows (world_after start acts) mark name
served_known start [] mark name allowed served = absurd served
served_known start (Serves desk run ∷ earlier) mark name allowed (inl served) = (
  desk,
  stands_changed start (Serves desk run) earlier mark name
      (owner_stands (entries_after run.desk run.lines) mark name
      (served_owns run name mark allowed.0.apart served)),
)
served_known start (Sends desk device target ∷ earlier) mark name allowed (inl served) =
    absurd served
served_known start (Adopts desk lines ∷ earlier) mark name allowed (inl served) = absurd served
served_known start (act ∷ earlier) mark name allowed (inr served) =
    knows_on start act earlier mark name allowed.0
    (served_known start earlier mark name allowed.1 served)

pub key_is_under_one_name : NoKeyHasTwoNames
key_is_under_one_name start acts mark one other sound allowed served too =
    let known = served_known start acts mark one allowed served in
    let known_too = served_known start acts mark other allowed too in
    keys_are_sound start acts sound allowed mark known.0 one known_too.0 other known.1 known_too.1
