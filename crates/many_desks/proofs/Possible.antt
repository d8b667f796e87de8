-- What may be done.
use Rattle.std.{proofs.{Common.{◌≡◌, ◌∙◌, ◌⊎◌, ◌+◌, ℕ, List, [], ◌∷◌, Bool, true, false, Option, Some, None, refl, sym, ap, subst, inl, inr, arith}, lemmas.{Bool.{cases_Bool, Decides.nat_tests}, List.Elements.All-from_recursion, Slice.Eq.bytes_eq-Decides}}, specs.{Prelude.{if◌then◌else◌, map, nat_lt}, List.AllByRecursion, Str.bytes_eq}}
use Rattle.desk_memory.specs.{DeviceState.is_new, Entry.{Entry, Home, Note, entry_at, home_of, last_in, owner_in}, Moving.{adoption_fault, at_home, with_departure, entries_of, gone_to, has_here, is_behind, is_desk, is_gone_to, is_of_other, moved_lines}}
use Rattle.verifier_desk.{specs.{DeskLine.{DeskLine, TooLong, Silent, Foreign, Own, desk_line_of, DeviceLine}, DeviceKey.{DeviceKey, key_named}, Judged.entry_through, Law.judged_at, Noted.{entries_after, note_at, noted_of, with_noted}, Replies.{DeskFields, lines_said, mark_at, own_lines, state_at}}, proofs.Remembered.{IsKnown, line_known, memory_has_states}}
use Rattle.many_desks.{specs.{Act.{IsLearned, MayAdopt, Sends, World, world_after}, Keys.StandsUnder, Law.entry_of_one, Possible.{MayFollow, MayServeAll}}, proofs.{KeyPairs.{owner_stands, stood_or_added, unowned}, OneName.keys_are_sound, Placed.{MovedTo, departed_last, placed, view_of}, Token.{IsBehind, others_behind}, Worlds.{changed_memory, other_memory, same_bytes, same_or_other}}}
use Rattle.report_text.proofs.ReportWords.{other_bytes}

-- a key that is noted is that of a device of the desk
record IsOfDevice (desk : DeskFields) (mark : List ℕ) : Type 0 where
  device : DeviceKey
  known : key_named device.name desk.devices ≡ Some device.key
  marked : mark_at desk device ≡ mark

noted_key : (desk : DeskFields) (entries : List Entry) (said : DeskLine)
    (lines : List ℕ → List DeviceLine) (mark name : List ℕ)
    → IsKnown desk.devices said
    → StandsUnder (with_noted (noted_of desk lines said) entries) mark name
    → StandsUnder entries mark name ⊎ IsOfDevice desk mark
noted_key desk entries TooLong lines mark name known stands = inl stands
noted_key desk entries Silent lines mark name known stands = inl stands
noted_key desk entries Foreign lines mark name known stands = inl stands
noted_key desk entries (Own device line) lines mark name known stands =
    by_new (is_new line.number (state_at desk device (lines device.name)).last) stands
  where
    note : Note
    note = note_at desk device (line ∷ lines device.name)

    by_new : (new : Bool)
        → StandsUnder (with_noted (if new then Some note else None) entries) mark name
        → StandsUnder entries mark name ⊎ IsOfDevice desk mark
    by_new false stands = inl stands
    by_new true stands =
        elim (stood_or_added entries (entry_at (home_of (last_in entries note.name)) note) mark name
        stands) [
          | inl stood ↦ inl stood
          | inr own ↦ inr (record { device = device; known = known; marked = own.0 })
        ]

key_after : (desk : DeskFields) (lines : List (List ℕ)) (mark name : List ℕ)
    → StandsUnder (entries_after desk lines) mark name
    → StandsUnder desk.entries mark name ⊎ IsOfDevice desk mark
key_after desk [] mark name stands = inl stands
key_after desk (line ∷ earlier) mark name stands =
    elim (noted_key desk (entries_after desk earlier) (desk_line_of desk.devices line)
    (lines_said desk earlier) mark name (line_known desk.devices line) stands) [
      | inl stood ↦ key_after desk earlier mark name stood
      | inr own ↦ inr own
    ]

key_learned : (desk : DeskFields) (lines : List (List ℕ)) (mark : List ℕ)
    → IsLearned (owner_in desk.entries mark) (owner_in (entries_after desk lines) mark)
    → IsOfDevice desk mark
key_learned desk lines mark learned =
    by_owner (owner_in (entries_after desk lines) mark) refl
  where
    by_owner : (owner : Option (List ℕ)) → owner_in (entries_after desk lines) mark ≡ owner
        → IsOfDevice desk mark
    by_owner None is = absurd (learned.1 is)
    by_owner (Some owner) is =
        elim (key_after desk lines mark owner
        (owner_stands (entries_after desk lines) mark owner is)) [
          | inl stood ↦ absurd (unowned desk.entries mark owner learned.0 stood)
          | inr own ↦ own
        ]

device_learned : (desk : DeskFields) (lines : List (List ℕ)) (name : List ℕ)
    (key : Option (List ℕ))
    → key_named name desk.devices ≡ key
    → IsLearned (last_in desk.entries name) (last_in (entries_after desk lines) name)
    → key ≡ None → ⊥
device_learned desk lines name key is learned none =
    learned.1 (memory_has_states desk lines name
    ∙ ap (λ (one : Option (List ℕ)). entry_through name (last_in desk.entries name)
    (judged_at desk name one (own_lines desk.devices name lines))) (is ∙ none)
    ∙ learned.0)

pub desk_may_serve : MayServeAll
desk_may_serve world desk run begun apart here introduced =
    record {
      begun = begun;
      apart = apart;
      here = here;
      devices = λ name other away learned.
          by_key name other away learned (key_named name run.desk.devices) refl;
      keys = λ mark other away learned.
          let own : IsOfDevice run.desk mark = key_learned run.desk run.lines mark learned in
          let none : owner_in (world desk) mark ≡ None =
          ap (λ (entries : List Entry). owner_in entries mark) (sym begun) ∙ learned.0 in
          subst (λ (one : List ℕ). owner_in (world desk) one ≡ None
          → owner_in (world other) one ≡ None)
          own.marked ((introduced own.device own.known).key other away) none;
    }
  where
    by_key : (name other : List ℕ) → (desk ≡ other → ⊥)
        → IsLearned (last_in run.desk.entries name)
        (last_in (entries_after run.desk run.lines) name)
        → (key : Option (List ℕ)) → key_named name run.desk.devices ≡ key
        → last_in (world other) name ≡ None
    by_key name other away learned None is =
        absurd (device_learned run.desk run.lines name None is learned refl)
    by_key name other away learned (Some key) is =
        (introduced (record { name = name; key = key }) is).device other away
        (ap (λ (entries : List Entry). last_in entries name) (sym begun) ∙ learned.0)

-- each line by which a device moves
moved_all : (P : Entry → Type 0) (name : List ℕ) (home : Home) (entries : List Entry)
    → ((entry : Entry) → entry.name ≡ name → StandsUnder entries entry.mark name
    → P (at_home home entry))
    → AllByRecursion P (map (at_home home) (entries_of name entries))
moved_all P name home [] each = tt
moved_all P name home (entry ∷ later) each = elim (cases_Bool (bytes_eq entry.name name)) [
  | inl hit ↦
      let named : entry.name ≡ name = (bytes_eq-Decides entry.name name).0 hit in
      rw hit (
        each entry named (inl (refl, named)),
        moved_all P name home later (λ one own stands. each one own (inr stands)),
      )
  | inr miss ↦ rw miss
      (moved_all P name home later (λ one own stands. each one own (inr stands)))
]

-- all of them are of the device
all_own : (name : List ℕ) (lines : List Entry)
    → AllByRecursion (λ (line : Entry). line.name ≡ name) lines
    → entries_of name lines ≡ lines
all_own name [] own = refl
all_own name (line ∷ later) own =
    rw (same_bytes line.name name own.0, all_own name later own.1) refl

none_own : (name other : List ℕ) (lines : List Entry) → (name ≡ other → ⊥)
    → AllByRecursion (λ (line : Entry). line.name ≡ name) lines
    → entries_of other lines ≡ []
none_own name other [] apart own = refl
none_own name other (line ∷ later) apart own =
    rw (other_bytes line.name other (λ same. apart (sym own.0 ∙ same)))
    (none_own name other later apart own.1)

-- none has a fault where the device has not been since
no_fault : (desk : List ℕ) (entries : List Entry) (line : Entry)
    → is_gone_to desk line ≡ true
    → is_of_other line.name (owner_in entries line.mark) ≡ false
    → is_behind line (last_in entries line.name) ≡ false
    → adoption_fault desk entries line ≡ None
no_fault desk entries line gone own in_time = rw (gone, own, in_time) refl

not_of_other : (entries : List Entry) (mark name : List ℕ)
    → ((owner : List ℕ) → StandsUnder entries mark owner → owner ≡ name)
    → is_of_other name (owner_in entries mark) ≡ false
not_of_other entries mark name same = by_owner (owner_in entries mark) refl
  where
    by_owner : (owner : Option (List ℕ)) → owner_in entries mark ≡ owner
        → is_of_other name owner ≡ false
    by_owner None is = refl
    by_owner (Some owner) is =
        rw (same_bytes owner name (same owner (owner_stands entries mark owner is))) refl

in_time : (moves : ℕ) (line : Entry) (last : Option Entry) → IsBehind moves last
    → line.home.moves ≡ moves + 1
    → is_behind line last ≡ false
in_time moves line None behind next = refl
in_time moves line (Some last) behind next =
    let few = behind.1 in
    let less : nat_lt last.home.moves line.home.moves ≡ true =
    grind (arith, nat_tests, few, next) in
    rw (behind.0, less) refl

pub sent_device_may_follow : MayFollow
sent_device_may_follow start earlier home name source target so sound allowed apart =
    by_last (last_in (world source) name) refl
  where
    world : World
    world = world_after start earlier

    entries : List Entry
    entries = with_departure name target (world source)

    after : World
    after = world_after start (Sends source name target ∷ earlier)

    lines : List Entry
    lines = moved_lines name entries

    by_last : (last : Option Entry) → last_in (world source) name ≡ last
        → MayAdopt start (Sends source name target ∷ earlier) target lines
    by_last None is = let known = sym allowed.0 ∙ ap has_here is in absurd (cc known)
    by_last (Some last) is =
        record {
          faultless = All-from_recursion
              (λ (line : Entry). adoption_fault target (after target) line ≡ None) lines
              (moved_all (λ (line : Entry). adoption_fault target (after target) line ≡ None) name
              (home_of (last_in entries name)) entries each);
          moved = λ other. elim (same_or_other name other) [
            | inl same ↦ inr (inl (
              same,
              refl,
              subst (λ (one : List ℕ). entries_of one lines ≡ lines) same
                  (all_own name lines named),
            ))
            | inr away ↦ inl (none_own name other lines away named)
          ];
        }
      where
        gone : last_in entries name ≡ Some (gone_to target last)
        gone = departed_last (world source) name target last is

        named : AllByRecursion (λ (line : Entry). line.name ≡ name) lines
        named = moved_all (λ (line : Entry). line.name ≡ name) name
            (home_of (last_in entries name)) entries (λ entry own stands. own)

        there : after target ≡ world target
        there = other_memory world source entries target apart

        each : (entry : Entry) → entry.name ≡ name → StandsUnder entries entry.mark name
            → adoption_fault target (after target)
            (at_home (home_of (last_in entries name)) entry) ≡ None
        each entry own stands =
            no_fault target (after target) (at_home (home_of (last_in entries name)) entry)
            (ap (λ (one : Option Entry). is_desk target (home_of one).gone) gone
            ∙ same_bytes target target refl)
            (not_of_other (after target) entry.mark entry.name
            (λ owner stands_there.
            keys_are_sound start (Sends source name target ∷ earlier) sound allowed entry.mark
            target owner source name stands_there
            (subst (λ (some : List Entry). StandsUnder some entry.mark name)
            (sym (changed_memory world source entries)) stands)
            ∙ sym own))
            (in_time last.home.moves (at_home (home_of (last_in entries name)) entry)
            (last_in (after target) entry.name)
            (subst (λ (some : List Entry). IsBehind last.home.moves (last_in some entry.name))
            (sym there)
            (subst (λ (one : List ℕ). IsBehind last.home.moves (last_in (world target) one))
            (sym own)
            (others_behind (view_of world name) (MovedTo start earlier name)
            (entry_of_one start earlier home name) source target last
            (placed start earlier home name so allowed.1) is
            (sym (ap has_here is) ∙ allowed.0) apart)))
            (ap (λ (one : Option Entry). (home_of one).moves) gone))
