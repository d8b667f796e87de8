-- Where each device is after acts.
use Rattle.std.{proofs.{Common.{◌≡◌, ◌∙◌, ◌+◌, ℕ, List, [], ◌∷◌, true, false, Option, Some, None, refl, sym, ap, subst, inl, inr}, lemmas.{Bool.cases_Bool, Slice.Eq.bytes_eq-Decides}}, specs.{Prelude.{IfSome, option_map}, Option.{is_none, is_some}, Str.bytes_eq}}
use Rattle.desk_memory.{specs.{Entry.{Entry, Home, home_of, last_in}, Moving.{adoption_fault, with_departure, entries_of, gone_to, has_here, is_behind, is_here, moved_lines, with_gone}}, proofs.Noted.{entry_is_last, last_named}}
use Rattle.verifier_desk.{specs.{DeviceKey.{DeviceKey, key_named, first_gone}, Judged.{JudgedLine, entry_through}, Law.{judged_at, judged_lines}, Replies.own_lines, Run.Run}, proofs.Remembered.{entry_through-append, memory_has_states}}
use Rattle.many_desks.{specs.{Act.{Act, Adopts, AreAllowed, IsMove, MayAdopt, MayServe, Sends, Serves, WasMoved, World, desk_of, entries_by, world_after}, Law.{IsLeft, StartsAt, entry_of_one, lines_in, note_of}}, proofs.{Adopted.{AreAt, adopted_elsewhere, adopted_last, last_has, last_of_own, moved_are_alike, moved_last, not_behind}, Token.{IsBehind, IsPlaced, SpeaksRightly, View, comes, goes, serves, speaks_rightly, stays}, Worlds.{changed_memory, other_memory, same_bytes, same_or_other}}}
use Rattle.report_text.proofs.ReportWords.{other_bytes}

abbrev pub view_of : World → List ℕ → View
view_of world name desk = last_in (world desk) name

-- it was to move to a desk by lines of which this is the last
abbrev pub MovedTo : World → List Act → List ℕ → List ℕ → Entry → Type 0
MovedTo start acts name desk line =
    (lines : List Entry) × WasMoved start acts name desk lines × (last_in lines name ≡ Some line)

-- all of them have its home
move_is_alike : (world : World) (act : Act) (name desk : List ℕ) (lines : List Entry) (line : Entry)
    → IsMove world act name desk lines → last_in lines name ≡ Some line
    → AreAt line.home lines
move_is_alike world (Serves at run) name desk lines line move is = absurd move
move_is_alike world (Adopts at adopted) name desk lines line move is = absurd move
move_is_alike world (Sends source device target) name desk lines line move is =
    let entries : List Entry = with_departure device target (world source) in
    let same : lines ≡ moved_lines name entries =
    move.2 ∙ ap (λ (one : List ℕ). moved_lines one entries) move.0 in
    let home : home_of (last_in entries name) ≡ line.home =
    ap home_of
    (sym (moved_last name entries)
    ∙ ap (λ (some : List Entry). last_in some name) (sym same) ∙ is) in
    subst (λ (one : Home). AreAt one lines) home
    (subst (AreAt (home_of (last_in entries name))) (sym same) (moved_are_alike name entries))

moves_are_alike : (start : World) (acts : List Act) (name desk : List ℕ) (lines : List Entry)
    (line : Entry)
    → WasMoved start acts name desk lines → last_in lines name ≡ Some line
    → AreAt line.home lines
moves_are_alike start [] name desk lines line was is = absurd was
moves_are_alike start (act ∷ earlier) name desk lines line (inl move) is =
    move_is_alike (world_after start earlier) act name desk lines line move is
moves_are_alike start (act ∷ earlier) name desk lines line (inr was) is =
    moves_are_alike start earlier name desk lines line was is

moved_before : (start : World) (act : Act) (earlier : List Act) (name desk : List ℕ) (line : Entry)
    → MovedTo start earlier name desk line → MovedTo start (act ∷ earlier) name desk line
moved_before start act earlier name desk line moved = (moved.0, inr moved.1, moved.2)

no_new_move : (start : World) (act : Act) (earlier : List Act) (name : List ℕ)
    → ((desk : List ℕ) (lines : List Entry)
    → IsMove (world_after start earlier) act name desk lines → ⊥)
    → (desk : List ℕ) (line : Entry)
    → MovedTo start (act ∷ earlier) name desk line → MovedTo start earlier name desk line
no_new_move start act earlier name none desk line moved = elim moved.1 [
  | inl move ↦ absurd (none desk moved.0 move)
  | inr was ↦ (moved.0, was, moved.2)
]

-- the start
start_nowhere : (last : Option Entry) → IsLeft None last → last ≡ None
start_nowhere None left = refl
start_nowhere (Some other) left = absurd left

start_behind : (home : Entry) (last : Option Entry) → IsLeft (Some home) last
    → IsBehind home.home.moves last
start_behind home None left = tt
start_behind home (Some other) left = left

starts : (start : World) (home name : List ℕ) (last : Option Entry)
    → last_in (start home) name ≡ last → StartsAt start home name
    → IsPlaced (view_of start name) (MovedTo start [] name) (last_in (start home) name)
starts start home name None is so =
    inl (record {
      unknown = λ desk. elim (same_or_other home desk) [
        | inl same ↦ ap (λ (one : List ℕ). last_in (start one) name) (sym same) ∙ is
        | inr apart ↦ start_nowhere (last_in (start desk) name)
            (subst (λ (one : Option Entry). IsLeft one (last_in (start desk) name)) is
            (so.others desk apart))
      ];
      unmoved = λ desk line moved. absurd moved.1;
      none = is;
    })
starts start home name (Some last) is so =
    inr (inl (record {
      home = home;
      last = last;
      is = is;
      here = subst (λ (one : Option Entry). IfSome one (λ entry. is_here entry ≡ true)) is so.here;
      same = ap (λ (one : Option Entry). option_map note_of one) (sym is);
      others = λ desk apart. start_behind last (last_in (start desk) name)
          (subst (λ (one : Option Entry). IsLeft one (last_in (start desk) name)) is
          (so.others desk apart));
      come = λ desk line moved. absurd moved.1;
    }))

-- a memory after an act, and all others
here_after : (start : World) (act : Act) (earlier : List Act) (name : List ℕ)
    → view_of (world_after start (act ∷ earlier)) name (desk_of act)
    ≡ last_in (entries_by act (world_after start earlier (desk_of act))) name
here_after start act earlier name =
    ap (λ (entries : List Entry). last_in entries name)
    (changed_memory (world_after start earlier) (desk_of act)
    (entries_by act (world_after start earlier (desk_of act))))

there_after : (start : World) (act : Act) (earlier : List Act) (name other : List ℕ)
    → (desk_of act ≡ other → ⊥)
    → view_of (world_after start (act ∷ earlier)) name other
    ≡ view_of (world_after start earlier) name other
there_after start act earlier name other apart =
    ap (λ (entries : List Entry). last_in entries name)
    (other_memory (world_after start earlier) (desk_of act)
    (entries_by act (world_after start earlier (desk_of act))) other apart)

-- an act that leaves the last entry where it was, and makes no move
unmoved : (start : World) (act : Act) (earlier : List Act) (name : List ℕ) (known : Option Entry)
    → last_in (entries_by act (world_after start earlier (desk_of act))) name
    ≡ last_in (world_after start earlier (desk_of act)) name
    → ((desk : List ℕ) (lines : List Entry)
    → IsMove (world_after start earlier) act name desk lines → ⊥)
    → IsPlaced (view_of (world_after start earlier) name) (MovedTo start earlier name) known
    → IsPlaced (view_of (world_after start (act ∷ earlier)) name)
    (MovedTo start (act ∷ earlier) name) known
unmoved start act earlier name known same none placed =
    stays (view_of (world_after start earlier) name)
    (view_of (world_after start (act ∷ earlier)) name)
    (MovedTo start earlier name) (MovedTo start (act ∷ earlier) name) known
    (λ other. elim (same_or_other (desk_of act) other) [
      | inl this ↦ subst (λ (one : List ℕ).
          view_of (world_after start (act ∷ earlier)) name one
          ≡ view_of (world_after start earlier) name one) this
          (here_after start act earlier name ∙ same)
      | inr apart ↦ there_after start act earlier name other apart
    ])
    (no_new_move start act earlier name none) (moved_before start act earlier name) placed

-- a desk serves
pub begun_here : (world : World) (desk : List ℕ) (run : Run) (name : List ℕ)
    → MayServe world desk run
    → last_in run.desk.entries name ≡ last_in (world desk) name
begun_here world desk run name may = ap (λ (entries : List Entry). last_in entries name) may.begun

still_here : (last : Option Entry) → is_some (home_of last).gone ≡ false
    → IfSome last (λ entry. is_here entry ≡ true)
still_here None here = tt
still_here (Some last) here = none_here last.home.gone here
  where
    none_here : (gone : Option (List ℕ)) → is_some gone ≡ false → is_none gone ≡ true
    none_here None is = refl
    none_here (Some desk) is = absurd (cc is)

pub none_gone : (entries : List Entry) (place : ℕ) (devices : List DeviceKey) (name key : List ℕ)
    → first_gone entries place devices ≡ None → key_named name devices ≡ Some key
    → IfSome (last_in entries name) (λ last. is_here last ≡ true)
none_gone entries place [] name key none has = absurd (cc has)
none_gone entries place (device ∷ devices) name key none has =
    elim (cases_Bool (is_some (home_of (last_in entries device.name)).gone)) [
      | inl gone ↦ let known = rw gone at none in absurd (cc known)
      | inr here ↦ elim (cases_Bool (bytes_eq device.name name)) [
        | inl hit ↦ subst (λ (one : List ℕ).
            IfSome (last_in entries one) (λ last. is_here last ≡ true))
            ((bytes_eq-Decides device.name name).0 hit)
            (still_here (last_in entries device.name) here)
        | inr miss ↦ none_gone entries (place + 1) devices name key (rw here at none)
            (rw miss at has)
      ]
    ]

pub run_serves : (world : World) (desk : List ℕ) (run : Run) (name : List ℕ)
    (moved : List ℕ → Entry → Type 0) (known : Option Entry)
    → MayServe world desk run → IsPlaced (view_of world name) moved known
    → SpeaksRightly (view_of world name) moved known desk (judged_lines run.desk name run.lines)
run_serves world desk run name moved known may placed =
    by_key (key_named name run.desk.devices) refl
  where
    by_key : (key : Option (List ℕ)) → key_named name run.desk.devices ≡ key
        → SpeaksRightly (view_of world name) moved known desk (judged_lines run.desk name run.lines)
    by_key None is =
        inl (ap (λ (one : Option (List ℕ)).
        judged_at run.desk name one (own_lines run.desk.devices name run.lines)) is)
    by_key (Some key) is =
        let here : last_in run.desk.entries name ≡ last_in (world desk) name =
        begun_here world desk run name may in
        let lines : List JudgedLine = judged_lines run.desk name run.lines in
        speaks_rightly (view_of world name) moved known desk name lines placed
        (record {
          here = subst (λ (last : Option Entry). IfSome last (λ entry. is_here entry ≡ true)) here
              (none_gone run.desk.entries 0 run.desk.devices name key may.here is);
          new = λ other apart learned. may.devices name other apart (
            here ∙ learned.0,
            λ none. learned.1
                (ap (λ (last : Option Entry). entry_through name last lines) (sym here)
                ∙ sym (memory_has_states run.desk run.lines name) ∙ none),
          );
        })

run_placed : (start : World) (earlier : List Act) (home name desk : List ℕ) (run : Run)
    → MayServe (world_after start earlier) desk run
    → IsPlaced (view_of (world_after start earlier) name) (MovedTo start earlier name)
    (entry_of_one start earlier home name)
    → IsPlaced (view_of (world_after start (Serves desk run ∷ earlier)) name)
    (MovedTo start (Serves desk run ∷ earlier) name)
    (entry_of_one start (Serves desk run ∷ earlier) home name)
run_placed start earlier home name desk run may placed =
    let act : Act = Serves desk run in
    let world : World = world_after start earlier in
    let known : Option Entry = entry_of_one start earlier home name in
    let lines : List JudgedLine = judged_lines run.desk name run.lines in
    subst (IsPlaced (view_of (world_after start (act ∷ earlier)) name)
    (MovedTo start (act ∷ earlier) name))
    (sym (entry_through-append name (last_in (start home) name) lines (lines_in earlier name)))
    (serves (view_of world name) (view_of (world_after start (act ∷ earlier)) name)
    (MovedTo start earlier name) (MovedTo start (act ∷ earlier) name) known desk name lines placed
    (run_serves world desk run name (MovedTo start earlier name) known may placed)
    (here_after start act earlier name
    ∙ memory_has_states run.desk run.lines name
    ∙ ap (λ (last : Option Entry). entry_through name last lines)
    (begun_here world desk run name may))
    (there_after start act earlier name)
    (no_new_move start act earlier name (λ one some move. move))
    (moved_before start act earlier name))

-- a device goes
pub departed_last : (entries : List Entry) (name target : List ℕ) (last : Entry)
    → last_in entries name ≡ Some last
    → last_in (with_departure name target entries) name ≡ Some (gone_to target last)
departed_last entries name target last is =
    ap (λ (one : Option Entry). last_in (with_gone target entries one) name) is
    ∙ entry_is_last entries (gone_to target last) name
    ∙ rw (same_bytes last.name name (last_named entries name last is)) refl

departed_elsewhere : (entries : List Entry) (device target name : List ℕ)
    → (device ≡ name → ⊥)
    → last_in (with_departure device target entries) name ≡ last_in entries name
departed_elsewhere entries device target name apart = by_last (last_in entries device) refl
  where
    by_last : (last : Option Entry) → last_in entries device ≡ last
        → last_in (with_gone target entries last) name ≡ last_in entries name
    by_last None is = refl
    by_last (Some last) is =
        entry_is_last entries (gone_to target last) name
        ∙ rw (other_bytes last.name name
        (λ same. apart (sym (last_named entries device last is) ∙ same))) refl

own_placed : (start : World) (earlier : List Act) (name source target : List ℕ)
    (known last : Option Entry)
    → last_in (world_after start earlier source) name ≡ last
    → IsPlaced (view_of (world_after start earlier) name) (MovedTo start earlier name) known
    → has_here (last_in (world_after start earlier source) name) ≡ true
    → IsPlaced (view_of (world_after start (Sends source name target ∷ earlier)) name)
    (MovedTo start (Sends source name target ∷ earlier) name) known
own_placed start earlier name source target known None is placed here =
    let known = sym here ∙ ap has_here is in absurd (cc known)
own_placed start earlier name source target known (Some last) is placed here =
    let act : Act = Sends source name target in
    let world : World = world_after start earlier in
    let entries : List Entry = with_departure name target (world source) in
    let gone : last_in entries name ≡ Some (gone_to target last) =
    departed_last (world source) name target last is in
    goes (view_of world name) (view_of (world_after start (act ∷ earlier)) name)
    (MovedTo start earlier name) (MovedTo start (act ∷ earlier) name) known source target last
    placed is (sym (ap has_here is) ∙ here)
    (here_after start act earlier name ∙ gone)
    (there_after start act earlier name)
    (moved_lines name entries, inl (refl, refl, refl), moved_last name entries ∙ gone)
    (λ other line moved. elim moved.1 [
      | inl move ↦ inr (
        sym move.1,
        same_line line (gone_to target last)
            (sym moved.2 ∙ ap (λ (lines : List Entry). last_in lines name) move.2
            ∙ moved_last name entries ∙ gone),
      )
      | inr was ↦ inl (moved.0, was, moved.2)
    ])
  where
    same_line : (one other : Entry) → Some one ≡ Some other → one ≡ other
    same_line one other same = cc same

sent_placed : (start : World) (earlier : List Act) (name source device target : List ℕ)
    (known : Option Entry)
    → IsPlaced (view_of (world_after start earlier) name) (MovedTo start earlier name) known
    → has_here (last_in (world_after start earlier source) device) ≡ true
    → IsPlaced (view_of (world_after start (Sends source device target ∷ earlier)) name)
    (MovedTo start (Sends source device target ∷ earlier) name) known
sent_placed start earlier name source device target known placed =
    elim (same_or_other device name) [
      | inl same ↦ subst (λ (one : List ℕ).
          has_here (last_in (world_after start earlier source) one) ≡ true
          → IsPlaced (view_of (world_after start (Sends source one target ∷ earlier)) name)
          (MovedTo start (Sends source one target ∷ earlier) name) known) (sym same)
          (own_placed start earlier name source target known
          (last_in (world_after start earlier source) name) refl placed)
      | inr apart ↦ λ here. unmoved start (Sends source device target) earlier name known
          (departed_elsewhere (world_after start earlier source) device target name apart)
          (λ desk lines move. apart move.0) placed
    ]

-- lines are adopted
no_line : (entries : List Entry) (name : List ℕ) → entries_of name entries ≡ []
    → last_in entries name ≡ None
no_line entries name none =
    sym (last_of_own name entries) ∙ ap (λ (some : List Entry). last_in some name) none

adopted_placed : (start : World) (earlier : List Act) (name desk : List ℕ) (lines : List Entry)
    (known last : Option Entry)
    → last_in lines name ≡ last
    → MayAdopt start earlier desk lines
    → IsPlaced (view_of (world_after start earlier) name) (MovedTo start earlier name) known
    → IsPlaced (view_of (world_after start (Adopts desk lines ∷ earlier)) name)
    (MovedTo start (Adopts desk lines ∷ earlier) name) known
adopted_placed start earlier name desk lines known None is may placed =
    unmoved start (Adopts desk lines) earlier name known
    (adopted_elsewhere (world_after start earlier desk) lines name is)
    (λ one some move. move) placed
adopted_placed start earlier name desk lines known (Some line) is may placed =
    let act : Act = Adopts desk lines in
    let world : World = world_after start earlier in
    elim (may.moved name) [
      | inl none ↦ let known = sym is ∙ no_line lines name none in absurd (cc known)
      | inr was ↦
          let own : last_in (entries_of name lines) name ≡ Some line =
          last_of_own name lines ∙ is in
          let behind : is_behind line (last_in (world desk) name) ≡ false =
          subst (λ (one : List ℕ). is_behind line (last_in (world desk) one) ≡ false)
          (last_named lines name line is)
          (not_behind desk (world desk) line
          (last_has (λ (one : Entry). adoption_fault desk (world desk) one ≡ None) lines name line
          may.faultless is)) in
          comes (view_of world name) (view_of (world_after start (act ∷ earlier)) name)
          (MovedTo start earlier name) (MovedTo start (act ∷ earlier) name) known desk line placed
          (entries_of name lines, was, own) behind
          (here_after start act earlier name
          ∙ adopted_last (world desk) lines name line is
          (moves_are_alike start earlier name desk (entries_of name lines) line was own))
          (there_after start act earlier name)
          (no_new_move start act earlier name (λ one some move. move))
          (moved_before start act earlier name)
    ]

pub placed : (start : World) (acts : List Act) (home name : List ℕ)
    → StartsAt start home name → AreAllowed start acts
    → IsPlaced (view_of (world_after start acts) name) (MovedTo start acts name)
    (entry_of_one start acts home name)
placed start [] home name so allowed = starts start home name (last_in (start home) name) refl so
placed start (Serves desk run ∷ earlier) home name so allowed =
    run_placed start earlier home name desk run allowed.0
    (placed start earlier home name so allowed.1)
placed start (Sends source device target ∷ earlier) home name so allowed =
    sent_placed start earlier name source device target (entry_of_one start earlier home name)
    (placed start earlier home name so allowed.1) allowed.0
placed start (Adopts desk lines ∷ earlier) home name so allowed =
    adopted_placed start earlier name desk lines (entry_of_one start earlier home name)
    (last_in lines name) refl allowed.0 (placed start earlier home name so allowed.1)
