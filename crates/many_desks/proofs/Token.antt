-- A device as a token that goes from desk to desk: what the memories of all desks have of it, step
-- by step.
use Rattle.std.{proofs.{Common.{◌≡◌, ◌∙◌, ◌⊎◌, ◌<◌, ◌≤◌, ◌+◌, ℕ, List, [], true, false, Option, Some, None, refl, sym, ap, subst, inl, inr, arith}, lemmas.{Option.same_Some, Bool.{cases_Bool, Decides.nat_tests}}}, specs.{Option.is_none, Prelude.{if◌then◌else◌, nat_lt, IfSome, option_map}}}
use Rattle.desk_memory.specs.{Entry.{Entry, Home, home_of}, Moving.{entry_on_arrival, came_by, gone_to, has_here, has_not_come, is_behind, is_here}}
use Rattle.verifier_desk.specs.Judged.{JudgedLine, entry_through}
use Rattle.many_desks.{specs.{Act.IsLearned, Law.{SayAlike, note_of}}, proofs.{Worlds.same_or_other, Through.{home_through, never_none, some_through, alike_through}}}

-- the last entry of the device at each desk
abbrev pub View : Type 0
View = List ℕ → Option Entry

-- it is not here, and has moved no more often than this
abbrev pub IsBehind : ℕ → Option Entry → Type 0
IsBehind moves None = Unit {0}
IsBehind moves (Some entry) = (is_here entry ≡ false) × (entry.home.moves ≤ moves)

-- by the move of this number it has come, and may have moved on
abbrev pub HasCome : ℕ → Option Entry → Type 0
HasCome moves None = ⊥
HasCome moves (Some entry) =
    ((is_here entry ≡ true) × (moves ≤ entry.home.moves))
    ⊎ ((is_here entry ≡ false) × (moves < entry.home.moves))

-- No memory knows it.
pub record IsNowhere (view : View) (moved : List ℕ → Entry → Type 0) (known : Option Entry)
    : Type 0 where
  pub unknown : (desk : List ℕ) → view desk ≡ None
  pub unmoved : (desk : List ℕ) (line : Entry) → moved desk line → ⊥
  pub none : known ≡ None

-- One desk has it here, and it has come by all of its moves.
pub record IsAtHome (view : View) (moved : List ℕ → Entry → Type 0) (known : Option Entry)
    : Type 0 where
  pub home : List ℕ
  pub last : Entry
  pub is : view home ≡ Some last
  pub here : is_here last ≡ true
  pub same : SayAlike (Some last) known
  pub others : (desk : List ℕ) → (home ≡ desk → ⊥) → IsBehind last.home.moves (view desk)
  pub come : (desk : List ℕ) (line : Entry) → moved desk line
      → HasCome line.home.moves (view desk)

-- It is on its way by its last move, and has come by all others.
pub record IsOnWay (view : View) (moved : List ℕ → Entry → Type 0) (known : Option Entry)
    : Type 0 where
  pub target : List ℕ
  pub line : Entry
  pub is : moved target line
  pub same : SayAlike (Some line) known
  pub source : List ℕ
  pub left : view source ≡ None → ⊥
  pub behind : (desk : List ℕ) → IsBehind line.home.moves (view desk)
  pub come : (desk : List ℕ) (other : Entry) → moved desk other
      → HasCome other.home.moves (view desk) ⊎ ((desk ≡ target) × (other ≡ line))

abbrev pub IsPlaced : View → (List ℕ → Entry → Type 0) → Option Entry → Type 0
IsPlaced view moved known =
    IsNowhere view moved known ⊎ (IsAtHome view moved known ⊎ IsOnWay view moved known)

-- where nothing of it changes
pub stays : (before after : View) (moved now : List ℕ → Entry → Type 0) (known : Option Entry)
    → ((desk : List ℕ) → after desk ≡ before desk)
    → ((desk : List ℕ) (line : Entry) → now desk line → moved desk line)
    → ((desk : List ℕ) (line : Entry) → moved desk line → now desk line)
    → IsPlaced before moved known → IsPlaced after now known
stays before after moved now known same was is (inl nowhere) =
    inl (record {
      unknown = λ desk. same desk ∙ nowhere.unknown desk;
      unmoved = λ desk line move. nowhere.unmoved desk line (was desk line move);
      none = nowhere.none;
    })
stays before after moved now known same was is (inr (inl at_home)) =
    inr (inl (record {
      home = at_home.home;
      last = at_home.last;
      is = same at_home.home ∙ at_home.is;
      here = at_home.here;
      same = at_home.same;
      others = λ desk apart. subst (IsBehind at_home.last.home.moves) (sym (same desk))
          (at_home.others desk apart);
      come = λ desk line move. subst (HasCome line.home.moves) (sym (same desk))
          (at_home.come desk line (was desk line move));
    }))
stays before after moved now known same was is (inr (inr way)) =
    inr (inr (record {
      target = way.target;
      line = way.line;
      is = is way.target way.line way.is;
      same = way.same;
      source = way.source;
      left = λ none. way.left (sym (same way.source) ∙ none);
      behind = λ desk. subst (IsBehind way.line.home.moves) (sym (same desk)) (way.behind desk);
      come = λ desk other move.
          elim (way.come desk other (was desk other move)) [
            | inl come ↦ inl (subst (HasCome other.home.moves) (sym (same desk)) come)
            | inr last ↦ inr last
          ];
    }))

-- one desk at most has it here
behind_is_away : (moves : ℕ) (last : Option Entry) → IsBehind moves last → has_here last ≡ true → ⊥
behind_is_away moves None behind here = cc here
behind_is_away moves (Some entry) behind here = let away = behind.0 in cc

here_is_home : (view : View) (moved : List ℕ → Entry → Type 0) (known : Option Entry)
    (it : IsAtHome view moved known) (desk : List ℕ)
    → has_here (view desk) ≡ true → it.home ≡ desk
here_is_home view moved known it desk here = elim (same_or_other it.home desk) [
  | inl same ↦ same
  | inr apart ↦ absurd (behind_is_away it.last.home.moves (view desk) (it.others desk apart) here)
]

nowhere_here : (last : Option Entry) → last ≡ None → has_here last ≡ true → ⊥
nowhere_here None none here = cc here
nowhere_here (Some last) none here = cc none

pub one_home : (view : View) (moved : List ℕ → Entry → Type 0) (known : Option Entry)
    (one other : List ℕ)
    → IsPlaced view moved known
    → has_here (view one) ≡ true → has_here (view other) ≡ true → one ≡ other
one_home view moved known one other (inl nowhere) here too =
    absurd (nowhere_here (view one) (nowhere.unknown one) here)
one_home view moved known one other (inr (inl it)) here too =
    sym (here_is_home view moved known it one here) ∙ here_is_home view moved known it other too
one_home view moved known one other (inr (inr way)) here too =
    absurd (behind_is_away way.line.home.moves (view one) (way.behind one) here)

pub here_says : (view : View) (moved : List ℕ → Entry → Type 0) (known : Option Entry)
    (desk : List ℕ)
    → IsPlaced view moved known → has_here (view desk) ≡ true → SayAlike (view desk) known
here_says view moved known desk (inl nowhere) here =
    absurd (nowhere_here (view desk) (nowhere.unknown desk) here)
here_says view moved known desk (inr (inl it)) here =
    ap (λ (last : Option Entry). option_map note_of last)
    (sym (ap view (here_is_home view moved known it desk here)) ∙ it.is)
    ∙ it.same
here_says view moved known desk (inr (inr way)) here =
    absurd (behind_is_away way.line.home.moves (view desk) (way.behind desk) here)

-- where it is here, all others are behind
pub others_behind : (view : View) (moved : List ℕ → Entry → Type 0) (known : Option Entry)
    (desk other : List ℕ) (last : Entry)
    → IsPlaced view moved known
    → view desk ≡ Some last → is_here last ≡ true → (desk ≡ other → ⊥)
    → IsBehind last.home.moves (view other)
others_behind view moved known desk other last (inl nowhere) is here apart =
    let none = sym is ∙ nowhere.unknown desk in absurd (cc none)
others_behind view moved known desk other last (inr (inl it)) is here apart =
    let home : it.home ≡ desk =
    here_is_home view moved known it desk (ap has_here is ∙ here) in
    let entry : it.last ≡ last = same_Some it.last last (sym it.is ∙ ap view home ∙ is) in
    subst (λ (one : Entry). IsBehind one.home.moves (view other)) entry
    (it.others other (λ same. apart (sym home ∙ same)))
others_behind view moved known desk other last (inr (inr way)) is here apart =
    absurd (behind_is_away way.line.home.moves (view desk) (way.behind desk)
    (ap has_here is ∙ here))

-- it goes from where it is
home_goes : (before after : View) (moved now : List ℕ → Entry → Type 0) (known : Option Entry)
    (desk target : List ℕ) (last : Entry)
    → before desk ≡ Some last → is_here last ≡ true → SayAlike (Some last) known
    → ((other : List ℕ) → (desk ≡ other → ⊥) → IsBehind last.home.moves (before other))
    → ((other : List ℕ) (line : Entry) → moved other line → HasCome line.home.moves (before other))
    → after desk ≡ Some (gone_to target last)
    → ((other : List ℕ) → (desk ≡ other → ⊥) → after other ≡ before other)
    → now target (gone_to target last)
    → ((other : List ℕ) (line : Entry) → now other line
    → moved other line ⊎ ((other ≡ target) × (line ≡ gone_to target last)))
    → IsPlaced after now known
home_goes before after moved now known desk target last is here same others come gone rest move
    all =
    inr (inr (record {
      target = target;
      line = gone_to target last;
      is = move;
      same = same;
      source = desk;
      left = λ none. let known = sym gone ∙ none in cc known;
      behind = λ other. elim (same_or_other desk other) [
        | inl this ↦ subst (λ (one : List ℕ). IsBehind (last.home.moves + 1) (after one)) this
            (subst (IsBehind (last.home.moves + 1)) (sym gone) (refl, omega arith))
        | inr apart ↦ subst (IsBehind (last.home.moves + 1)) (sym (rest other apart))
            (more_behind last.home.moves (before other) (others other apart))
      ];
      come = λ other line moves. elim (all other line moves) [
        | inl earlier ↦ inl (elim (same_or_other desk other) [
          | inl this ↦ subst (λ (one : List ℕ). HasCome line.home.moves (after one)) this
              (subst (HasCome line.home.moves) (sym gone)
              (gone_on line.home.moves
              (subst (HasCome line.home.moves) (ap before (sym this) ∙ is)
              (come other line earlier))))
          | inr apart ↦ subst (HasCome line.home.moves) (sym (rest other apart))
              (come other line earlier)
        ])
        | inr newest ↦ inr newest
      ];
    }))
  where
    more_behind : (moves : ℕ) (entry : Option Entry) → IsBehind moves entry
        → IsBehind (moves + 1) entry
    more_behind moves None behind = tt
    more_behind moves (Some entry) behind =
        let few = behind.1 in (behind.0, omega (arith, few))

    gone_on : (moves : ℕ) → HasCome moves (Some last) → HasCome moves (Some (gone_to target last))
    gone_on moves (inl there) = let few = there.1 in inr (refl, omega (arith, few))
    gone_on moves (inr away) = let gone = away.0 in absurd cc

pub goes : (before after : View) (moved now : List ℕ → Entry → Type 0) (known : Option Entry)
    (desk target : List ℕ) (last : Entry)
    → IsPlaced before moved known
    → before desk ≡ Some last → is_here last ≡ true
    → after desk ≡ Some (gone_to target last)
    → ((other : List ℕ) → (desk ≡ other → ⊥) → after other ≡ before other)
    → now target (gone_to target last)
    → ((other : List ℕ) (line : Entry) → now other line
    → moved other line ⊎ ((other ≡ target) × (line ≡ gone_to target last)))
    → IsPlaced after now known
goes before after moved now known desk target last (inl nowhere) is here gone rest move all =
    let none = sym is ∙ nowhere.unknown desk in absurd (cc none)
goes before after moved now known desk target last (inr (inl it)) is here gone rest move all =
    home_goes before after moved now known desk target last is here
    (subst (λ (one : Option Entry). SayAlike one known) is
    (here_says before moved known desk (inr (inl it)) (ap has_here is ∙ here)))
    (λ other apart. others_behind before moved known desk other last (inr (inl it)) is here apart)
    it.come gone rest move all
goes before after moved now known desk target last (inr (inr way)) is here gone rest move all =
    absurd (behind_is_away way.line.home.moves (before desk) (way.behind desk)
    (ap has_here is ∙ here))

-- its lines are adopted
come_stays : (line : Entry) (last : Option Entry) → HasCome line.home.moves last
    → is_behind line last ≡ false → has_not_come line last ≡ false
come_stays line None come behind = absurd come
come_stays line (Some last) (inl there) behind = elim (cases_Bool (came_by line last)) [
  | inl came ↦ rw came refl
  | inr other ↦ let known = rw (other, there.0) at behind in absurd (cc known)
]
come_stays line (Some last) (inr away) behind =
    let few = away.1 in
    let later : nat_lt last.home.moves line.home.moves ≡ false = grind (arith, nat_tests, few) in
    let known = rw (away.0, later) at behind in absurd (cc known)

settled : (line : Entry) (last : Option Entry) → HasCome line.home.moves last
    → (has_not_come line last ≡ false) ⊎ (is_behind line last ≡ true)
settled line last come = elim (cases_Bool (is_behind line last)) [
  | inl behind ↦ inr behind
  | inr in_time ↦ inl (come_stays line last come in_time)
]

behind_is_not_here : (moves : ℕ) (last : Option Entry) → IsBehind moves last
    → has_here last ≡ false
behind_is_not_here moves None behind = refl
behind_is_not_here moves (Some last) behind = behind.0

-- it is on its way by a line, or the line tells nothing new
pub settles : (view : View) (moved : List ℕ → Entry → Type 0) (known : Option Entry)
    (desk : List ℕ) (line : Entry)
    → IsPlaced view moved known → moved desk line
    → (((other : List ℕ) → has_here (view other) ≡ false) × SayAlike (Some line) known)
    ⊎ ((has_not_come line (view desk) ≡ false) ⊎ (is_behind line (view desk) ≡ true))
settles view moved known desk line (inl nowhere) move =
    absurd (nowhere.unmoved desk line move)
settles view moved known desk line (inr (inl it)) move =
    inr (settled line (view desk) (it.come desk line move))
settles view moved known desk line (inr (inr way)) move = elim (way.come desk line move) [
  | inl come ↦ inr (settled line (view desk) come)
  | inr newest ↦ inl (
    λ other. behind_is_not_here way.line.home.moves (view other) (way.behind other),
    subst (λ (one : Entry). SayAlike (Some one) known) (sym newest.1) way.same,
  )
]

behind_comes : (line : Entry) (moves : ℕ) (last : Option Entry) → IsBehind moves last
    → has_not_come line last ≡ true
behind_comes line moves None behind = refl
behind_comes line moves (Some last) behind = rw behind.0 refl

pub comes : (before after : View) (moved now : List ℕ → Entry → Type 0) (known : Option Entry)
    (desk : List ℕ) (line : Entry)
    → IsPlaced before moved known
    → moved desk line → is_behind line (before desk) ≡ false
    → after desk ≡ (if has_not_come line (before desk) then Some (entry_on_arrival line)
    else before desk)
    → ((other : List ℕ) → (desk ≡ other → ⊥) → after other ≡ before other)
    → ((other : List ℕ) (one : Entry) → now other one → moved other one)
    → ((other : List ℕ) (one : Entry) → moved other one → now other one)
    → IsPlaced after now known
comes before after moved now known desk line (inl nowhere) move behind changed rest was is =
    absurd (nowhere.unmoved desk line move)
comes before after moved now known desk line (inr (inl it)) move behind changed rest was is =
    stays before after moved now known
    (λ other. elim (same_or_other desk other) [
      | inl this ↦ subst (λ (one : List ℕ). after one ≡ before one) this
          (changed ∙ rw (come_stays line (before desk) (it.come desk line move) behind) refl)
      | inr apart ↦ rest other apart
    ]) was is (inr (inl it))
comes before after moved now known desk line (inr (inr way)) move behind changed rest was is =
    elim (way.come desk line move) [
      | inl come ↦
          stays before after moved now known
          (λ other. elim (same_or_other desk other) [
            | inl this ↦ subst (λ (one : List ℕ). after one ≡ before one) this
                (changed ∙ rw (come_stays line (before desk) come behind) refl)
            | inr apart ↦ rest other apart
          ]) was is (inr (inr way))
      | inr last ↦
          let there : after desk ≡ Some (entry_on_arrival line) =
          changed
          ∙ rw (behind_comes line way.line.home.moves (before desk) (way.behind desk)) refl in
          inr (inl (record {
            home = desk;
            last = entry_on_arrival line;
            is = there;
            here = refl;
            same = subst (λ (one : Entry). SayAlike (Some (entry_on_arrival one)) known)
                (sym last.1)
                way.same;
            others = λ other apart. subst (IsBehind line.home.moves) (sym (rest other apart))
                (subst (λ (one : Entry). IsBehind one.home.moves (before other)) (sym last.1)
                (way.behind other));
            come = λ other one moves. elim (same_or_other desk other) [
              | inl this ↦ subst (λ (place : List ℕ). HasCome one.home.moves (after place)) this
                  (subst (HasCome one.home.moves) (sym there)
                  (elim (way.come other one (was other one moves)) [
                    | inl come ↦ inl (
                      refl,
                      at_most one.home.moves line.home.moves (before other)
                          come (subst (λ (entry : Entry). IsBehind entry.home.moves (before other))
                          (sym last.1) (way.behind other)),
                    )
                    | inr newest ↦ inl (
                      refl,
                      of_same one line (newest.1 ∙ sym last.1),
                    )
                  ]))
              | inr apart ↦ elim (way.come other one (was other one moves)) [
                | inl come ↦ subst (HasCome one.home.moves) (sym (rest other apart)) come
                | inr newest ↦ absurd (apart (last.0 ∙ sym newest.0))
              ]
            ];
          }))
    ]
  where
    at_most : (moves most : ℕ) (entry : Option Entry) → HasCome moves entry → IsBehind most entry
        → moves ≤ most
    at_most moves most None come behind = absurd come
    at_most moves most (Some entry) (inl there) behind =
        let away = behind.0 in let there_too = there.0 in absurd cc
    at_most moves most (Some entry) (inr away) behind =
        let more = away.1 in let few = behind.1 in omega (arith, more, few)

    of_same : (one other : Entry) → one ≡ other → one.home.moves ≤ other.home.moves
    of_same one other same = subst (λ (entry : Entry). one.home.moves ≤ entry.home.moves) same
        (omega arith)

-- A desk serves lines of it: it is not gone there, and where it is new there, it is new everywhere.
pub record IsServed (before : View) (desk name : List ℕ) (lines : List JudgedLine) : Type 0 where
  pub here : IfSome (before desk) (λ last. is_here last ≡ true)
  pub new : (other : List ℕ) → (desk ≡ other → ⊥)
      → IsLearned (before desk) (entry_through name (before desk) lines)
      → before other ≡ None

-- so it is at home there, or nowhere
not_away : (moves : ℕ) (last : Option Entry) → IsBehind moves last
    → IfSome last (λ entry. is_here entry ≡ true) → last ≡ None
not_away moves None behind here = refl
not_away moves (Some last) behind here = let away = behind.0 in absurd cc

-- where another memory knows it, it has no line here
unserved : (before : View) (desk name : List ℕ) (lines : List JudgedLine) (other : List ℕ)
    → IsServed before desk name lines
    → before desk ≡ None → (before other ≡ None → ⊥) → lines ≡ []
unserved before desk name lines other served none known =
    elim (same_or_other desk other) [
      | inl same ↦ absurd (known (ap before (sym same) ∙ none))
      | inr apart ↦ no_lines (entry_through name None lines) refl
          (λ some. known (served.new other apart (
            none,
            λ after. some (sym (ap (λ (last : Option Entry). entry_through name last lines) none)
                ∙ after),
          )))
    ]
  where
    no_lines : (after : Option Entry) → entry_through name None lines ≡ after
        → ((entry_through name None lines ≡ None → ⊥) → ⊥) → lines ≡ []
    no_lines None is seen = never_none name None lines is
    no_lines (Some last) is seen = absurd (seen (λ none. let known = sym is ∙ none in cc known))

-- so nothing is said of it there, or it is new everywhere, or it is at home there
abbrev pub SpeaksRightly :
    View → (List ℕ → Entry → Type 0) → Option Entry → List ℕ → List JudgedLine → Type 0
SpeaksRightly before moved known desk lines =
    (lines ≡ [])
    ⊎ (IsNowhere before moved known ⊎ ((it : IsAtHome before moved known) × (it.home ≡ desk)))

pub speaks_rightly : (before : View) (moved : List ℕ → Entry → Type 0) (known : Option Entry)
    (desk name : List ℕ) (lines : List JudgedLine)
    → IsPlaced before moved known → IsServed before desk name lines
    → SpeaksRightly before moved known desk lines
speaks_rightly before moved known desk name lines (inl nowhere) served = inr (inl nowhere)
speaks_rightly before moved known desk name lines (inr (inl it)) served =
    elim (same_or_other it.home desk) [
      | inl same ↦ inr (inr (it, same))
      | inr apart ↦ inl (unserved before desk name lines it.home served
          (not_away it.last.home.moves (before desk) (it.others desk apart) served.here)
          (λ none. let known = sym it.is ∙ none in cc known))
    ]
speaks_rightly before moved known desk name lines (inr (inr way)) served =
    inl (unserved before desk name lines way.source served
    (not_away way.line.home.moves (before desk) (way.behind desk) served.here) way.left)

pub says_as_one : (before : View) (moved : List ℕ → Entry → Type 0) (known : Option Entry)
    (desk : List ℕ) (lines : List JudgedLine)
    → SpeaksRightly before moved known desk lines
    → (lines ≡ []) ⊎ SayAlike (before desk) known
says_as_one before moved known desk lines (inl none) = inl none
says_as_one before moved known desk lines (inr (inl nowhere)) =
    inr (ap (λ (last : Option Entry). option_map note_of last)
    (nowhere.unknown desk ∙ sym nowhere.none))
says_as_one before moved known desk lines (inr (inr served)) =
    inr (ap (λ (last : Option Entry). option_map note_of last)
    (sym (ap before served.1) ∙ served.0.is)
    ∙ served.0.same)

-- its lines are noted
serves_none : (before after : View) (moved now : List ℕ → Entry → Type 0) (known : Option Entry)
    (desk name : List ℕ) (lines : List JudgedLine)
    → IsPlaced before moved known → lines ≡ []
    → after desk ≡ entry_through name (before desk) lines
    → ((other : List ℕ) → (desk ≡ other → ⊥) → after other ≡ before other)
    → ((other : List ℕ) (line : Entry) → now other line → moved other line)
    → ((other : List ℕ) (line : Entry) → moved other line → now other line)
    → IsPlaced after now (entry_through name known lines)
serves_none before after moved now known desk name lines placed none changed rest was is =
    subst (λ (some : List JudgedLine). IsPlaced after now (entry_through name known some))
    (sym none)
    (stays before after moved now known
    (λ other. elim (same_or_other desk other) [
      | inl this ↦ subst (λ (one : List ℕ). after one ≡ before one) this
          (changed ∙ ap (entry_through name (before desk)) none)
      | inr apart ↦ rest other apart
    ]) was is placed)

serves_first : (before after : View) (moved now : List ℕ → Entry → Type 0) (known : Option Entry)
    (desk name : List ℕ) (lines : List JudgedLine) (noted : Option Entry)
    → entry_through name None lines ≡ noted
    → IsNowhere before moved known
    → after desk ≡ entry_through name (before desk) lines
    → ((other : List ℕ) → (desk ≡ other → ⊥) → after other ≡ before other)
    → ((other : List ℕ) (line : Entry) → now other line → moved other line)
    → ((other : List ℕ) (line : Entry) → moved other line → now other line)
    → IsPlaced after now (entry_through name known lines)
serves_first before after moved now known desk name lines None so nowhere changed rest was is =
    serves_none before after moved now known desk name lines (inl nowhere)
    (never_none name None lines so) changed rest was is
serves_first before after moved now known desk name lines (Some last) so nowhere changed rest was
    is =
    inr (inl (record {
      home = desk;
      last = last;
      is = changed
          ∙ ap (λ (one : Option Entry). entry_through name one lines) (nowhere.unknown desk) ∙ so;
      here = ap (λ (home : Home). is_none home.gone)
          (sym (ap home_of so) ∙ home_through name None lines);
      same = ap (λ (one : Option Entry). option_map note_of one)
          (sym so
          ∙ ap (λ (one : Option Entry). entry_through name one lines) (sym nowhere.none));
      others = λ other apart. subst (IsBehind last.home.moves)
          (sym (rest other apart ∙ nowhere.unknown other)) tt;
      come = λ other line move. absurd (nowhere.unmoved other line (was other line move));
    }))

come_as : (moves : ℕ) (one other : Entry) → one.home ≡ other.home
    → HasCome moves (Some one) → HasCome moves (Some other)
come_as moves one other same come =
    subst (λ (home : Home). HasCome moves (Some (record one { home = home }))) same come

serves_home : (before after : View) (moved now : List ℕ → Entry → Type 0) (known : Option Entry)
    (name : List ℕ) (lines : List JudgedLine) (it : IsAtHome before moved known)
    (noted : Option Entry)
    → entry_through name (Some it.last) lines ≡ noted
    → after it.home ≡ entry_through name (before it.home) lines
    → ((other : List ℕ) → (it.home ≡ other → ⊥) → after other ≡ before other)
    → ((other : List ℕ) (line : Entry) → now other line → moved other line)
    → IsPlaced after now (entry_through name known lines)
serves_home before after moved now known name lines it None so changed rest was =
    absurd (some_through name it.last lines so)
serves_home before after moved now known name lines it (Some last) so changed rest was =
    let home : last.home ≡ it.last.home =
    sym (ap home_of so) ∙ home_through name (Some it.last) lines in
    let there : after it.home ≡ Some last =
    changed ∙ ap (λ (one : Option Entry). entry_through name one lines) it.is ∙ so in
    inr (inl (record {
      home = it.home;
      last = last;
      is = there;
      here = ap (λ (home : Home). is_none home.gone) home ∙ it.here;
      same = ap (λ (one : Option Entry). option_map note_of one) (sym so)
          ∙ alike_through name (Some it.last) known lines it.same;
      others = λ other apart. subst (λ (home : Home). IsBehind home.moves (after other)) (sym home)
          (subst (IsBehind it.last.home.moves) (sym (rest other apart)) (it.others other apart));
      come = λ other line move. elim (same_or_other it.home other) [
        | inl this ↦ subst (λ (one : List ℕ). HasCome line.home.moves (after one)) this
            (subst (HasCome line.home.moves) (sym there)
            (come_as line.home.moves it.last last (sym home)
            (subst (HasCome line.home.moves) (sym (ap before this) ∙ it.is)
            (it.come other line (was other line move)))))
        | inr apart ↦ subst (HasCome line.home.moves) (sym (rest other apart))
            (it.come other line (was other line move))
      ];
    }))

pub serves : (before after : View) (moved now : List ℕ → Entry → Type 0) (known : Option Entry)
    (desk name : List ℕ) (lines : List JudgedLine)
    → IsPlaced before moved known → SpeaksRightly before moved known desk lines
    → after desk ≡ entry_through name (before desk) lines
    → ((other : List ℕ) → (desk ≡ other → ⊥) → after other ≡ before other)
    → ((other : List ℕ) (line : Entry) → now other line → moved other line)
    → ((other : List ℕ) (line : Entry) → moved other line → now other line)
    → IsPlaced after now (entry_through name known lines)
serves before after moved now known desk name lines placed (inl none) changed rest was is =
    serves_none before after moved now known desk name lines placed none changed rest was is
serves before after moved now known desk name lines placed (inr (inl nowhere)) changed rest was is =
    serves_first before after moved now known desk name lines (entry_through name None lines) refl
    nowhere changed rest was is
serves before after moved now known desk name lines placed (inr (inr served)) changed rest was is =
    serves_home before after moved now known name lines served.0
    (entry_through name (Some served.0.last) lines) refl
    (subst (λ (one : List ℕ). after one ≡ entry_through name (before one) lines) (sym served.1)
    changed)
    (λ other apart. rest other (λ same. apart (served.1 ∙ same))) was
