-- What came of a departure.
use Rattle.std.{proofs.{Common.{◌≡◌, ◌∙◌, ℕ, List, Option, Some, None, Result, Ok, Err, refl, ap, sym, subst, inl, inr, [], ◌∷◌, true, false}, lemmas.{Bool.cases_Bool, Option.same_Some, Slice.Eq.bytes_eq-Decides}}, specs.{Prelude.◌==◌, Str.bytes_eq, Option.is_some}}
use Rattle.desk_memory.{specs.{AnswerReader.most_number, Entry.{Entry, last_in, with_entry, Home, home_of, is_replaced}, Moving.{with_departure, gone_to, is_gone_to, is_here, lines_at, moved_lines, at_home}, declared.memory.Memory.Ghosts as MemoryGhosts}, proofs.Noted.{entry_is_last, last_named}}
use Rattle.input_files.specs.declared.{status.Status.Status, unfit.Unfit.Unfit}
use Rattle.desk_cli.specs.{Move.{Departs, KeepsAndPuts, MoveNames, Stays, departure, home_behind}, StateText.states_text}
use Rattle.outside_edge.specs.declared.sink.Sink.{Ghosts as SinkGhosts}
use Rattle.desk_cli.proofs.moving.move_in.Goals as goal

-- The lines by which a device moves are the same before and after it is kept that it is gone.

kept-before : (entry : Entry) (later : List Entry) (new : Entry)
    → is_some (last_in later new.name) ≡ true → is_replaced entry later new ≡ false
kept-before entry later new named = elim (cases_Bool (bytes_eq entry.name new.name)) [
  | inl hit ↦ elim (cases_Bool (bytes_eq entry.mark new.mark)) [
    | inl same ↦ rw (hit, same, named) refl
    | inr other ↦ rw (hit, other) refl
  ]
  | inr miss ↦ rw miss refl
]

gone-lines : (home : Home) (name to : List ℕ) (entries : List Entry) (last : Entry)
    → last_in entries name ≡ Some last → last.name ≡ name
    → lines_at home name (with_entry entries (gone_to to last)) ≡ lines_at home name entries
gone-lines home name to [] last is mine = absurd (cc is)
gone-lines home name to (entry ∷ later) last is mine =
    elim (cases_Bool (is_some (last_in later name))) [
      | inl named ↦
          let deeper = gone-lines home name to later last (rw named at is) mine in
          let kept : is_replaced entry later (gone_to to last) ≡ false =
          kept-before entry later (gone_to to last) (rw mine named) in
          elim (cases_Bool (bytes_eq entry.name name)) [
            | inl hit ↦ rw (kept, hit)
                (ap (λ (rest : List Entry). at_home home entry ∷ rest) deeper)
            | inr miss ↦ rw (kept, miss) deeper
          ]
      | inr unnamed ↦ elim (cases_Bool (bytes_eq entry.name name)) [
        | inl hit ↦
            let same : entry ≡ last = same_Some entry last (rw (unnamed, hit) at is) in
            let named : bytes_eq last.name last.name ≡ true =
            (bytes_eq-Decides last.name last.name).1 refl in
            let marked : bytes_eq last.mark last.mark ≡ true =
            (bytes_eq-Decides last.mark last.mark).1 refl in
            let none : is_some (last_in later last.name) ≡ false = rw mine unnamed in
            let its : bytes_eq last.name name ≡ true = rw (sym same) hit in
            rw same (rw (named, marked, none, its) refl)
        | inr miss ↦ absurd (let known = rw (unnamed, miss) at is in cc known)
      ]
    ]

last-behind : (name to : List ℕ) (entries : List Entry) (last : Entry)
    → last_in entries name ≡ Some last → last.name ≡ name
    → last_in (with_entry entries (gone_to to last)) name ≡ Some (gone_to to last)
last-behind name to entries last is mine =
    entry_is_last entries (gone_to to last) name
    ∙ rw ((bytes_eq-Decides last.name name).1 mine) refl

-- what `move` prints
departed-lines : (name to : List ℕ) (entries : List Entry) (last : Entry)
    → last_in entries name ≡ Some last
    → moved_lines name (with_departure name to entries)
    ≡ lines_at (gone_to to last).home name entries
departed-lines name to entries last is =
    let mine = last_named entries name last is in
    let is_departed : with_departure name to entries ≡ with_entry entries (gone_to to last) =
    rw is refl in
    ap (moved_lines name) is_departed
    ∙ ap (λ (one : Option Entry). lines_at (home_of one) name
    (with_entry entries (gone_to to last))) (last-behind name to entries last is mine)
    ∙ gone-lines (gone_to to last).home name to entries last is mine

-- it stays
stays : {M W : Type 0} (m : MemoryGhosts M) (w : SinkGhosts W) (opened : M) (old : W)
    (names : MoveNames) (entries : List Entry) (departs : Result (Option Entry) Unfit)
    (status : Status)
    → Stays departs status → Departs m w opened opened old old names entries departs status
stays m w opened old names entries (Err unfit) status is = (is, refl, refl)
stays m w opened old names entries (Ok None) status is = (refl, inl (is, refl))
stays m w opened old names entries (Ok (Some gone)) status is = inl (is, refl, refl)

-- the entry by which a device goes
record GoesBy (to : List ℕ) (last : Option Entry) (gone : Entry) : Type 0 where
  one : Entry
  is : last ≡ Some one
  by : gone ≡ gone_to to one

same-gone : (one two : Entry) (leaves : Result (Option Entry) Unfit)
    → leaves ≡ Ok (Some one) → leaves ≡ Ok (Some two) → one ≡ two
same-gone one two leaves is same = cc (is, same)

goes-by : (from to : List ℕ) (last : Option Entry) (gone : Entry)
    → departure from to last ≡ Ok (Some gone) → GoesBy to last gone
goes-by from to None gone is = absurd (cc is)
goes-by from to (Some one) gone is = elim (cases_Bool (is_gone_to to one)) [
  | inl there ↦ absurd (let known = rw there at is in cc known)
  | inr not_there ↦ elim (cases_Bool (is_here one)) [
    | inl here ↦ elim (cases_Bool (bytes_eq to from)) [
      | inl own ↦ absurd (let known = rw (not_there, here, own) at is in cc known)
      | inr other ↦ elim (cases_Bool (one.home.moves == most_number)) [
        | inl last_move ↦
            absurd (let known = rw (not_there, here, other, last_move) at is in cc known)
        | inr more ↦ record {
          one = one;
          is = refl;
          by = same-gone gone (gone_to to one) (Ok (Some gone)) refl
              (sym (rw (not_there, here, other, more) at is));
        }
      ]
    ]
    | inr away ↦ absurd (let known = rw (not_there, away) at is in cc known)
  ]
]

goes : {M W : Type 0} (m : MemoryGhosts M) (w : SinkGhosts W) (opened left : M)
    (old new : W) (names : MoveNames) (from : List ℕ) (entries lines : List Entry)
    (found : Option Entry) (gone : Entry) (status : Status)
    → departure from names.desk (last_in entries names.device) ≡ Ok found → found ≡ Some gone
    → lines ≡ lines_at (home_behind found (last_in entries names.device)) names.device entries
    → KeepsAndPuts m w opened left old new (with_entry entries gone) (states_text lines) status
    → Departs m w opened left old new names entries
    (departure from names.desk (last_in entries names.device)) status
goes m w opened left old new names from entries lines found gone status is some are keeps =
    let known : departure from names.desk (last_in entries names.device) ≡ Ok (Some gone) =
    is ∙ ap (λ (one : Option Entry). Ok one) some in
    let goes_by = goes-by from names.desk (last_in entries names.device) gone known in
    let after : with_entry entries gone ≡ with_departure names.device names.desk entries =
    rw goes_by.is (ap (with_entry entries) goes_by.by) in
    let all : lines ≡ moved_lines names.device (with_departure names.device names.desk entries) =
    are ∙ ap (λ (one : Option Entry).
    lines_at (home_behind one (last_in entries names.device)) names.device entries) some
    ∙ ap (λ (one : Entry). lines_at one.home names.device entries) goes_by.by
    ∙ sym (departed-lines names.device names.desk entries goes_by.one goes_by.is) in
    rw known (inr (subst (λ (text : List Entry).
    KeepsAndPuts m w opened left old new (with_departure names.device names.desk entries)
    (states_text text) status) all
    (subst (λ (kept : List Entry). KeepsAndPuts m w opened left old new kept
    (states_text lines) status) after keeps)))

pub returns-in-Err-clause-moves : goal.returns-in-Err-clause-moves
returns-in-Err-clause-moves g c =
    let entries : List Entry = c.entries.result.now in
    let names : MoveNames = record {
      memory = c.args.names.memory.now;
      device = c.args.names.device.now;
      desk = c.args.names.desk.now;
    } in (
      entries,
      c.entries.ensures,
      λ keeps. stays g.M.Memory g.W.Sink c.args.memory.now c.args.sink.now names entries _
          c.in-Err.status (rw c.desk.ensures at c.in-Err.ensures.stays),
    )

pub returns-in-Some-clause-moves : goal.returns-in-Some-clause-moves
returns-in-Some-clause-moves g c =
    let entries : List Entry = c.entries.result.now in
    let names : MoveNames = record {
      memory = c.args.names.memory.now;
      device = c.args.names.device.now;
      desk = c.args.names.desk.now;
    } in (
      entries,
      c.entries.ensures,
      λ keeps. goes g.M.Memory g.W.Sink c.args.memory.now c.keep_and_put.new.memory
          c.args.sink.now c.keep_and_put.new.sink names _ entries c.as_slice.result.now _
          c.in-Some.gone c.keep_and_put.result
          (rw c.desk.ensures at c.in-Ok.ensures.leaves) c.in-Some.is
          (rw c.as_slice.ensures.value c.in-Ok.ensures.lines)
          (c.keep_and_put.ensures.keeps entries keeps.has),
    )
