-- Replies that are held back, put, and more of them.
use Rattle.std.{proofs.{Common.{◌≡◌, ◌∙◌, ◌++◌, ℕ, Bool, true, false, List, [], ◌∷◌, Option, Some, None, Ok, Err, length, take, drop, refl, ap, sym, subst, arith, append_assoc, ⊎_elim}, Math.Bool.or-false, lemmas.List.{append-nil, take-append-drop}}, specs.Prelude.{◌||◌, if◌then◌else◌, nat_lt, OnOk, Result}}
use Rattle.text_scan.specs.Word.{words_of}
use Rattle.outside_edge.{specs.{Sink.{Takes, TakesPrefix}, Calls.Rose, declared.sink.Sink.Ghosts as SinkGhosts}, proofs.{SinkLemmas.takes_both, Counts.rose_since}}
use Rattle.source_server.specs.{declared.halt.Halt.{Halt, TheVariants.{Write, Own}}, HeldLine.{LONGEST_LINE, short_line}}
use Rattle.desk_memory.specs.{declared.{memory.Memory.Ghosts as MemoryGhosts, memory_fault.MemoryFault.MemoryFault}, Entry.Entry, Kept.LeavesOr}
use Rattle.verifier_desk.{specs.{declared.{answer_fault.AnswerFault.{AnswerFault, TheVariants.{Memory, Unkept}}, desk.Desk.Desk}, Answering.{Answers, OnlyNotes}, Desk.DeskStandsFor, DeskLine.{DeskLine, TooLong, desk_line_of, desk_line_of_words}, DeviceKey.DeviceKey, Noted.{entries_after, noted_of, with_noted}, Replies.{DeskFields, lines_said, replies, reply, reply_to}, Reply.ReplyFields, Standing.with_said, Serving.{HasAnswered, HasFailed, HasPut, Keeps, Outside, StopsAt}, Telling.{FailsAt, Grows, PutsHeld, TellsLines, Told}, Withheld.{Withheld, nothing_withheld}}, proofs.MoreLines.{failed_since, fails_more, grows_more, put_of_more}}

module _ {M W : Type 0} (m : MemoryGhosts M) (w : SinkGhosts W) (first : Outside M W)
    (fields : DeskFields) where
  -- a memory that keeps all of the lines keeps what a beginning of their replies says
  kept_put : (now : Outside M W) (lines : List (List ℕ)) (text more : List ℕ)
      → Keeps m now.memory (entries_after fields lines) → replies fields lines ≡ text ++ more
      → Takes w.stands first.sink now.sink text
      → HasPut m w first now fields lines text
  kept_put now lines text more keeps parts takes =
      record {
        put = takes;
        answered = λ honest found may. record {
          later = [];
          kept = lines;
          parts = refl;
          entries = keeps.keeps honest found may;
          more = more;
          answered = parts;
        };
      }

  -- where all replies were put, nothing is held back; and where nothing is, all were put
  pub told_anew : (now : Outside M W) (lines : List (List ℕ)) → Grows m w first now
      → HasAnswered m w first now fields lines
      → Told m w first now nothing_withheld fields lines
  told_anew now lines grows so =
      let all = sym (append-nil (replies fields lines)) in
      record {
        later = [];
        done = lines;
        parts = refl;
        has_put = kept_put now lines (replies fields lines) [] so.keeps all so.put;
        held = all;
        has = so.keeps.has;
        settled = λ none. so.keeps;
        grows = grows;
      }

  pub answered_of_told : (now : Outside M W) (lines : List (List ℕ))
      → Told m w first now nothing_withheld fields lines → HasAnswered m w first now fields lines
  answered_of_told now lines so =
      record {
        put = subst (Takes w.stands first.sink now.sink)
            (sym (so.held ∙ append-nil (replies fields so.done))) so.has_put.put;
        keeps = so.settled refl;
      }

  -- the memory failed before what was held back was put
  pub unkept : (old : Outside M W) (new : M) (withheld : Withheld) (lines : List (List ℕ))
      (fault : MemoryFault)
      → Told m w first old withheld fields lines
      → (m.is_honest new → m.is_honest old.memory)
      → (m.is_honest new → LeavesOr m.may_leave old.memory new (entries_after fields lines))
      → HasFailed m old.memory new fault
      → FailsAt m w first (record old { memory = new }) fields lines (Own (Unkept fault))
  unkept old new withheld lines fault so honest leaves failed = (
    failed_since m w first.memory old.memory new fault so.grows.memory_rises failed,
    (
      so.later,
      so.done,
      so.parts,
      record {
        put = so.has_put.put;
        answered = λ sound found may.
            ⊎_elim (λ before. so.has_put.answered (honest sound) found before)
            (λ is. record {
              later = [];
              kept = lines;
              parts = refl;
              entries = is;
              more = withheld.replies;
              answered = so.held;
            }) (leaves sound found may);
      },
    ),
  )

  -- what was held back was put, or the sink failed
  pub all_put : (old new : Outside M W) (withheld : Withheld) (lines : List (List ℕ))
      → Told m w first old withheld fields lines → Grows m w old new
      → Keeps m new.memory (entries_after fields lines)
      → Takes w.stands old.sink new.sink withheld.replies
      → Told m w first new nothing_withheld fields lines
  all_put old new withheld lines so grows keeps takes =
      told_anew new lines (grows_more m w first old new so.grows grows)
      (record {
        put = rw so.held (takes_both w.stands first.sink old.sink new.sink
            (replies fields so.done) withheld.replies so.has_put.put takes);
        keeps = keeps;
      })

  pub unwritten : (old new : Outside M W) (withheld : Withheld) (lines : List (List ℕ))
      → Told m w first old withheld fields lines
      → Keeps m new.memory (entries_after fields lines)
      → TakesPrefix w.stands old.sink new.sink withheld.replies
      → Rose (w.faults old.sink) (w.faults new.sink)
      → FailsAt m w first new fields lines Write
  unwritten old new withheld lines so keeps (n, within, takes) rose =
      let done : List ℕ = replies fields so.done in
      let text : List ℕ = done ++ take n withheld.replies in
      let parts : replies fields lines ≡ text ++ drop n withheld.replies =
      so.held ∙ ap (λ (one : List ℕ). done ++ one) (sym (take-append-drop n withheld.replies))
      ∙ sym (append_assoc done (take n withheld.replies) (drop n withheld.replies)) in (
        rose_since (w.faults first.sink) (w.faults old.sink) (w.faults new.sink)
            so.grows.sink_rises rose,
        keeps.whole,
        (
          text,
          drop n withheld.replies,
          parts,
          kept_put new lines text (drop n withheld.replies) keeps parts
              (takes_both w.stands first.sink old.sink new.sink done (take n withheld.replies)
              so.has_put.put takes),
        ),
      )

  -- a failure is where it stopped
  pub stops_of_fails : (now : Outside M W) (lines : List (List ℕ)) (why : Halt AnswerFault)
      → FailsAt m w first now fields lines why → StopsAt m w first now fields lines why
  stops_of_fails now lines Write so = so
  stops_of_fails now lines (Own (Unkept fault)) so = so
  stops_of_fails now lines (Own Memory) so = absurd so

  -- where there is room now, lines go on as they were
  pub room_made : (now : Outside M W) (withheld : Withheld) (lines : List (List ℕ))
      (result : Result Unit (Halt AnswerFault))
      → OnOk result (withheld ≡ nothing_withheld)
      → PutsHeld m w first now fields lines result
      → OnOk result (Told m w first now withheld fields lines)
  room_made now withheld lines (Ok unit) empty so = rw empty so.all
  room_made now withheld lines (Err why) empty so = tt

  -- what was put is so still, where the memory only noted
  put_noted : (old : Outside M W) (new : M) (lines : List (List ℕ)) (text : List ℕ)
      → OnlyNotes m old.memory new
      → HasPut m w first old fields lines text
      → HasPut m w first (record old { memory = new }) fields lines text
  put_noted old new lines text only so =
      record {
        put = so.put;
        answered = λ honest found may.
            so.answered (only.honest honest) found (only.crash found may);
      }

  -- one line more
  pub line_told : (old : Outside M W) (new : M) (before withheld : Withheld)
      (earlier : List (List ℕ)) (bytes : List ℕ)
      → Told m w first old before fields earlier
      → OnlyNotes m old.memory new
      → withheld.replies ≡ before.replies ++ reply fields earlier bytes
      → ((entries : List Entry) → m.stands old.memory entries
      → m.stands new (with_noted (noted_of fields (lines_said fields earlier) (desk_line_of
      fields.devices bytes)) entries))
      → (withheld.is_noted ≡ false → (before.is_noted ≡ false) × (new ≡ old.memory)
      × (noted_of fields (lines_said fields earlier) (desk_line_of fields.devices bytes) ≡ None))
      → Told m w first (record old { memory = new }) withheld fields (bytes ∷ earlier)
  line_told old new before withheld earlier bytes so only holds notes quiet =
      let put : List ℕ = replies fields so.done in
      record {
        later = bytes ∷ so.later;
        done = so.done;
        parts = ap (λ (all : List (List ℕ)). bytes ∷ all) so.parts;
        has_put = put_of_more m w first (record old { memory = new }) fields (bytes ∷ []) earlier
            put (put_noted old new earlier put only so.has_put);
        held = ap (λ (text : List ℕ). text ++ reply fields earlier bytes) so.held
            ∙ append_assoc put before.replies (reply fields earlier bytes)
            ∙ ap (λ (text : List ℕ). put ++ text) (sym holds);
        has = notes (entries_after fields earlier) so.has;
        settled = λ none.
            let still = quiet none in
            rw (still.1, still.2) (so.settled still.0);
        grows = record {
          honest = λ sound. so.grows.honest (only.honest sound);
          memory_rises = omega (arith, so.grows.memory_rises, only.counted);
          sink_rises = so.grows.sink_rises;
        };
      }

  neither : (one two : Bool) → one || two ≡ false → (one ≡ false) × (two ≡ false)
  neither true two is = absurd (cc is)
  neither false two is = (refl, is)

  -- the reply to a line is held back
  pub reply_told : (old : Outside M W) (new : M) (before withheld : Withheld)
      (earlier : List (List ℕ)) (bytes : List ℕ) (desk : Desk) (said : DeskLine)
      (answer : ReplyFields)
      → desk_line_of fields.devices bytes ≡ said
      → Told m w first old before fields earlier
      → OnlyNotes m old.memory new
      → Answers m old.memory new desk fields (lines_said fields earlier) said (Ok answer)
      → withheld ≡ record {
        replies = before.replies ++ answer.text;
        is_noted = before.is_noted || answer.is_noted;
      }
      → TellsLines m w first (record old { memory = new }) withheld fields desk (bytes ∷ earlier)
  reply_told old new before withheld earlier bytes desk said answer says told only answers holds =
      record {
        told = line_told old new before withheld earlier bytes told only
            (ap (λ (one : Withheld). one.replies) holds
            ∙ ap (λ (text : List ℕ). before.replies ++ text)
            (answers.0 ∙ ap (reply_to fields (lines_said fields earlier)) (sym says)))
            (subst (λ (one : DeskLine). (entries : List Entry) → m.stands old.memory entries
            → m.stands new (with_noted (noted_of fields (lines_said fields earlier) one) entries))
            (sym says) answers.2)
            (λ none.
            let both = neither before.is_noted answer.is_noted
            (sym (ap (λ (one : Withheld). one.is_noted) holds) ∙ none) in
            let same = answers.3 both.1 in (
              both.0,
              same.0,
              ap (noted_of fields (lines_said fields earlier)) says ∙ same.1,
            ));
        stands = subst (λ (one : DeskLine). DeskStandsFor desk fields
            (with_said one (lines_said fields earlier))) (sym says) answers.1;
      }

  -- the memory failed at a line
  pub unkept_at_line : (old : Outside M W) (new : M) (withheld : Withheld)
      (earlier : List (List ℕ)) (bytes : List ℕ) (fault : MemoryFault)
      → Told m w first old withheld fields earlier
      → OnlyNotes m old.memory new
      → HasFailed m old.memory new fault
      → StopsAt m w first (record old { memory = new }) fields (bytes ∷ earlier)
      (Own (Unkept fault))
  unkept_at_line old new withheld earlier bytes fault told only failed =
      fails_more m w first (record old { memory = new }) fields (bytes ∷ []) earlier
      (Own (Unkept fault)) (
        failed_since m w first.memory old.memory new fault told.grows.memory_rises failed,
        (
          told.later,
          told.done,
          told.parts,
          put_noted old new earlier (replies fields told.done) only told.has_put,
        ),
      )

-- what is said by a line that is too long, and by one that is not
long_says : (long : Bool) (line : List ℕ) (says : DeskLine)
    → ◌≡◌ {A = Option (List ℕ)} None (if long then None else Some line)
    → (if long then TooLong else says) ≡ TooLong
long_says true line says is = refl
long_says false line says is = absurd (cc is)

pub says_long : (devices : List DeviceKey) (line : List ℕ) → None ≡ short_line line
    → desk_line_of devices line ≡ TooLong
says_long devices line is =
    long_says (nat_lt LONGEST_LINE (length line)) line
    (desk_line_of_words devices (words_of line)) is

is_short : (long : Bool) (line held : List ℕ)
    → ◌≡◌ {A = Option (List ℕ)} (Some held) (if long then None else Some line)
    → (long ≡ false) × (line ≡ held)
is_short true line held is = absurd (cc is)
is_short false line held is = (refl, cc is)

pub says_short : (devices : List DeviceKey) (line held : List ℕ) → Some held ≡ short_line line
    → desk_line_of devices line ≡ desk_line_of_words devices (words_of held)
says_short devices line held is =
    let short = is_short (nat_lt LONGEST_LINE (length line)) line held is in
    rw short.0 (ap (λ (one : List ℕ). desk_line_of_words devices (words_of one)) short.1)

-- without a reply nothing more is held back
pub nothing_more : (before : Withheld)
    → before ≡ record { replies = before.replies ++ []; is_noted = before.is_noted || false }
nothing_more before =
    λ i. record {
      replies = sym (append-nil before.replies) i;
      is_noted = sym (or-false before.is_noted) i;
    }

-- what was noted stays so where nothing is noted
pub marked_still : (before : Withheld) (text : List ℕ)
    → record before { replies = before.replies ++ text }
    ≡ record { replies = before.replies ++ text; is_noted = before.is_noted || false }
marked_still before text =
    ap (λ (noted : Bool). record { replies = before.replies ++ text; is_noted = noted })
    (sym (or-false before.is_noted))
