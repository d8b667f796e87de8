-- A memory in which entries are noted, one after the other, and which then settles.
use Rattle.std.{proofs.{Common.{◌≡◌, ◌∙◌, ◌<◌, ◌≤◌, ◌+◌, ◌++◌, ◌∷◌, ◌⊎◌, ℕ, List, [], length, refl, take, get_or, Result, Ok, Err, inl, inr, ap, sym, arith}, lemmas.List.take_more}, specs.{Prelude.{IfErr, IsErrAnd, OnOk}, Result.result_err}}
use Rattle.desk_memory.specs.{declared.{memory.Memory.Ghosts as MemoryGhosts, memory_fault.MemoryFault.MemoryFault}, Entry.{Entry, with_entries, with_entry}, Kept.{IsKept, LeavesOr}}
use Rattle.verifier_desk.specs.Serving.{HasFailed}
use Rattle.desk_cli.specs.Noting.{HasNoted}

-- these entries were noted, and the memory has not settled
pub record Notes {M : Type 0} (m : MemoryGhosts M) (opened now : M) (entries : List Entry)
    : Type 0 where
  pub has : (had : List Entry) → m.stands opened had → m.stands now (with_entries had entries)
  pub crash : (found : List Entry) → m.may_leave now found → m.may_leave opened found
  pub honest : m.is_honest now → m.is_honest opened
  pub counted : m.faults opened ≤ m.faults now

pub notes-none : {M : Type 0} (m : MemoryGhosts M) (opened : M) → Notes m opened opened []
notes-none m opened = record {
  has = λ had stands. stands;
  crash = λ found leaves. leaves;
  honest = λ honest. honest;
  counted = omega arith;
}

pub noted-last : (had entries : List Entry) (entry : Entry)
    → with_entries had (entries ++ entry ∷ []) ≡ with_entry (with_entries had entries) entry
noted-last had [] entry = refl
noted-last had (first ∷ entries) entry = noted-last (with_entry had first) entries entry

entries-next : (had entries : List Entry) (i : ℕ) (d entry : Entry) → i < length entries
    → entry ≡ get_or entries i d
    → with_entries had (take (i + 1) entries)
    ≡ with_entry (with_entries had (take i entries)) entry
entries-next had entries i d entry below is =
    ap (λ (all : List Entry). with_entries had all) (take_more entries i d below)
    ∙ noted-last had (take i entries) (get_or entries i d)
    ∙ ap (λ (next : Entry). with_entry (with_entries had (take i entries)) next) (sym is)

-- one more was noted
pub notes-next : {M : Type 0} (m : MemoryGhosts M) (opened mid now : M) (entries : List Entry)
    (i : ℕ) (d entry : Entry)
    → i < length entries → entry ≡ get_or entries i d
    → Notes m opened mid (take i entries)
    → (m.is_honest now → m.is_honest mid)
    → ((had : List Entry) → m.stands mid had → m.stands now (with_entry had entry))
    → ((found : List Entry) → m.may_leave now found → m.may_leave mid found)
    → m.faults mid ≤ m.faults now
    → Notes m opened now (take (i + 1) entries)
notes-next m opened mid now entries i d entry below is notes honest noted crash counted = record {
  has = λ had stands. rw (entries-next had entries i d entry below is)
      (noted (with_entries had (take i entries)) (notes.has had stands));
  crash = λ found leaves. notes.crash found (crash found leaves);
  honest = λ now_honest. notes.honest (honest now_honest);
  counted = omega (arith, notes.counted, counted);
}

-- a call that failed later has failed since the memory was opened
failed-since : {M : Type 0} (m : MemoryGhosts M) (opened mid now : M) (fault : MemoryFault)
    → m.faults opened ≤ m.faults mid
    → HasFailed m mid now fault → HasFailed m opened now fault
failed-since m opened mid now fault counted (inl lacks) = inl lacks
failed-since m opened mid now fault counted (inr (inl more)) = inr (inl (omega arith))
failed-since m opened mid now fault counted (inr (inr most)) = inr (inr most)

-- an entry was not noted
pub note-failed : {M V : Type 0} (m : MemoryGhosts M) (opened mid now : M)
    (noted all : List Entry) (fault : MemoryFault) (result : Result V MemoryFault)
    → Notes m opened mid noted
    → (m.is_honest now → m.is_honest mid)
    → ((found : List Entry) → m.may_leave now found → m.may_leave mid found)
    → HasFailed m mid now fault
    → IsErrAnd result (λ error. error ≡ fault)
    → HasNoted m opened now all (result_err result)
note-failed m opened mid now noted all fault (Ok value) notes honest crash failed is = absurd is
note-failed m opened mid now noted all fault (Err error) notes honest crash failed is =
    rw is (record {
      honest = λ now_honest. notes.honest (honest now_honest);
      keeps = λ none. absurd (cc none);
      cause = failed-since m opened mid now fault notes.counted failed;
      whole = λ now_honest found leaves. inl (notes.crash found (crash found leaves));
    })

whole-where : {M : Type 0} (m : MemoryGhosts M) (opened mid : M) (entries all found : List Entry)
    → Notes m opened mid entries
    → m.may_leave mid found ⊎ (found ≡ all)
    → m.may_leave opened found ⊎ (found ≡ all)
whole-where m opened mid entries all found notes (inl leaves) = inl (notes.crash found leaves)
whole-where m opened mid entries all found notes (inr same) = inr same

-- all were noted, and the memory settled, or did not
pub notes-settled : {M V : Type 0} (m : MemoryGhosts M) (opened mid now : M)
    (entries had : List Entry) (result : Result V MemoryFault)
    → Notes m opened mid entries
    → (m.is_honest now → m.is_honest mid)
    → OnOk result ((all : List Entry) → m.stands mid all → m.stands now all)
    → OnOk result ((all : List Entry) → m.stands mid all → m.is_honest now
    → IsKept m.may_leave now all)
    → OnOk result (m.is_whole now)
    → ((all : List Entry) → m.stands mid all → m.is_honest now → LeavesOr m.may_leave mid now all)
    → IfErr result (λ fault. HasFailed m mid now fault)
    → m.stands opened had
    → HasNoted m opened now (with_entries had entries) (result_err result)
notes-settled m opened mid now entries had (Ok value) notes honest same kept alone crash failed
    has =
    let stands = notes.has had has in
    record {
      honest = λ now_honest. notes.honest (honest now_honest);
      keeps = λ none. record {
        has = same (with_entries had entries) stands;
        keeps = kept (with_entries had entries) stands;
        whole = λ now_honest. alone;
      };
      cause = tt;
      whole = λ now_honest found leaves. whole-where m opened mid entries
          (with_entries had entries) found notes
          (crash (with_entries had entries) stands now_honest found leaves);
    }
notes-settled m opened mid now entries had (Err fault) notes honest same kept alone crash failed
    has =
    let stands = notes.has had has in
    record {
      honest = λ now_honest. notes.honest (honest now_honest);
      keeps = λ none. absurd (cc none);
      cause = failed-since m opened mid now fault notes.counted failed;
      whole = λ now_honest found leaves. whole-where m opened mid entries
          (with_entries had entries) found notes
          (crash (with_entries had entries) stands now_honest found leaves);
    }
