-- The same number again.
use Rattle.std.{proofs.{Common.{◌≡◌, ◌∙◌, ℕ, true, false, List, Option, Some, None, refl, arith, ap, sym, subst, inl, inr}, lemmas.{Bool.{cases_Bool, Decides.nat_tests}, Slice.Eq.bytes_eq-Decides}}, specs.{Prelude.{if◌then◌else◌, option_map}, Str.bytes_eq}}
use Rattle.desk_memory.specs.{declared.{answer.Answer.{Answer, TheVariants.Stale}, device_state.DeviceState.DeviceState}, DeviceState.{by_number, is_new, under_new_key, with_answer}, Entry.{Entry, entry_at, entry_state, home_of}}
use Rattle.verifier_desk.{specs.{DeviceReply.new_answer, Judged.{JudgedLine, answer_to, entry_after, is_new_to, mark_of, state_before}, Law.IsRepeated}, proofs.AcceptedOnce.new_by_number}

-- a device's last entry has the number of a line and what was answered to it, under its key
pub record HasAnswer (after : Option Entry) (now : JudgedLine) (answer : Answer) : Type 0 where
  pub entry : Entry
  pub is : after ≡ Some entry
  pub marked : entry.mark ≡ mark_of now
  pub last : entry.state.last ≡ Some (now.line.number, answer)

-- the last number is answered by what was kept
kept_last : (number : ℕ) (last : Option (ℕ × Answer)) (answer : Answer)
    → is_new number last ≡ false
    → (by_number number last answer ≡ Stale → ⊥)
    → last ≡ Some (number, by_number number last answer)
kept_last number None answer old fresh = absurd (cc old)
kept_last number (Some (last, kept)) answer old fresh = grind (arith, nat_tests, old, fresh)

-- which another key's is not
renewed_is_stale : (number : ℕ) (last : Option (ℕ × Answer)) (answer : Answer)
    → is_new number (option_map (λ (last : ℕ × Answer). (last.0, Stale)) last) ≡ false
    → by_number number (option_map (λ (last : ℕ × Answer). (last.0, Stale)) last) answer ≡ Stale
renewed_is_stale number None answer old = absurd (cc old)
renewed_is_stale number (Some (last, kept)) answer old = grind (arith, nat_tests, old)

old_entry : (mark : List ℕ) (number : ℕ) (entry : Entry) (answer : Answer)
    → is_new number (entry_state mark entry).last ≡ false
    → (by_number number (entry_state mark entry).last answer ≡ Stale → ⊥)
    → (entry.mark ≡ mark)
    × (entry.state.last ≡ Some (number, by_number number (entry_state mark entry).last answer))
old_entry mark number entry answer old fresh = elim (cases_Bool (bytes_eq entry.mark mark)) [
  | inl same ↦
      rw same (
        (bytes_eq-Decides entry.mark mark).0 same,
        kept_last number entry.state.last answer (rw same at old) (rw same at fresh),
      )
  | inr other ↦
      absurd ((rw other at fresh)
      (renewed_is_stale number entry.state.last answer (rw other at old)))
]

answered_anew : (name : List ℕ) (entry : Option Entry) (now : JudgedLine)
    → is_new_to entry now ≡ true
    → HasAnswer (entry_after name entry now) now (answer_to entry now)
answered_anew name entry now new =
    let state : DeviceState = state_before entry now in
    let answer : Answer = new_answer now.judge state now.line in
    record {
      entry = entry_at (home_of entry) (record {
        name = name;
        mark = mark_of now;
        state = with_answer state now.line.number answer;
      });
      is = rw new refl;
      marked = refl;
      last = ap (λ (one : Answer). Some (now.line.number, one))
          (sym (new_by_number now.line.number state.last answer new));
    }

answered_before : (name : List ℕ) (entry : Option Entry) (now : JudgedLine)
    → is_new_to entry now ≡ false
    → (answer_to entry now ≡ Stale → ⊥)
    → HasAnswer (entry_after name entry now) now (answer_to entry now)
answered_before name None now old fresh = absurd (cc old)
answered_before name (Some entry) now old fresh =
    let found = old_entry (mark_of now) now.line.number entry
    (new_answer now.judge (state_before (Some entry) now) now.line) old fresh in
    record {
      entry = entry;
      is = rw old refl;
      marked = found.0;
      last = found.1;
    }

-- whatever is answered but by `stale`
pub has_answer : (name : List ℕ) (entry : Option Entry) (now : JudgedLine)
    → (answer_to entry now ≡ Stale → ⊥)
    → HasAnswer (entry_after name entry now) now (answer_to entry now)
has_answer name entry now fresh = elim (cases_Bool (is_new_to entry now)) [
  | inl new ↦ answered_anew name entry now new
  | inr old ↦ answered_before name entry now old fresh
]

same_number : (number again : ℕ) (answer other : Answer) → again ≡ number
    → (by_number again (Some (number, answer)) other ≡ answer)
    × (is_new again (Some (number, answer)) ≡ false)
same_number number again answer other same =
    (grind (arith, nat_tests, same), grind (arith, nat_tests, same))

-- what comes of the same number, where this is the last entry, and this the state under its key
again_in : (name : List ℕ) (entry : Entry) (again : JudgedLine) (state : DeviceState) (number : ℕ)
    (answer : Answer)
    → state_before (Some entry) again ≡ state
    → state.last ≡ Some (number, answer)
    → again.line.number ≡ number
    → (answer_to (Some entry) again ≡ answer)
    × (entry_after name (Some entry) again ≡ Some entry)
again_in name entry again state number answer is last same =
    let next : Answer = new_answer again.judge state again.line in
    let found = same_number number again.line.number answer next same in
    let old : is_new_to (Some entry) again ≡ false =
    ap (λ (one : DeviceState). is_new again.line.number one.last) is
    ∙ ap (is_new again.line.number) last ∙ found.1 in (
      ap (λ (one : DeviceState). by_number again.line.number one.last
          (new_answer again.judge one again.line)) is
          ∙ ap (λ (one : Option (ℕ × Answer)). by_number again.line.number one next) last
          ∙ found.0,
      rw old refl,
    )

again_at : (name : List ℕ) (entry : Entry) (again : JudgedLine) (number : ℕ) (answer : Answer)
    → again.line.number ≡ number
    → entry.state.last ≡ Some (number, answer)
    → (answer_to (Some entry) again
    ≡ (if bytes_eq entry.mark (mark_of again) then answer else Stale))
    × (entry_after name (Some entry) again ≡ Some entry)
again_at name entry again number answer same last =
    elim (cases_Bool (bytes_eq entry.mark (mark_of again))) [
      | inl mine ↦
          let state : entry_state (mark_of again) entry ≡ entry.state = rw mine refl in
          let told : (if bytes_eq entry.mark (mark_of again) then answer else Stale) ≡ answer =
          rw mine refl in
          let found = again_in name entry again entry.state number answer state last same in
          (found.0 ∙ sym told, found.1)
      | inr other ↦
          let state : entry_state (mark_of again) entry
          ≡ under_new_key entry.state = rw other refl in
          let told : (if bytes_eq entry.mark (mark_of again) then answer else Stale) ≡ Stale =
          rw other refl in
          let found = again_in name entry again (under_new_key entry.state) number Stale state
          (ap (option_map (λ (last : ℕ × Answer). (last.0, Stale))) last) same in
          (found.0 ∙ sym told, found.1)
    ]

pub answer_is_repeated : IsRepeated
answer_is_repeated name entry now again same fresh =
    let kept : HasAnswer (entry_after name entry now) now (answer_to entry now) =
    has_answer name entry now fresh in
    let answer : Answer = answer_to entry now in
    subst (λ (after : Option Entry).
    (answer_to after again ≡ (if bytes_eq (mark_of now) (mark_of again) then answer else Stale))
    × (entry_after name after again ≡ after)) (sym kept.is)
    (subst (λ (mark : List ℕ).
    (answer_to (Some kept.entry) again ≡ (if bytes_eq mark (mark_of again) then answer else Stale))
    × (entry_after name (Some kept.entry) again ≡ Some kept.entry)) kept.marked
    (again_at name kept.entry again now.line.number answer same kept.last))
