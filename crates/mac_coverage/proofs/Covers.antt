-- The MAC covers a call so far, and one that a refused step breaks off.
use Rattle.std.{proofs.{Common.{◌≡◌, ℕ, ◌+◌, ◌<◌, ◌≤◌, Bool, true, false, List, [], ◌∷◌, ◌++◌, drop, inl, inr, Option, Some, None, length, refl, ap, sym, ◌∙◌, arith, subst}, lemmas.{Bool.{cases_lt, cond-false, cond-true, eq-eqb, eqb-true, le-ltb, lt-ltb}, List.{take-append-drop, FromFn.take-map-range_with_len}}}, specs.Prelude.{◌==◌, ◌&&◌, is_none, is_some, nat_lt, if◌then◌else◌}}
use Rattle.device_types.specs.{declared.{bus_record.BusRecord.BusRecord, event.Event.Event, rule.Rule.Rule}}
use Rattle.part_definitions.specs.{Attestation.word_of_bytes, Request.ATTESTS}
use Rattle.device_trace.specs.{Trace.{Play, byte_after, trace}, Logs.{decision_after, call_decision, finishes_call, released_words_after}, Progress.Progress, Text.last_decision}
use Rattle.mac_coverage.{specs.{AttestedBytes.call_words, Coverage.{ends_finished, last_call, MacCoversCall}}, proofs.{Calls.{CallSoFar, before-last, earlier_records, entry_at}, Device.start_of, MacStored.{MacStands, mac-is}, Passes.{decision_words, mac_count, words_written}, WordPlan.{Plan, first_mac_words, planned_decision, planned_region, planned_tag}, Words.are_bytes}}

-- the words of the MAC that are written, and the others
few_words : (plan : Plan) (count : ℕ) → count ≤ 16
    → first_mac_words plan count ++ drop count (first_mac_words plan 16)
    ≡ first_mac_words plan 16
few_words plan count within =
    ap (λ (words : List ℕ). words ++ drop count (first_mac_words plan 16))
    (sym (take-map-range_with_len (word_of_bytes (planned_tag plan)) 0 16 count within))
    ∙ take-append-drop count (first_mac_words plan 16)

-- the first words of a whole call
record IsPrefix (plan : Plan) (index : ℕ) : Type 0 where
  later : List ℕ
  is :
      words_written plan index ++ later
      ≡ call_words plan.device.digest plan.device.key plan.contents plan.kept
  whole : 77 ≤ index
      → ((planned_decision plan ≡ ATTESTS) → mac_count plan index ≡ 16)
      → later ≡ []

early-prefix : (plan : Plan) (index : ℕ) → index < 77 → IsPrefix plan index
early-prefix plan index early =
    let none : mac_count plan index ≡ 0 = omega (arith, early) in
    let decision : decision_words plan index ≡ [] =
    cond-true (nat_lt index 77) [] _ (lt-ltb index 77 early) in
    let all : List ℕ =
    call_words plan.device.digest plan.device.key plan.contents plan.kept in
    record {
      later = all;
      is = λ j. (decision j ++ first_mac_words plan (none j)) ++ all;
      whole = λ past fills. absurd (omega (arith, early, past));
    }

late-prefix : (plan : Plan) (index : ℕ) (attests : Bool)
    → (planned_decision plan == ATTESTS) ≡ attests
    → 77 ≤ index → index ≤ 125 + planned_region plan
    → (78 ≤ index → planned_decision plan ≡ ATTESTS)
    → IsPrefix plan index
late-prefix plan index true attests past fits goes_on =
    let decision : ℕ = planned_decision plan in
    let count : ℕ = mac_count plan index in
    let all : List ℕ = first_mac_words plan 16 in
    record {
      later = drop count all;
      is =
          ap (λ (words : List ℕ). (words ++ first_mac_words plan count) ++ drop count all)
          (cond-false (nat_lt index 77) [] (decision ∷ []) (le-ltb index 77 past))
          ∙ ap (λ (words : List ℕ). decision ∷ words)
          (few_words plan count (omega (arith, fits))
          ∙ sym (cond-true (decision == ATTESTS) all [] attests));
      whole = λ later fills.
          ap (λ (n : ℕ). drop n all) (fills (eqb-true decision ATTESTS attests));
    }
late-prefix plan index false denied past fits goes_on =
    let decision : ℕ = planned_decision plan in
    elim (cases_lt index 78) [
      | inl last ↦
          let none : mac_count plan index ≡ 0 = omega (arith, last) in
          let same = cond-false (nat_lt index 77) [] (decision ∷ []) (le-ltb index 77 past) in
          record {
            later = [];
            is =
                (λ j. (same j ++ first_mac_words plan (none j)) ++ [])
                ∙ ap (λ (words : List ℕ). decision ∷ words)
                (sym (cond-false (decision == ATTESTS) (first_mac_words plan 16) [] denied));
            whole = λ later fills. refl;
          }
      | inr more ↦
          (let wrong : true ≡ false = sym (eq-eqb decision ATTESTS (goes_on more)) ∙ denied in
          absurd (cc))
    ]

call-prefix : (plan : Plan) (index : ℕ)
    → index ≤ 125 + planned_region plan
    → (78 ≤ index → planned_decision plan ≡ ATTESTS)
    → IsPrefix plan index
call-prefix plan index fits goes_on =
    elim (cases_lt index 77) [
      | inl early ↦ early-prefix plan index early
      | inr past ↦
          late-prefix plan index (planned_decision plan == ATTESTS) refl past fits goes_on
    ]

-- the MAC covers a call so far
pub covers_so_far : (plan : Plan) (play : Play) (words : List ℕ)
    → CallSoFar plan play (last_call (trace (start_of plan.device) play)) words
    → (ends_finished (trace (start_of plan.device) play) ≡ true
    → (77 ≤ length words)
    × ((planned_decision plan ≡ ATTESTS) → mac_count plan (length words) ≡ 16))
    → (ends_finished (trace (start_of plan.device) play) ≡ true
    → last_decision (start_of plan.device) play
    ≡ Some (planned_decision plan))
    → MacCoversCall plan.device.digest plan.device.key (start_of plan.device) play
covers_so_far plan play words so_far fills tells =
    let prefix : IsPrefix plan (length words) =
    call-prefix plan (length words) so_far.fits so_far.attests in
    let stood = so_far.stood in
    record {
      contents = plan.contents;
      kept = plan.kept;
      before = stood.before;
      kept_before = stood.kept_before;
      throughout = λ later earlier parts within unrefused.
          stood.throughout later earlier parts within;
      counter = λ later earlier parts within unrefused. stood.counter later earlier parts within;
      later = prefix.later;
      words =
          ap (λ (words : List ℕ). words ++ prefix.later) so_far.written ∙ prefix.is;
      whole = λ finishes.
          let full = fills finishes in prefix.whole full.0 full.1;
      told = tells;
      stored = λ finishes attests gives.
          let full = fills finishes in
          mac-is (byte_after (start_of plan.device) play) (planned_tag plan)
          (gives.size _)
          (subst
          (MacStands (byte_after (start_of plan.device) play)
          (planned_tag plan)) (full.1 attests)
          (so_far.stored (are_bytes (planned_tag plan) (gives.bytes _))));
    }

-- a step that was refused
released-refused : (rule : Option Rule) (entry : BusRecord) (words : List ℕ)
    → is_some rule ≡ true → released_words_after rule entry.kind entry.cpu words ≡ words
released-refused None entry words refuses = absurd (cc)
released-refused (Some rule) entry words refuses = refl

no_finish : (rule : Option Rule) (ends : Bool) → is_some rule ≡ true
    → (ends && is_none rule) ≡ true → ⊥
no_finish rule ends refuses finishes = grind arith

-- what a step tells of a call that it finishes
pub decision_after-finishes : (progress : Progress) (entry : BusRecord) (decision : ℕ)
    → decision_after progress entry ≡ Some decision
    → (finishes_call entry ≡ true) × (call_decision progress ≡ Some decision)
decision_after-finishes progress entry decision is = by_case (finishes_call entry) is
  where
    by_case : (test : Bool) → (if test then call_decision progress else None) ≡ Some decision
        → (test ≡ true) × (call_decision progress ≡ Some decision)
    by_case true is = (refl, is)
    by_case false is = absurd (cc)

pub covers_refused : (plan : Plan) (play : Play) (events : List Event) (words : List ℕ)
    → is_some (entry_at plan.device play events).reset ≡ true
    → CallSoFar plan play (earlier_records plan.device play events) words
    → MacCoversCall plan.device.digest plan.device.key (start_of plan.device) (events ∷ play)
unfolding trace
covers_refused plan play events words refuses so_far =
    let entry : BusRecord = entry_at plan.device play events in
    let stood = so_far.stood in
    let prefix : IsPrefix plan (length words) =
    call-prefix plan (length words) so_far.fits so_far.attests in
    record {
      contents = plan.contents;
      kept = plan.kept;
      before = stood.before;
      kept_before = stood.kept_before;
      throughout = λ later earlier parts within unrefused.
          before-last _ events play _ stood.throughout later earlier parts within
          (unrefused refuses);
      counter = λ later earlier parts within unrefused.
          before-last _ events play _ stood.counter later earlier parts within (unrefused refuses);
      later = prefix.later;
      words =
          ap (λ (words : List ℕ). words ++ prefix.later)
          (released-refused entry.reset entry _ refuses ∙ so_far.written)
          ∙ prefix.is;
      whole = λ finishes. absurd (no_finish entry.reset _ refuses finishes);
      told = λ finishes. absurd (no_finish entry.reset _ refuses finishes);
      stored = λ finishes. absurd (no_finish entry.reset _ refuses finishes);
    }
