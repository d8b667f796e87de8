-- A play without its key, and two keys whose released words agree.
use Rattle.std.proofs.Common.{◌≡◌, ℕ, suc, List, [], ◌∷◌, ◌++◌, refl, ap, sym, ◌∙◌, arith, append-nil, subst}
use Rattle.device_types.specs.declared.bus_record.BusRecord.{BusRecord}
use Rattle.device_trace.specs.{Trace.{Play, byte_after, logs_after, released_words, trace}, Blank.{SameOutside, blank}, Logs.{Logs, logged_byte}, Start.{Start, without_key}}
use Rattle.key_isolation.{specs.Keyless.{Agree, ReleaseAlike, SameButKey, LooksAlike, LooksKeyless, keyless}, proofs.{FlagBlank.blank_record-twice, Hiding.{open_start, logged_byte-hide}, Induction.play_hides, TextBlank.play_text-hide}}

-- lists that agree are both beginnings of one list
record BeginsWithBoth (left right : List ℕ) : Type 0 where
  whole : List ℕ
  after_left : List ℕ
  after_right : List ℕ
  is_left : whole ≡ left ++ after_left
  is_right : whole ≡ right ++ after_right

agree_begin : (left right : List ℕ) → Agree left right → BeginsWithBoth left right
agree_begin [] right agree =
    record {
      whole = right;
      after_left = right;
      after_right = [];
      is_left = refl;
      is_right =
          sym (append-nil right);
    }
agree_begin (word ∷ left) [] agree =
    record {
      whole = word ∷ left;
      after_left = [];
      after_right = word ∷ left;
      is_left = sym (append-nil (word ∷ left));
      is_right = refl;
    }
agree_begin (word ∷ left) (word' ∷ right) agree =
    let rest = agree_begin left right
    (λ i in_left in_right. agree (suc i) (omega (arith, in_left)) (omega (arith, in_right))) in
    let same : word ≡ word' = agree 0 (omega arith) (omega arith) in
    record {
      whole = word ∷ rest.whole;
      after_left = rest.after_left;
      after_right = rest.after_right;
      is_left = ap (λ (words : List ℕ). word ∷ words) rest.is_left;
      is_right = λ i. same i ∷ rest.is_right i;
    }

-- two starts without their keys are one start, where the released words agree
pub record AreOneKeyless (left right : Start) (play : Play) : Type 0 where
  pub after_left : List ℕ
  pub after_right : List ℕ
  pub same : keyless left play after_left ≡ keyless right play after_right

pub one_keyless : (left right : Start) (play : Play) → SameButKey left right
    → ReleaseAlike left right play → AreOneKeyless left right play
one_keyless left right play same agree =
    let both = agree_begin (released_words left play) (released_words right play) agree in
    record {
      after_left = both.after_left;
      after_right = both.after_right;
      same = λ i. without_key (same.1 i) ((sym both.is_left ∙ both.is_right) i) (same.0 i);
    }

pub keyless-same : (start other : Start) (play : Play) (more : List ℕ) → SameButKey start other
    → released_words start play ≡ released_words other play
    → keyless start play more ≡ keyless other play more
keyless-same start other play more same words =
    λ i. without_key (same.1 i) (words i ++ more) (same.0 i)

blank-twice : (history : List BusRecord) → blank (blank history) ≡ blank history
blank-twice [] = refl
blank-twice (entry ∷ history) =
    λ i. blank_record-twice entry i ∷ blank-twice history i

pub byte-hide : (start : Start) (free : List ℕ) (play : Play) (more : List ℕ)
    → free ≡ released_words start play ++ more
    → SameOutside (byte_after start play) (byte_after (open_start free start) play)
byte-hide start free play more split place off =
    sym (logged_byte-hide start free (logs_after start play) place off)
    ∙ ap (λ (logs : Logs). logged_byte (open_start free start) logs place)
    (play_hides start free play more split).logs

pub looks_keyless : (start : Start) (play : Play) → LooksKeyless start play
looks_keyless start play more =
    record {
      same_text = play_text-hide start (released_words start play ++ more) play more refl;
      same_history =
          sym (blank-twice (trace start play))
          ∙ ap blank (play_hides start (released_words start play ++ more) play more refl).history;
      same_memory = byte-hide start (released_words start play ++ more) play more refl;
    }

-- two starts look alike where both look like a third
both_alike : (left right third : Start) (play : Play) → LooksAlike left third play
    → LooksAlike right third play → LooksAlike left right play
both_alike left right third play of_left of_right =
    record {
      same_text = of_left.same_text ∙ sym of_right.same_text;
      same_history = of_left.same_history ∙ sym of_right.same_history;
      same_memory = λ place off.
          of_left.same_memory place off ∙ sym (of_right.same_memory place off);
    }

pub looks_alike : (left right : Start) (play : Play) → SameButKey left right
    → ReleaseAlike left right play → LooksAlike left right play
looks_alike left right play same agree =
    let one = one_keyless left right play same agree in
    both_alike left right (keyless right play one.after_right) play
    (subst (λ (start : Start). LooksAlike left start play) one.same
    (looks_keyless left play one.after_left))
    (looks_keyless right play one.after_right)
