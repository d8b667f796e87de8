-- What the words that passed in a call mean, as more of them pass.
use Rattle.std.{proofs.{Common.{◌≡◌, ◌<◌, ◌≤◌, ◌+◌, ◌++◌, ◌∷◌, ◌∙◌, [], ℕ, List, length, length-append, take, drop, ap, sym, arith, ◌/◌, ◌%◌, ◌^◌, append_assoc, get_or, refl, false, Some, inl, inr, subst}, Math.ListN.get_or-append, lemmas.{List.{take-append-le, drop-append-le, take_all, drop_all, length-drop, take_more}, Bool.{cases_Bool, eqb-true, cond-true, cond-false, Decides.nat_tests}}}, specs.Prelude.{◌==◌, slice_index, if◌then◌else◌}}
use Rattle.part_definitions.{specs.{Attestation.{bounds_read, region_words, bytes_of_words, key_read, metadata_read, region_read, kept_read, decision_read, decision_in, counter_word, metadata_word, derived_key, call_key, inner_in, tag_in, ReturnRead, item_access, item_pc, is_return, call_item, written_word}, Request.ATTESTS, BusAccess.read_at}, proofs.CallItems.{item_after, item_after-is}}
use Rattle.word_arith.specs.declared.size.Size.TheVariants.{Word}
use Rattle.hmac_core.specs.Hash.{Hash}
use Rattle.swatt_rom.specs.{RomCall.{RomCall, NoCall, InCall, AfterCall, end_of_call, next_word, after_value, rom_access, rom_pc}, Phase.IsBeforeReturn, Rom.StateStandsFor, declared.{call_end.CallEnd.CallEnd, state.State.TheVariants.{Returns, Leaves}}}

-- Words as their bytes in memory order.

pub bytes_of_words-append :
    (xs ys : List ℕ) → bytes_of_words (xs ++ ys) ≡ bytes_of_words xs ++ bytes_of_words ys
bytes_of_words-append [] ys = refl
bytes_of_words-append (x ∷ xs) ys =
    ap (λ bytes. x % 256 ∷ x / 256 ∷ bytes) (bytes_of_words-append xs ys)

-- the bytes of one word more
pub bytes_of_words-more :
    (words : List ℕ) (i : ℕ) (bytes : List ℕ) (low high : ℕ)
    → i < length words
    → bytes ≡ bytes_of_words (take i words)
    → low ≡ get_or words i 0 % 256
    → high ≡ get_or words i 0 / 256 % 256
    → get_or words i 0 < 2 ^ 16
    → (bytes ++ low ∷ []) ++ high ∷ [] ≡ bytes_of_words (take (i + 1) words)
bytes_of_words-more words i bytes low high within same is_low is_high fits =
    let is_whole : high ≡ get_or words i 0 / 256 = omega arith in
    append_assoc bytes (low ∷ []) (high ∷ [])
    ∙ ap (λ prefix. prefix ++ low ∷ high ∷ []) same
    ∙ ap (λ byte. bytes_of_words (take i words) ++ byte ∷ high ∷ []) is_low
    ∙ ap (λ byte. bytes_of_words (take i words) ++ get_or words i 0 % 256 ∷ byte ∷ []) is_whole
    ∙ sym (bytes_of_words-append (take i words) (get_or words i 0 ∷ []))
    ∙ ap bytes_of_words (sym (take_more words i 0 within))

-- how many words of the region a call with these words reads
abbrev pub region_in : List ℕ → ℕ
region_in words = region_words (bounds_read words)

pub bounds_read-append :
    (xs ys : List ℕ) → 52 ≤ length xs → bounds_read (xs ++ ys) ≡ bounds_read xs
bounds_read-append xs ys enough =
    cc (
      get_or-append xs ys 0 48 (omega arith),
      get_or-append xs ys 0 49 (omega arith),
      get_or-append xs ys 0 50 (omega arith),
      get_or-append xs ys 0 51 (omega arith),
    )

pub region_in-append : (xs ys : List ℕ) → 52 ≤ length xs → region_in (xs ++ ys) ≡ region_in xs
region_in-append xs ys enough = ap region_words (bounds_read-append xs ys enough)

pub key_read-append : (xs ys : List ℕ) → 32 ≤ length xs → key_read (xs ++ ys) ≡ key_read xs
key_read-append xs ys enough = ap bytes_of_words (take-append-le 32 xs ys enough)

pub metadata_read-append :
    (xs ys : List ℕ) → 72 ≤ length xs → metadata_read (xs ++ ys) ≡ metadata_read xs
metadata_read-append xs ys enough =
    ap (λ words. bytes_of_words (take 40 words)) (drop-append-le 32 xs ys (omega arith))
    ∙ ap bytes_of_words (take-append-le 40 (drop 32 xs) ys (omega (arith, length-drop 32 xs)))

pub call_key-append :
    (digest : List ℕ → List ℕ) (xs ys : List ℕ)
    → 72 ≤ length xs
    → call_key digest (xs ++ ys) ≡ call_key digest xs
call_key-append digest xs ys enough =
    ap (λ key. derived_key digest key (metadata_read (xs ++ ys)))
    (key_read-append xs ys (omega arith))
    ∙ ap (derived_key digest (key_read xs)) (metadata_read-append xs ys enough)

pub kept_read-append : (xs ys : List ℕ) → 74 ≤ length xs → kept_read (xs ++ ys) ≡ kept_read xs
kept_read-append xs ys enough =
    ap (λ words. bytes_of_words (take 2 words)) (drop-append-le 72 xs ys (omega arith))
    ∙ ap bytes_of_words (take-append-le 2 (drop 72 xs) ys (omega (arith, length-drop 72 xs)))

pub decision_read-append : (xs ys : List ℕ) → 77 ≤ length xs
    → decision_read (xs ++ ys) ≡ decision_read xs
decision_read-append xs ys enough = get_or-append xs ys 0 76 (omega arith)

pub decision_in-append : (digest : List ℕ → List ℕ) (xs ys : List ℕ) → 74 ≤ length xs
    → decision_in digest (xs ++ ys) ≡ decision_in digest xs
decision_in-append digest xs ys enough =
    cc (
      key_read-append xs ys (omega arith),
      metadata_read-append xs ys (omega arith),
      kept_read-append xs ys enough,
    )

pub counter_word-append : (xs ys : List ℕ) (decision i : ℕ) → 74 ≤ length xs → i < 2
    → counter_word (xs ++ ys) decision i ≡ counter_word xs decision i
counter_word-append xs ys decision i enough within =
    ap (λ word. if decision == ATTESTS then word else slice_index (xs ++ ys) (72 + i))
    (get_or-append xs ys 0 (32 + (22 + i)) (omega arith))
    ∙ ap (λ word. if decision == ATTESTS then metadata_word xs (22 + i) else word)
    (get_or-append xs ys 0 (72 + i) (omega arith))

-- before the region begins none of it was read
pub region_read-before : (xs : List ℕ) → length xs ≤ 93 → region_read xs ≡ []
region_read-before xs few =
    ap (λ words. bytes_of_words (take (region_in xs) words)) (drop_all 93 xs few)
    ∙ ap bytes_of_words (take_all (region_in xs) [] (omega arith))

-- a word of the region is read
pub region_read-more :
    (xs : List ℕ) (word : ℕ)
    → 93 ≤ length xs
    → length xs < 93 + region_in xs
    → region_read (xs ++ word ∷ []) ≡ region_read xs ++ bytes_of_words (word ∷ [])
region_read-more xs word begins later =
    let same = region_in-append xs (word ∷ []) (omega arith) in
    let size = length-append (drop 93 xs) (word ∷ []) in
    ap (λ words. bytes_of_words (take (region_in (xs ++ word ∷ [])) words))
    (drop-append-le 93 xs (word ∷ []) begins)
    ∙ ap bytes_of_words
    (take_all (region_in (xs ++ word ∷ [])) (drop 93 xs ++ word ∷ [])
    (omega (arith, length-drop 93 xs, size, same)))
    ∙ bytes_of_words-append (drop 93 xs) (word ∷ [])
    ∙ ap (λ bytes. bytes ++ bytes_of_words (word ∷ []))
    (sym (ap bytes_of_words
    (take_all (region_in xs) (drop 93 xs) (omega (arith, length-drop 93 xs)))))

-- the region was read
pub region_read-append :
    (xs ys : List ℕ) → 93 + region_in xs ≤ length xs → region_read (xs ++ ys) ≡ region_read xs
region_read-append xs ys over =
    let same : region_in (xs ++ ys) ≡ region_in xs = region_in-append xs ys (omega arith) in
    ap (λ region. bytes_of_words (take region (drop 93 (xs ++ ys)))) same
    ∙ ap (λ words. bytes_of_words (take (region_in xs) words))
    (drop-append-le 93 xs ys (omega arith))
    ∙ ap bytes_of_words
    (take-append-le (region_in xs) (drop 93 xs) ys (omega (arith, length-drop 93 xs)))

pub inner_in-append :
    (digest : List ℕ → List ℕ) (xs ys : List ℕ)
    → 93 + region_in xs ≤ length xs
    → inner_in digest (xs ++ ys) ≡ inner_in digest xs
inner_in-append digest xs ys over =
    cc (
      call_key-append digest xs ys (omega arith),
      metadata_read-append xs ys (omega arith),
      region_read-append xs ys over,
    )

pub tag_in-append :
    (digest : List ℕ → List ℕ) (xs ys : List ℕ)
    → 93 + region_in xs ≤ length xs
    → tag_in digest (xs ++ ys) ≡ tag_in digest xs
tag_in-append digest xs ys over =
    cc (
      key_read-append xs ys (omega arith),
      metadata_read-append xs ys (omega arith),
      region_read-append xs ys over,
    )

-- The return read of a call.

attests-return : (region decision count : ℕ) → decision ≡ ATTESTS → count ≡ 125 + region
    → item_after region decision count ≡ ReturnRead
attests-return region decision count attests at = grind (arith, nat_tests, item_after-is)

denies-return : (region decision count : ℕ) → (decision == ATTESTS) ≡ false → count ≡ 77
    → item_after region decision count ≡ ReturnRead
denies-return region decision count denies at = grind (arith, nat_tests, item_after-is)

pub return-item : (decision : ℕ) (words : List ℕ) → IsBeforeReturn decision words
    → call_item words ≡ ReturnRead
return-item decision words before =
    elim (cases_Bool (decision_read words == ATTESTS)) [
      | inl attests ↦
          attests-return (region_in words) (decision_read words) (length words)
          (eqb-true (decision_read words) ATTESTS attests)
          (before.count
          ∙ cond-true (decision_read words == ATTESTS) (125 + region_in words) 77 attests)
      | inr denies ↦
          denies-return (region_in words) (decision_read words) (length words) denies
          (before.count
          ∙ cond-false (decision_read words == ATTESTS) (125 + region_in words) 77 denies)
    ]

module _ {D : Type 0} (hash : Hash D) where
  pub pc-returns : (sp decision : ℕ) (call : RomCall)
      → StateStandsFor {D = D} hash (Returns sp decision) call
      → 0xBFFE ≡ rom_pc call
  pc-returns sp decision NoCall stands = absurd stands
  pc-returns sp decision (InCall start words) stands =
      sym (ap item_pc (return-item decision words stands.1))
  pc-returns sp decision (AfterCall end) stands = absurd stands

  pub access-returns : (sp decision : ℕ) (call : RomCall)
      → StateStandsFor {D = D} hash (Returns sp decision) call
      → Some (read_at Word sp) ≡ rom_access hash.digest_of call
  access-returns sp decision NoCall stands = absurd stands
  access-returns sp decision (InCall start words) stands =
      ap (λ place. Some (read_at Word place)) stands.0
      ∙ sym
      (ap (λ item. Some
      (item_access start (bounds_read words) item (written_word hash.digest_of words item)))
      (return-item decision words stands.1))
  access-returns sp decision (AfterCall end) stands = absurd stands

  pub after_value-leaves : (sp decision value : ℕ) (end : CallEnd)
      → end ≡ end_of_call sp value decision
      → (call : RomCall)
      → StateStandsFor {D = D} hash (Returns sp decision) call
      → StateStandsFor {D = D} hash (Leaves end) (after_value hash.digest_of call value)
  after_value-leaves sp decision value end is NoCall stands = absurd stands
  after_value-leaves sp decision value end is (InCall start words) stands =
      subst (StateStandsFor {D = D} hash (Leaves end))
      (sym (ap (λ item. if is_return item
      then AfterCall (end_of_call start value (decision_read words))
      else InCall start (words ++ next_word hash.digest_of start words value ∷ []))
      (return-item decision words stands.1)))
      (rw (is, stands.0, stands.1.same_decision) refl)
  after_value-leaves sp decision value end is (AfterCall left) stands = absurd stands
