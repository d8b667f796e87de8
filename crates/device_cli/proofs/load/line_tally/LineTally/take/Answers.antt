-- Words of a text that comes byte by byte.
use Rattle.std.{proofs.{Common.{◌≡◌, ◌<◌, ◌≤◌, ◌+◌, ◌-◌, ◌%◌, ◌^◌, ◌++◌, ◌∷◌, [], ℕ, Bool, true, false, List, length, take, drop, refl, sym, ap, ◌∙◌, arith, length-append, length-drop, append_assoc, inl, inr}, Math.{Bool.and-false, Nat.{mod-add-mod, le-suc_iff}}, lemmas.List.{take-append-le, drop-append-le, drop-drop, take_all}}, specs.{Prelude.{if◌then◌else◌, slice_set, eqb, codes}, Cmp.Lexicographic.pointwise, List.{starts_with, ends_with}}}
use Rattle.device_cli.specs.{declared.load.line_tally.{LineCounts.LineCounts, LineTally.LineTally}, TextSummary.{TallyStandsFor, no_text, occurrences}}
use Rattle.device_cli.proofs.load.line_tally.LineTally.take.Goals as goal

-- a truth as a number
abbrev one_if : Bool → ℕ
one_if fact = if fact then 1 else 0

same_count : (fact : Bool) (count : ℕ)
    → (if fact then count + 1 else count) ≡ one_if fact + count
same_count true count = omega arith
same_count false count = omega arith

-- a text that is shorter than a word is another
shorter-differs : (word text : List ℕ) → length text < length word
    → pointwise eqb word text ≡ false
shorter-differs [] text shorter = absurd (omega (arith, shorter))
shorter-differs (first ∷ word) [] shorter = refl
shorter-differs (first ∷ word) (byte ∷ text) shorter =
    rw (shorter-differs word text (omega (arith, shorter))) (and-false (eqb first byte))

-- a word at the beginning of a text, and in the rest of it
here_or_later : (word text : List ℕ) (byte : ℕ)
    → occurrences word (byte ∷ text)
    ≡ one_if (starts_with eqb (byte ∷ text) word) + occurrences word text
unfolding occurrences
here_or_later word text byte =
    same_count (starts_with eqb (byte ∷ text) word) (occurrences word text)

-- a text that is shorter than a word has it nowhere
none_in-shorter : (word text : List ℕ) → length text < length word → occurrences word text ≡ 0
unfolding occurrences
none_in-shorter word [] shorter = refl
none_in-shorter word (byte ∷ text) shorter =
    rw (
      take_all (length word) (byte ∷ text) (omega (arith, shorter)),
      shorter-differs word (byte ∷ text) shorter,
    )
    (none_in-shorter word text (omega (arith, shorter)))

-- one of its length ends with it where it is the word
ends_with-same_length : (word text : List ℕ) → length text ≡ length word
    → ends_with eqb text word ≡ pointwise eqb word text
ends_with-same_length word text same =
    let nothing : length text - length word ≡ 0 = omega (arith, same) in
    rw nothing refl

one_in-same_length : (word text : List ℕ) → length text ≡ length word → 0 < length word
    → occurrences word text ≡ one_if (ends_with eqb text word)
one_in-same_length word [] same some = absurd (omega (arith, same, some))
one_in-same_length word (byte ∷ text) same some =
    let whole : starts_with eqb (byte ∷ text) word ≡ pointwise eqb word (byte ∷ text) =
    ap (pointwise eqb word) (take_all (length word) (byte ∷ text) (omega (arith, same))) in
    rw (
      here_or_later word text byte,
      none_in-shorter word text (omega (arith, same)),
      whole,
      ends_with-same_length word (byte ∷ text) same,
    )
    (omega arith)

-- it begins with what a part of it begins with
same_start : (word text more : List ℕ) → length word ≤ length text
    → starts_with eqb (text ++ more) word ≡ starts_with eqb text word
same_start word text more within =
    ap (pointwise eqb word) (take-append-le (length word) text more within)

-- and ends with what a part of it ends with
same_end : (word text : List ℕ) (n : ℕ) → length word + n ≤ length text
    → ends_with eqb (drop n text) word ≡ ends_with eqb text word
same_end word text n within =
    let same : n + (length text - n - length word) ≡ length text - length word =
    omega (arith, within) in
    ap (pointwise eqb word)
    (rw (length-drop n text, drop-drop (length text - n - length word) n text, same) refl)

-- a byte after at least as many as the word has
push_behind : (word text : List ℕ) (start byte : ℕ) → length word ≤ length text
    → occurrences word (text ++ byte ∷ [])
    ≡ occurrences word text + one_if (ends_with eqb (text ++ byte ∷ []) word)
    → occurrences word (start ∷ (text ++ byte ∷ []))
    ≡ occurrences word (start ∷ text)
    + one_if (ends_with eqb (start ∷ (text ++ byte ∷ [])) word)
push_behind word text start byte within pushes =
    let end : ends_with eqb (text ++ byte ∷ []) word
    ≡ ends_with eqb (start ∷ (text ++ byte ∷ [])) word =
    same_end word (start ∷ (text ++ byte ∷ [])) 1
    (rw (length-append text (byte ∷ [])) (omega (arith, within))) in
    rw (
      here_or_later word (text ++ byte ∷ []) start,
      here_or_later word text start,
      pushes,
      same_start word (start ∷ text) (byte ∷ []) (omega (arith, within)),
      end,
    )
    (omega arith)

-- a byte after one less
push_whole : (word text : List ℕ) (start byte : ℕ) → length word ≡ length text + 1
    → occurrences word (start ∷ (text ++ byte ∷ []))
    ≡ occurrences word (start ∷ text)
    + one_if (ends_with eqb (start ∷ (text ++ byte ∷ [])) word)
push_whole word text start byte same =
    let whole : length (text ++ byte ∷ []) ≡ length word =
    length-append text (byte ∷ []) ∙ sym same in
    let end : ends_with eqb (text ++ byte ∷ []) word
    ≡ ends_with eqb (start ∷ (text ++ byte ∷ [])) word =
    same_end word (start ∷ (text ++ byte ∷ [])) 1
    (rw (length-append text (byte ∷ [])) (omega (arith, same))) in
    rw (
      here_or_later word (text ++ byte ∷ []) start,
      here_or_later word text start,
      one_in-same_length word (text ++ byte ∷ []) whole (omega (arith, same)),
      none_in-shorter word text (omega (arith, same)),
      same_start word (start ∷ text) (byte ∷ []) (omega (arith, same)),
      end,
    )
    (omega arith)

-- after one more byte
occurrences-push : (word text : List ℕ) (byte : ℕ) → length word ≤ length text
    → occurrences word (text ++ byte ∷ [])
    ≡ occurrences word text + one_if (ends_with eqb (text ++ byte ∷ []) word)
unfolding occurrences
occurrences-push [] [] byte within = refl
occurrences-push (first ∷ word) [] byte within = absurd (omega (arith, within))
occurrences-push word (start ∷ text) byte within = elim (le-suc_iff.0 within) [
  | inl shorter ↦
      push_behind word text start byte shorter (occurrences-push word text byte shorter)
  | inr same ↦ push_whole word text start byte (omega (arith, same))
]

-- the last bytes after one more
recent-push : (recent text : List ℕ) (byte : ℕ)
    → recent ≡ drop (length text) (no_text ++ text)
    → drop 1 recent ++ byte ∷ []
    ≡ drop (length (text ++ byte ∷ [])) (no_text ++ (text ++ byte ∷ []))
recent-push recent text byte were =
    rw (
      were,
      drop-drop 1 (length text) (no_text ++ text),
      length-append text (byte ∷ []),
      ← append_assoc no_text text (byte ∷ []),
    )
    (sym (drop-append-le (length text + 1) (no_text ++ text) (byte ∷ [])
    (rw length-append (omega arith))))

-- and the count of a word
count-push : (word recent text : List ℕ) (count byte : ℕ) → length word ≤ 12
    → recent ≡ drop (length text) (no_text ++ text)
    → count ≡ occurrences word (no_text ++ text) % 2 ^ 64
    → (count + one_if (ends_with eqb (drop 1 recent ++ byte ∷ []) word)) % 2 ^ 64
    ≡ occurrences word (no_text ++ (text ++ byte ∷ [])) % 2 ^ 64
count-push word recent text count byte short were same_count =
    let before : List ℕ = no_text ++ text in
    let after : List ℕ = before ++ byte ∷ [] in
    let long : length before ≡ 12 + length text = length-append no_text text in
    let ends : ends_with eqb (drop (length (text ++ byte ∷ [])) after) word
    ≡ ends_with eqb after word =
    same_end word after (length (text ++ byte ∷ []))
    (rw (length-append before (byte ∷ []), length-append text (byte ∷ []), long)
    (omega (arith, short))) in
    rw (
      recent-push recent text byte were,
      same_count,
      ← append_assoc no_text text (byte ∷ []),
      ends,
      occurrences-push word before byte (rw long (omega (arith, short))),
    )
    (mod-add-mod (occurrences word before) (2 ^ 64) (one_if (ends_with eqb after word)))

-- a tally after one more byte
tally-push : (tally : LineTally) (text recent : List ℕ) (byte : ℕ)
    → TallyStandsFor tally text
    → recent ≡ drop 1 tally.recent ++ byte ∷ []
    → TallyStandsFor (record {
      recent = recent;
      counts = record {
        sends = (tally.counts.sends + one_if (ends_with eqb recent (codes "\ntx "))) % 2 ^ 64;
        resets = (tally.counts.resets + one_if (ends_with eqb recent (codes "\nreset "))) % 2 ^ 64;
        reports = (tally.counts.reports + one_if (ends_with eqb recent (codes "\nreport2 ")))
            % 2 ^ 64;
        denials = (tally.counts.denials + one_if (ends_with eqb recent (codes "\ndenied ")))
            % 2 ^ 64;
        with_exec = (tally.counts.with_exec
            + one_if (ends_with eqb recent (codes " exec 1 aux "))) % 2 ^ 64;
      };
    }) (text ++ byte ∷ [])
unfolding occurrences
tally-push tally text recent byte stands is =
    let one : (word : List ℕ) (count : ℕ) → length word ≤ 12
    → count ≡ occurrences word (no_text ++ text) % 2 ^ 64
    → (count + one_if (ends_with eqb recent word)) % 2 ^ 64
    ≡ occurrences word (no_text ++ (text ++ byte ∷ [])) % 2 ^ 64 =
    λ word count short same_count.
    rw is (count-push word tally.recent text count byte short stands.recent same_count) in
    record {
      recent = is ∙ recent-push tally.recent text byte stands.recent;
      counts = rw (
        one (codes "\ntx ") tally.counts.sends (omega arith)
            (ap (λ (counts : LineCounts). counts.sends) stands.counts),
        one (codes "\nreset ") tally.counts.resets (omega arith)
            (ap (λ (counts : LineCounts). counts.resets) stands.counts),
        one (codes "\nreport2 ") tally.counts.reports (omega arith)
            (ap (λ (counts : LineCounts). counts.reports) stands.counts),
        one (codes "\ndenied ") tally.counts.denials (omega arith)
            (ap (λ (counts : LineCounts). counts.denials) stands.counts),
        one (codes " exec 1 aux ") tally.counts.with_exec (omega arith)
            (ap (λ (counts : LineCounts). counts.with_exec) stands.counts),
      ) refl;
    }

-- a tally has last bytes
some_recent : (tally : LineTally) (text : List ℕ) → TallyStandsFor tally text
    → 0 < length tally.recent
some_recent tally text stands =
    rw (
      stands.recent,
      length-drop (length text) (no_text ++ text),
      length-append no_text text,
    ) (omega arith)

-- the last bytes as they are turned
turns : (recent : List ℕ) (byte : ℕ) → 0 < length recent
    → drop 1 (slice_set recent 0 byte) ++ take 1 (slice_set recent 0 byte)
    ≡ drop 1 recent ++ byte ∷ []
turns [] byte some = absurd (omega (arith, some))
turns (first ∷ recent) byte some = refl

pub returns : goal.returns
returns c = λ text stands.
    let tally = c.args.self.now in
    rw (
      c.one_more.ensures,
      c.one_more-2.ensures,
      c.one_more-3.ensures,
      c.one_more-4.ensures,
      c.one_more-5.ensures,
    )
    (tally-push tally text c.rotate_left.new.self c.args.byte stands
    (c.rotate_left.ensures.after ∙ turns tally.recent c.args.byte (some_recent tally text stands)))
